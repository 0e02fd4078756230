-- Which commands are closed: a number is of one command alone.
use Rattle.std.specs.Prelude.{List, Contains}
use Rattle.ring_math.specs.Names.{Number}
use Rattle.wire_msg.specs.declared.note.Note.TheVariants as note
use Rattle.wire_msg.specs.declared.reply.Answer.{Answer}
use Rattle.overlay_rules.specs.declared.entry.Entry.{Entry}
use Rattle.overlay_rules.specs.Table.{notes_in}

-- command n has a note Closed
abbrev pub IsClosed : List Entry → Number → Type 0
IsClosed es n = (a : Answer) × Contains (notes_in es) (note.Closed n a)
