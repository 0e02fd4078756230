-- Every closing of a command is right: those of joins and of giving up, and those that hand a reply on.
use Rattle.std.specs.Prelude.{List}
use Rattle.wire_msg.specs.declared.note.Note.{Note}
use Rattle.wire_msg.specs.declared.note.Note.TheVariants as note
use Rattle.overlay_rules.specs.declared.entry.Entry.{Entry}
use Rattle.overlay_rules.specs.Record.{Setting}
use Rattle.overlay_rules.specs.Moments.{Moment, EachNote}
use Rattle.overlay_rules.specs.Rightly.{RightlyClosed}

-- of a closing: it is right
abbrev pub RightClosing : Setting → List Entry → Moment → Note → Type 0
RightClosing g es m (note.Closed n a) = RightlyClosed g es m n a
RightClosing g es m (note.Delivered o n key hops) = Unit {0}
RightClosing g es m (note.Answered o n r) = Unit {0}
RightClosing g es m (note.Accepted f b) = Unit {0}
RightClosing g es m (note.Reclaimed f) = Unit {0}

abbrev pub ClosingsAreRight : Setting → List Entry → Type 0
ClosingsAreRight g es = EachNote g (RightClosing g es) es
