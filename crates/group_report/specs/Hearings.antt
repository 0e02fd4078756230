-- What members heard, as lines.
use Rattle.std.specs.Prelude.{ℕ, List, [], ◌∷◌, ◌++◌, Option, Some, None, codes, decimal, flat_map}
use Rattle.ring_math.specs.Names.{Id}
use Rattle.scenario_reader.specs.declared.node.NodeLine.{NodeLine}
use Rattle.scribe_core.specs.Entry.{GroupEntry}
use Rattle.scribe_core.specs.declared.message.GroupSent.{GroupSent}
use Rattle.scribe_core.specs.declared.note.GroupNote.{GroupNote}
use Rattle.scribe_core.specs.declared.note.GroupNote.TheVariants as note
use Rattle.scribe_core.specs.Record.{Visit, visit}
use Rattle.delivery_report.specs.Answers.{bytes_text, name_of}

-- the line of a note of node x: none, unless something was heard
abbrev pub hearing_line : List NodeLine → Id → GroupNote → List ℕ
hearing_line nodes x (note.Subscribed n) = []
hearing_line nodes x (note.Left n) = []
hearing_line nodes x (note.Published n) = []
hearing_line nodes x (note.Refused n) = []
hearing_line nodes x (note.Heard group n bytes) =
    codes "heard " ++ decimal n ++ codes " by " ++ name_of nodes x ++ codes " " ++ group ++ codes " " ++ bytes_text bytes ++ codes "\n"

-- the lines of an entry, whose node is that of its event
abbrev pub entry_lines : List NodeLine → Option Visit → List GroupNote → List ℕ
entry_lines nodes None notes = []
entry_lines nodes (Some at) notes = flat_map (hearing_line nodes at.node) notes

-- the lines of these entries, before which this was sent
abbrev pub lines_after : List NodeLine → List GroupSent → List GroupEntry → List ℕ
lines_after nodes sent [] = []
lines_after nodes sent (e ∷ es) = entry_lines nodes (visit sent e.event) e.notes ++ lines_after nodes (sent ++ e.messages) es

abbrev pub hearing_lines : List NodeLine → List GroupEntry → List ℕ
hearing_lines nodes es = lines_after nodes [] es
