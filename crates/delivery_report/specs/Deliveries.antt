-- How the deliveries of a record are printed.
use Rattle.std.specs.Prelude.{ℕ, List, [], ◌∷◌, ◌++◌, option_map, Option, Some, None, codes, decimal}
use Rattle.ring_math.specs.Texts.{text_of}
use Rattle.wire_msg.specs.declared.note.Note.{Note}
use Rattle.wire_msg.specs.declared.note.Note.TheVariants as note
use Rattle.wire_msg.specs.Words.{Envelope}
use Rattle.overlay_rules.specs.declared.entry.Entry.{Entry}
use Rattle.overlay_rules.specs.Record.{Visit, visit}
use Rattle.scenario_reader.specs.declared.node.NodeLine.{NodeLine}
use Rattle.delivery_report.specs.Answers.{name_of}

-- the line of a note of node x: none, unless the note is a delivery
abbrev pub delivery_line : List NodeLine → ℕ → Note → List ℕ
delivery_line nodes x (note.Delivered origin number key hops) =
    codes "delivery " ++ decimal number ++ codes " of " ++ text_of key ++ codes " by " ++ name_of nodes x ++ codes " hops " ++ decimal hops ++ codes "\n"
delivery_line nodes x (note.Accepted file bytes) = []
delivery_line nodes x (note.Answered origin number r) = []
delivery_line nodes x (note.Closed number a) = []
delivery_line nodes x (note.Reclaimed file) = []

abbrev pub note_lines : List NodeLine → ℕ → List Note → List ℕ
note_lines nodes x [] = []
note_lines nodes x (n ∷ ns) = delivery_line nodes x n ++ note_lines nodes x ns

-- the lines of an entry, whose node is that of its event
abbrev pub entry_lines : List NodeLine → Option Visit → List Note → List ℕ
entry_lines nodes None notes = []
entry_lines nodes (Some at) notes = note_lines nodes at.node notes

-- the lines of these entries, before which this was sent
abbrev pub lines_after : List NodeLine → List Envelope → List Entry → List ℕ
lines_after nodes sent [] = []
lines_after nodes sent (e ∷ es) = entry_lines nodes (visit sent e.event) e.notes ++ lines_after nodes (sent ++ e.messages) es

abbrev pub delivery_lines : List NodeLine → List Entry → List ℕ
delivery_lines nodes es = lines_after nodes [] es

-- the node of an event
abbrev pub node_of : Option Visit → Option ℕ
node_of at = option_map (λ (v : Visit). v.node) at
