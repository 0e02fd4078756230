-- The lines of an entry: what came, each message that was sent, and each note.
use Rattle.std.specs.Prelude.{ℕ, ◌+◌, ◌-◌, List, [], ◌∷◌, ◌++◌, Option, Some, None, get_or, length, codes, decimal}
use Rattle.ring_math.specs.Names.{Id}
use Rattle.wire_msg.specs.declared.note.Note.{Note}
use Rattle.wire_msg.specs.declared.note.Note.TheVariants as note
use Rattle.wire_msg.specs.Words.{Envelope}
use Rattle.overlay_rules.specs.declared.entry.Entry.{Entry}
use Rattle.overlay_rules.specs.declared.entry.Event.{Event}
use Rattle.overlay_rules.specs.declared.entry.Event.TheVariants as event
use Rattle.overlay_rules.specs.Record.{visit}
use Rattle.scenario_reader.specs.Plain.{PlainScenario}
use Rattle.delivery_report.specs.Answers.{name_of, bytes_text, reply_text}
use Rattle.delivery_report.specs.Deliveries.{delivery_line, node_of}
use Rattle.delivery_report.specs.Report.{command_line}
use Rattle.message_table.specs.Labels.{command_lines, command_text, label_of}
use Rattle.message_table.specs.Messages.{asker_text, message_text}

-- what came: a command of a line, a message, or noise
abbrev pub event_text : PlainScenario → Event → List ℕ
event_text s (event.Command x number c) =
    codes " command " ++ decimal number ++ codes " line " ++ decimal (get_or (command_lines s.actions) (number - 1) 0) ++ codes " "
    ++ command_text s.nodes s.files c
event_text s (event.Deliver m) = codes " message " ++ decimal m
event_text s (event.Noise x) = codes " noise"

-- entry n: what came to node x
abbrev pub event_line : PlainScenario → ℕ → Id → Event → List ℕ
event_line s n x e = codes "entry " ++ decimal n ++ codes " at " ++ name_of s.nodes x ++ event_text s e ++ codes "\n"

-- message m
abbrev pub message_line : PlainScenario → ℕ → Envelope → List ℕ
message_line s m v =
    codes "  message " ++ decimal m ++ codes " from " ++ name_of s.nodes v.sender ++ codes " to " ++ name_of s.nodes v.receiver ++ codes " "
    ++ message_text s.nodes s.files v.message ++ codes "\n"

-- messages, the first being message m
abbrev pub message_lines : PlainScenario → ℕ → List Envelope → List ℕ
message_lines s m [] = []
message_lines s m (v ∷ vs) = message_line s m v ++ message_lines s (m + 1) vs

-- a note of node x, in the words of the report where that has a line for it
abbrev pub note_text : PlainScenario → Id → Note → List ℕ
note_text s x (note.Accepted file bytes) = codes "accepted " ++ label_of s.files file ++ codes " " ++ bytes_text bytes ++ codes "\n"
note_text s x (note.Delivered origin number key hops) = delivery_line s.nodes x (note.Delivered origin number key hops)
note_text s x (note.Answered origin number r) = codes "answered" ++ asker_text s.nodes origin number ++ codes " " ++ reply_text s.nodes r ++ codes "\n"
note_text s x (note.Closed number a) = command_line s.nodes number (Some a)
note_text s x (note.Reclaimed file) = codes "reclaimed " ++ label_of s.files file ++ codes "\n"

abbrev pub note_line : PlainScenario → Id → Note → List ℕ
note_line s x n = codes "  note " ++ note_text s x n

abbrev pub note_lines : PlainScenario → Id → List Note → List ℕ
note_lines s x [] = []
note_lines s x (n ∷ ns) = note_line s x n ++ note_lines s x ns

-- the lines of entry n, which was made at this node and sent message m first
abbrev pub lines_at : PlainScenario → ℕ → Option Id → ℕ → Entry → List ℕ
lines_at s n None m e = []
lines_at s n (Some x) m e = event_line s n x e.event ++ message_lines s m e.messages ++ note_lines s x e.notes

-- the lines of entry n, before which these were sent
abbrev pub entry_text : PlainScenario → ℕ → List Envelope → Entry → List ℕ
entry_text s n sent e = lines_at s n (node_of (visit sent e.event)) (length sent) e

-- entries, the first being entry n, before which these were sent
abbrev pub entries_text : PlainScenario → ℕ → List Envelope → List Entry → List ℕ
entries_text s n sent [] = []
entries_text s n sent (e ∷ es) = entry_text s n sent e ++ entries_text s (n + 1) (sent ++ e.messages) es
