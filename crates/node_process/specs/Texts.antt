-- How a line is answered.
use Rattle.std.specs.Prelude.{ℕ, ◌+◌, List, [], ◌++◌, codes, decimal, map}
use Rattle.std.specs.List.{flat_map}
use Rattle.hex.specs.Hex.{encode_lower}
use Rattle.ring_math.specs.Names.{Stamp}
use Rattle.ring_math.specs.Texts.{text_of}
use Rattle.wire_msg.specs.declared.note.Note.{Note}
use Rattle.wire_msg.specs.declared.note.Note.TheVariants as note
use Rattle.weave_laws.specs.Cells.{CellEntry}
use Rattle.delivery_report.specs.Answers.{answer_text, reply_text}
use Rattle.node_cell.specs.declared.frames.Addressed.{Addressed}
use Rattle.node_cell.specs.Cell.{frame_of}
use Rattle.node_lines.specs.declared.refusal.Refusal.{Refusal}
use Rattle.node_lines.specs.declared.refusal.Refusal.TheVariants as refusal

-- what is to be carried, and to whom
abbrev pub send_line : Addressed → List ℕ
send_line a = codes "send " ++ text_of a.receiver ++ codes " " ++ encode_lower a.frame ++ codes "\n"

-- a note, in the words of the report; nodes have no names here
abbrev pub note_text : Note → List ℕ
note_text (note.Accepted file bytes) = codes "accepted " ++ encode_lower file
note_text (note.Delivered origin number key hops) =
    codes "delivered " ++ text_of origin ++ codes " " ++ decimal number ++ codes " of " ++ text_of key ++ codes " hops " ++ decimal hops
note_text (note.Answered origin number r) = codes "answered " ++ text_of origin ++ codes " " ++ decimal number ++ codes " " ++ reply_text [] r
note_text (note.Closed number a) = codes "closed " ++ decimal number ++ codes " " ++ answer_text [] a
note_text (note.Reclaimed file) = codes "reclaimed " ++ encode_lower file

abbrev pub note_line : Note → List ℕ
note_line note = note_text note ++ codes "\n"

abbrev pub done_line : Stamp → List ℕ
done_line stamp = codes "done " ++ decimal stamp ++ codes "\n"

-- what a step sent and noted, and its stamp
abbrev pub entry_lines : CellEntry → List ℕ
entry_lines e = flat_map send_line (map frame_of e.sent) ++ flat_map note_line e.notes ++ done_line e.stamp

-- why a line is none; places are counted from 1
abbrev pub at_place : ℕ → List ℕ
at_place place = decimal (place + 1)

abbrev pub cause_text : Refusal → List ℕ
cause_text refusal.TooLong = codes "too long"
cause_text (refusal.NotText place) = codes "no text at " ++ at_place place
cause_text (refusal.Word place) = codes "unknown word at " ++ at_place place
cause_text (refusal.Count found) = codes "count of words " ++ decimal found
cause_text (refusal.Number place) = codes "no number at " ++ at_place place
cause_text (refusal.Hex place) = codes "no hexadecimal at " ++ at_place place
cause_text (refusal.Limit place) = codes "over limit at " ++ at_place place
cause_text refusal.Spent = codes "stamps spent"

abbrev pub refused_line : Refusal → List ℕ
refused_line e = codes "refused " ++ cause_text e ++ codes "\n"
