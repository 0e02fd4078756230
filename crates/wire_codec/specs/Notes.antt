-- Which bytes spell a command and a note: a tag and fields, in the forms of frames.
use Rattle.std.specs.Prelude.{◌≡◌, ℕ, ◌==◌, if◌then◌else◌, List, [], ◌∷◌, Option, Some, None, Ok, Err}
use Rattle.std.specs.List.{flat_map, AllByRecursion}
use Rattle.wire_msg.specs.declared.command.Command.{Command}
use Rattle.wire_msg.specs.declared.command.Command.TheVariants as command
use Rattle.wire_msg.specs.declared.note.Note.{Note}
use Rattle.wire_msg.specs.declared.note.Note.TheVariants as note
use Rattle.wire_msg.specs.declared.reply.Answer.{Answer}
use Rattle.wire_msg.specs.declared.reply.Answer.TheVariants as answer
use Rattle.wire_msg.specs.declared.reply.Own.{Own}
use Rattle.wire_msg.specs.declared.reply.Own.TheVariants as own
use Rattle.wire_codec.specs.declared.fault.FrameFault.{FrameFault}
use Rattle.wire_codec.specs.Fields.{Field, spelled, Fits}
use Rattle.wire_codec.specs.Kinds.{fields_of_reply, fields_of_why}
use Rattle.wire_codec.specs.Layouts.{Form, Layout, ◌▸◌, end, tagged, behind_reply, why}
use Rattle.wire_codec.specs.Reading.{Reading, walk}

-- ---- what each says

abbrev pub fields_of_command : Command → List Field
fields_of_command (command.Join via) = Field.Tag 1 ∷ Field.Id via ∷ []
fields_of_command (command.Lookup key) = Field.Tag 2 ∷ Field.Id key ∷ []
fields_of_command (command.Insert file copies bytes) = Field.Tag 3 ∷ Field.File file ∷ Field.Copies copies ∷ Field.Bytes bytes ∷ []
fields_of_command (command.Fetch file) = Field.Tag 4 ∷ Field.File file ∷ []
fields_of_command command.GiveUp = Field.Tag 5 ∷ []
fields_of_command (command.Reclaim file) = Field.Tag 6 ∷ Field.File file ∷ []

abbrev pub tag_of_own : Own → ℕ
tag_of_own own.GivenUp = 1
tag_of_own own.Already = 2
tag_of_own own.Spent = 3

abbrev pub fields_of_answer : Answer → List Field
fields_of_answer (answer.Reply r) = Field.Tag 1 ∷ fields_of_reply r
fields_of_answer (answer.Joined left right) = Field.Tag 2 ∷ Field.Id left ∷ Field.Id right ∷ []
fields_of_answer (answer.Denied node w) = Field.Tag 3 ∷ Field.Id node ∷ fields_of_why w
fields_of_answer (answer.Stopped node o) = Field.Tag 4 ∷ Field.Id node ∷ Field.Tag (tag_of_own o) ∷ []
fields_of_answer answer.GaveUp = Field.Tag 5 ∷ []
fields_of_answer answer.NothingToGiveUp = Field.Tag 6 ∷ []

abbrev pub fields_of_note : Note → List Field
fields_of_note (note.Accepted file bytes) = Field.Tag 1 ∷ Field.File file ∷ Field.Bytes bytes ∷ []
fields_of_note (note.Delivered origin number key hops) = Field.Tag 2 ∷ Field.Id origin ∷ Field.Number number ∷ Field.Id key ∷ Field.Hops hops ∷ []
fields_of_note (note.Answered origin number r) = Field.Tag 3 ∷ Field.Id origin ∷ Field.Number number ∷ fields_of_reply r
fields_of_note (note.Closed number a) = Field.Tag 4 ∷ Field.Number number ∷ fields_of_answer a
fields_of_note (note.Reclaimed file) = Field.Tag 5 ∷ Field.File file ∷ []

-- the bytes are these fields, one behind another
pub record SpellsFields (bytes : List ℕ) (fields : List Field) : Type 0 where
  pub bytes_are : bytes ≡ flat_map spelled fields
  pub fits : AllByRecursion Fits fields

abbrev pub SpellsCommand : List ℕ → Command → Type 0
SpellsCommand bytes c = SpellsFields bytes (fields_of_command c)

abbrev pub SpellsNote : List ℕ → Note → Type 0
SpellsNote bytes n = SpellsFields bytes (fields_of_note n)

-- ---- the forms of their fields

abbrev pub behind_command : ℕ → Layout
behind_command tag =
    if tag == 1 then Form.Id ▸ end
    else (if tag == 2 then Form.Id ▸ end
    else (if tag == 3 then Form.File ▸ Form.Copies ▸ Form.Bytes ▸ end
    else (if tag == 5 then end
    else Form.File ▸ end)))

abbrev pub command_layout : Layout
command_layout = tagged 1 6 behind_command

abbrev pub own_layout : Layout
own_layout = tagged 1 3 (λ tag. end)

abbrev pub reply_layout : Layout
reply_layout = tagged 1 11 behind_reply

abbrev pub behind_answer : ℕ → Layout
behind_answer tag =
    if tag == 1 then reply_layout
    else (if tag == 2 then Form.Id ▸ Form.Id ▸ end
    else (if tag == 3 then Form.Id ▸ why
    else (if tag == 4 then Form.Id ▸ own_layout
    else end)))

abbrev pub answer_layout : Layout
answer_layout = tagged 1 6 behind_answer

abbrev pub behind_note : ℕ → Layout
behind_note tag =
    if tag == 1 then Form.File ▸ Form.Bytes ▸ end
    else (if tag == 2 then Form.Id ▸ Form.Number ▸ Form.Id ▸ Form.Hops ▸ end
    else (if tag == 3 then Form.Id ▸ Form.Number ▸ reply_layout
    else (if tag == 4 then Form.Number ▸ answer_layout
    else Form.File ▸ end)))

abbrev pub note_layout : Layout
note_layout = tagged 1 5 behind_note

-- ---- the first refusal that applies, of bytes that are no such fields

abbrev pub refusal_of_walk : Reading (Unit {0}) → Option FrameFault
refusal_of_walk (Ok ended) = None
refusal_of_walk (Err e) = Some e

abbrev pub command_refusal : List ℕ → Option FrameFault
command_refusal bytes = refusal_of_walk (walk bytes command_layout 0)

abbrev pub note_refusal : List ℕ → Option FrameFault
note_refusal bytes = refusal_of_walk (walk bytes note_layout 0)
