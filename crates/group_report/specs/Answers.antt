-- How the commands of a script were answered, as lines.
use Rattle.std.specs.Prelude.{◌≡◌, ◌<◌, ◌≤◌, ℕ, ◌==◌, if◌then◌else◌, List, [], ◌∷◌, ◌++◌, Option, Some, None, codes, decimal, flat_map, length, slice_index_or}
use Rattle.ring_math.specs.Names.{Number}
use Rattle.scribe_core.specs.declared.action.GroupAction.{GroupAction}
use Rattle.scribe_core.specs.declared.action.GroupWhat.{GroupWhat}
use Rattle.scribe_core.specs.declared.action.GroupWhat.TheVariants as what
use Rattle.scribe_core.specs.declared.note.GroupNote.{GroupNote}
use Rattle.scribe_core.specs.declared.note.GroupNote.TheVariants as note
use Rattle.group_report.specs.declared.answers.Answer.{Answer}
use Rattle.group_report.specs.declared.answers.Answer.TheVariants as answer

-- a note's answer to a command, with the command's number
abbrev pub answer_in : GroupNote → Option (Number × Answer)
answer_in (note.Subscribed n) = Some (n, answer.Subscribed)
answer_in (note.Left n) = Some (n, answer.Left)
answer_in (note.Published n) = Some (n, answer.Published)
answer_in (note.Refused n) = Some (n, answer.Refused)
answer_in (note.Heard name n bytes) = None

-- the first answer to command n
abbrev pub answer_by : Number → Option (Number × Answer) → Option Answer → Option Answer
answer_by n None later = later
answer_by n (Some a) later = if a.0 == n then Some a.1 else later

abbrev pub or_later : Option Answer → Option Answer → Option Answer
or_later None later = later
or_later (Some a) later = Some a

abbrev pub answer_to : Number → List GroupNote → Option Answer
answer_to n [] = None
answer_to n (a ∷ notes) = answer_by n (answer_in a) (answer_to n notes)

abbrev pub answer_text : Answer → List ℕ
answer_text answer.Subscribed = codes " subscribed\n"
answer_text answer.Left = codes " left\n"
answer_text answer.Published = codes " published\n"
answer_text answer.Refused = codes " refused\n"

-- no line where there is no answer
abbrev pub answer_line : Number → Option Answer → List ℕ
answer_line n None = []
answer_line n (Some a) = decimal n ++ answer_text a

abbrev pub action_line : List GroupNote → GroupWhat → List ℕ
action_line notes (what.Command n node name c) = answer_line n (answer_to n notes)
action_line notes (what.Settle n) = []
action_line notes (what.Deliver m) = []

-- a line for each command of these actions, of which this was noted
abbrev pub answer_lines : List GroupAction → List GroupNote → List ℕ
answer_lines actions notes = flat_map (λ (a : GroupAction). action_line notes a.what) actions

-- a command's number is at most this one
abbrev pub IsNumberedUpTo : Number → GroupWhat → Type 0
IsNumberedUpTo most (what.Command n node name c) = n ≤ most
IsNumberedUpTo most (what.Settle n) = Unit {0}
IsNumberedUpTo most (what.Deliver m) = Unit {0}

-- for each number below this one the first answer to its command
pub record HasAnswers (below : Number) (answers : List (Option Answer)) (notes : List GroupNote) : Type 0 where
  pub count : length answers ≡ below
  pub each : (n : Number) → n < below → slice_index_or answers n None ≡ answer_to n notes
