-- Lines and their answers, one after another: a fold of the node's steps, with the stamps of its cell.
use Rattle.std.specs.Prelude.{◌≡◌, ℕ, ◌+◌, ◌==◌, max, Bool, if◌then◌else◌, List, [], ◌∷◌, ◌++◌, Ok, Err}
use Rattle.ring_math.specs.Names.{Id, Stamp}
use Rattle.overlay_rules.specs.State.{State, start}
use Rattle.overlay_rules.specs.Step.{step}
use Rattle.weave_laws.specs.Cells.{CellInput, CellEntry, Command, input_of, input_stamp}
use Rattle.weave_laws.specs.Given.{next_entry}
use Rattle.node_cell.specs.Live.{Live, IsAt}
use Rattle.node_cell.specs.Reading.{IsInputOf}
use Rattle.node_cell.specs.declared.fault.TheConstants.{LAST_STAMP}
use Rattle.node_lines.specs.declared.refusal.Refusal.TheVariants.{Spent}
use Rattle.node_lines.specs.declared.told.Told.{Told}
use Rattle.node_lines.specs.declared.told.Told.TheVariants as told
use Rattle.node_lines.specs.Commands.{Reading}
use Rattle.node_lines.specs.Lines.{told_by}
use Rattle.node_process.specs.Texts.{entry_lines, refused_line}

-- how far a node is: how many commands it was told, its last stamp and its state
pub record Talk : Type 0 where
  pub node : Id
  pub commands : ℕ
  pub last : Stamp
  pub state : State

abbrev pub talk_at_start : Id → Bool → Talk
talk_at_start x founder = record { node = x; commands = 0; last = 0; state = start x founder }

-- what is told is this input: a command has the next number, and bytes are what they are to the node
abbrev pub IsInputTold : Talk → Told → CellInput → Type 0
IsInputTold t (told.Does c) i = i ≡ Command (t.commands + 1) c
IsInputTold t (told.Comes bytes) i = IsInputOf t.node bytes i

-- no stamp is left for the input
abbrev pub is_spent : Talk → CellInput → Bool
is_spent t i = max t.last (input_stamp i) == LAST_STAMP

-- the entry that the node's cell would add
abbrev pub entry_of : Talk → CellInput → CellEntry
entry_of t i = next_entry t.node t.last t.state i

-- one command more, if what was told is one
abbrev pub commands_with : ℕ → Told → ℕ
commands_with n (told.Does c) = n + 1
commands_with n (told.Comes bytes) = n

abbrev pub after_input : Talk → Told → CellInput → Talk
after_input t tell i = record {
  node = t.node;
  commands = commands_with t.commands tell;
  last = (entry_of t i).stamp;
  state = (step t.state (input_of i)).state;
}

-- the answer to what is told, and how far the node is then
pub record IsAnsweredTo (t : Talk) (tell : Told) (text : List ℕ) (u : Talk) : Type 0 where
  pub input : CellInput
  pub is : IsInputTold t tell input
  pub answer : text ≡ (if is_spent t input then refused_line Spent else entry_lines (entry_of t input))
  pub after_is : u ≡ (if is_spent t input then t else after_input t tell input)

-- the answer to a line: where it is none, the cause is told and nothing changes
abbrev pub IsAnswer : Talk → Reading Told → List ℕ → Talk → Type 0
IsAnswer t (Ok tell) text u = IsAnsweredTo t tell text u
IsAnswer t (Err refusal) text u = (text ≡ refused_line refusal) × (u ≡ t)

abbrev pub IsAnswered : Talk → List ℕ → List ℕ → Talk → Type 0
IsAnswered t line text u = IsAnswer t (told_by line) text u

-- several lines, one after another
pub record IsFirstAnswered (t : Talk) (line : List ℕ) (rest : Talk → List ℕ → Type 0) (text : List ℕ) : Type 0 where
  pub first : List ℕ
  pub later : Talk
  pub behind : List ℕ
  pub answered : IsAnswered t line first later
  pub others : rest later behind
  pub all : text ≡ first ++ behind

abbrev pub AreAnswered : Talk → List (List ℕ) → List ℕ → Talk → Type 0
AreAnswered t [] text u = (text ≡ []) × (u ≡ t)
AreAnswered t (line ∷ lines) text u = IsFirstAnswered t line (λ v behind. AreAnswered v lines behind u) text

-- what a process is seen as
pub record Process : Type 0 where
  pub live : Live
  pub commands : ℕ

-- the process is as far
pub record IsAsFar (p : Process) (t : Talk) : Type 0 where
  pub is_at : IsAt p.live t.node t.last t.state
  pub commands_are : p.commands ≡ t.commands

-- the answer was added to a text, and the process is as far as the node is then
pub record Added (answers : List ℕ → Talk → Type 0) (p : Process) (before text : List ℕ) : Type 0 where
  pub answer : List ℕ
  pub later : Talk
  pub is : answers answer later
  pub far : IsAsFar p later
  pub added : text ≡ before ++ answer
