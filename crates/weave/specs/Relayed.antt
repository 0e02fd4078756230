-- Cells that are given what happens in a record, and the frames that they sent.
use Rattle.std.specs.Prelude.{◌≡◌, ◌<◌, ◌==◌, ℕ, Some, List, [], ◌∷◌, ◌++◌, map, All, Contains, slice_get, slice_set}
use Rattle.std.specs.List.{AllZip}
use Rattle.ring_math.specs.Names.{Id}
use Rattle.wire_msg.specs.Words.{Envelope}
use Rattle.wire_codec.specs.Spelling.{Spells}
use Rattle.overlay_rules.specs.declared.entry.Event.{Event}
use Rattle.overlay_rules.specs.declared.entry.Event.TheVariants as event
use Rattle.overlay_rules.specs.Record.{Setting}
use Rattle.weave_laws.specs.Cells.{CellInput, CellEntry, Command, Comes, Noise, IsFor}
use Rattle.weave_laws.specs.Numbers.{IsNumberedAfter}
use Rattle.weave_laws.specs.Woven.{Act}
use Rattle.node_cell.specs.Cell.{Cell, with_input}
use Rattle.node_cell.specs.Faults.{greater_stamp}
use Rattle.node_cell.specs.Reading.{IsInputOf}
use Rattle.node_cell.specs.declared.fault.TheConstants.{LAST_STAMP}
use Rattle.weave.specs.declared.relay.Letter.{Letter}
use Rattle.weave.specs.Cells.{HasNoPasses, histories}
use Rattle.weave.specs.Through.{history_by}

-- the cells of a setting's nodes, which added these entries
pub record Hold (g : Setting) (acts : List Act) (cells : List Cell) : Type 0 where
  pub histories_are : histories cells ≡ map (history_by acts) g.nodes
  pub founders : All (λ (c : Cell). c.is_founder ≡ (c.node == g.founder)) cells
  pub without : All HasNoPasses cells

-- a frame of the envelope, for its receiver
pub record IsLetter (l : Letter) (v : Envelope) : Type 0 where
  pub receiver : l.receiver ≡ v.receiver
  pub spells : Spells l.frame v

abbrev pub AreLetters : List Letter → List Envelope → Type 0
AreLetters letters sent = AllZip IsLetter letters sent

-- the letters of one entry more
pub record Kept (before : List Letter) (sent : List Envelope) (after : List Letter) : Type 0 where
  pub more : List Letter
  pub all : after ≡ before ++ more
  pub theirs : AreLetters more sent

-- the cell takes the input in, if memory is left: it is its node's, a command's number is the greatest, there is a stamp, and
-- the cell has no passes
pub record CanTake (c : Cell) (i : CellInput) : Type 0 where
  pub addressed : IsFor c.node i
  pub numbered : All (λ e. IsNumberedAfter e.input i) c.history
  pub in_time : greater_stamp c i < LAST_STAMP
  pub without : HasNoPasses c

pub record CanTakeAt (cells : List Cell) (place : ℕ) (i : CellInput) : Type 0 where
  pub cell : Cell
  pub there : slice_get cells place ≡ Some cell
  pub can : CanTake cell i

-- the bytes are this input to the node at the place
pub record AreInputAt (cells : List Cell) (place : ℕ) (bytes : List ℕ) (i : CellInput) : Type 0 where
  pub cell : Cell
  pub there : slice_get cells place ≡ Some cell
  pub is : IsInputOf cell.node bytes i

-- and its cell takes it in
pub record CanTakeBytes (cells : List Cell) (place : ℕ) (bytes : List ℕ) : Type 0 where
  pub input : CellInput
  pub are : AreInputAt cells place bytes input
  pub can : CanTake are.cell input

-- the cell at the place took the input in, and the others are as before
pub record TookAt (before : List Cell) (place : ℕ) (i : CellInput) (after : List Cell) : Type 0 where
  pub cell : Cell
  pub there : slice_get before place ≡ Some cell
  pub after_is : after ≡ slice_set before place (with_input cell i)

-- the same of a node's cell
pub record CanTakeFor (nodes : List Id) (cells : List Cell) (x : Id) (i : CellInput) : Type 0 where
  pub among : Contains nodes x
  pub at : (place : ℕ) → slice_get nodes place ≡ Some x → CanTakeAt cells place i

pub record TookFor (nodes : List Id) (before : List Cell) (x : Id) (i : CellInput) (place : ℕ) (after : List Cell) : Type 0 where
  pub node : slice_get nodes place ≡ Some x
  pub took : TookAt before place i after

-- the cell of the letter's receiver takes its envelope in
pub record CanTakeLetter (nodes : List Id) (cells : List Cell) (l : Letter) : Type 0 where
  pub envelope : Envelope
  pub is : IsLetter l envelope
  pub can : CanTakeFor nodes cells envelope.receiver (Comes envelope)

abbrev pub TookLetter : List Id → List Cell → Letter → ℕ → List Cell → Type 0
TookLetter nodes before l place after = (v : Envelope) → IsLetter l v → TookFor nodes before v.receiver (Comes v) place after

-- there is a letter with this number, which can be handed over
pub record CanHandOver (nodes : List Id) (cells : List Cell) (letters : List Letter) (m : ℕ) : Type 0 where
  pub letter : Letter
  pub there : slice_get letters m ≡ Some letter
  pub can : CanTakeLetter nodes cells letter

-- the event comes to a cell, which takes it in
abbrev pub CanHappen : List Id → List Cell → List Letter → Event → Type 0
CanHappen nodes cells letters (event.Command x n c) = CanTakeFor nodes cells x (Command n c)
CanHappen nodes cells letters (event.Deliver m) = CanHandOver nodes cells letters m
CanHappen nodes cells letters (event.Noise x) = CanTakeFor nodes cells x Noise

-- and took it in
abbrev pub Happened : List Id → List Cell → List Letter → Event → ℕ → List Cell → Type 0
Happened nodes before letters (event.Command x n c) place after = TookFor nodes before x (Command n c) place after
Happened nodes before letters (event.Deliver m) place after = (l : Letter) → slice_get letters m ≡ Some l → TookLetter nodes before l place after
Happened nodes before letters (event.Noise x) place after = TookFor nodes before x Noise place after

-- with the letters of the entry that the cell at the place added
pub record Relayed (nodes : List Id) (before : List Cell) (letters : List Letter) (v : Event) (after : List Cell) (others : List Letter) : Type 0 where
  pub place : ℕ
  pub happened : Happened nodes before letters v place after
  pub kept : (c : Cell) (es : List CellEntry) (e : CellEntry) → slice_get after place ≡ Some c → c.history ≡ es ++ e ∷ [] → Kept letters e.sent others
