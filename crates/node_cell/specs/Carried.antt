-- What a cell carries while it serves from mailboxes, and what it keeps of it by its type.
use Rattle.std.specs.Prelude.{◌≡◌, ◌≢◌, ◌++◌, ℕ, Option, Some, None, option_to_list, List, [], ◌∷◌, Contains}
use Rattle.std.specs.List.{AllZip, flat_map}
use Rattle.ring_math.specs.Names.{Id}
use Rattle.wire_msg.specs.Words.{Envelope}
use Rattle.wire_codec.specs.Spelling.{Spells}
use Rattle.weave_laws.specs.Cells.{CellInput, CellEntry, Command, Comes, Noise}
use Rattle.node_mailbox.specs.Pass.{PassView}
use Rattle.node_mailbox.specs.Post.{pass_at}
use Rattle.node_cell.specs.declared.carried.Carried.{Carried}
use Rattle.node_cell.specs.Reading.{IsInputOf}
use Rattle.node_cell.specs.Sent.{sent_by}

-- passes that have just been given, with no frame in hand and no copy put
abbrev pub just_given : List PassView → Carried
just_given passes = record { passes = passes; in_hand = None; copies = 0 }

-- an input that comes in a frame; a command comes in none
abbrev pub in_frame : CellInput → List CellInput
in_frame (Command n c) = []
in_frame (Comes v) = Comes v ∷ []
in_frame Noise = Noise ∷ []

-- the envelopes and the noise of a history, in order
abbrev pub came_in_frames : List CellEntry → List CellInput
came_in_frames es = flat_map (λ (e : CellEntry). in_frame e.input) es

-- The cell of node x took from one mailbox alone: one by one and in order, a frame for each envelope or noise of its history,
-- followed by the frame in hand. The frame for an envelope is its spelling, and that for noise is no frame addressed to x.
pub record HasTaken (x : Id) (es : List CellEntry) (c : Carried) : Type 0 where
  pub own : ℕ
  pub frames : List (List ℕ)
  pub each : AllZip (IsInputOf x) frames (came_in_frames es)
  pub taken : (pass_at c.passes own).taken ≡ frames ++ option_to_list c.in_hand
  pub others : (y : ℕ) → y ≢ own → (pass_at c.passes y).taken ≡ []

-- the frame is the spelling of an envelope that the history sent
pub record SpellsSent (es : List CellEntry) (frame : List ℕ) : Type 0 where
  pub envelope : Envelope
  pub sent : Contains (sent_by es) envelope
  pub spells : Spells frame envelope

-- each frame that was put is such a one
pub record HasPut (es : List CellEntry) (passes : List PassView) : Type 0 where
  pub each : (y : ℕ) (frame : List ℕ) → Contains (pass_at passes y).put frame → SpellsSent es frame

-- what the passes of the cell of node x keep, with its history
pub record KeepsPasses (x : Id) (es : List CellEntry) (c : Carried) : Type 0 where
  pub taken : HasTaken x es c
  pub put : HasPut es c.passes

abbrev pub KeepsCarried : Id → List CellEntry → Option Carried → Type 0
KeepsCarried x es None = Unit {0}
KeepsCarried x es (Some c) = KeepsPasses x es c

-- a command comes in no frame, and nothing else does where the cell has no passes
abbrev pub IsBesidePasses : Option Carried → CellInput → Type 0
IsBesidePasses carried (Command n c) = Unit {0}
IsBesidePasses carried (Comes v) = carried ≡ None
IsBesidePasses carried Noise = carried ≡ None
