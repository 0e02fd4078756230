-- What bytes are to a node.
use Rattle.std.specs.Prelude.{◌≡◌, ◌==◌, ℕ, if◌then◌else◌, List}
use Rattle.ring_math.specs.Names.{Id}
use Rattle.wire_msg.specs.Words.{Envelope}
use Rattle.wire_codec.specs.Spelling.{Spells}
use Rattle.weave_laws.specs.Cells.{CellInput, Command, Comes, Noise}

-- a frame of an envelope that is addressed to the node
pub record IsFrameOf (x : Id) (bytes : List ℕ) (v : Envelope) : Type 0 where
  pub spells : Spells bytes v
  pub addressed : v.receiver ≡ x

-- what an envelope is to the node
abbrev pub input_for : Id → Envelope → CellInput
input_for x v = if v.receiver == x then Comes v else Noise

-- such a frame is its envelope, and all else is noise
abbrev pub IsInputOf : Id → List ℕ → CellInput → Type 0
IsInputOf x bytes (Comes v) = IsFrameOf x bytes v
IsInputOf x bytes Noise = (v : Envelope) → IsFrameOf x bytes v → ⊥
IsInputOf x bytes (Command n c) = ⊥
