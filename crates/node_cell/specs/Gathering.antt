-- What becomes of the passes of cells that are gathered.
use Rattle.std.specs.Prelude.{◌≡◌, ◌<◌, ℕ, ◌+◌, None, List, [], ◌∷◌, length, Contains}
use Rattle.std.specs.List.{sum_by}
use Rattle.wire_msg.specs.Words.{Envelope}
use Rattle.wire_codec.specs.Spelling.{Spells}
use Rattle.node_mailbox.specs.Pass.{PassView}
use Rattle.node_mailbox.specs.Post.{PostView, pass_at, after_joins}
use Rattle.node_mailbox.specs.declared.limits.TheConstants.{ALL_PARTS}
use Rattle.node_cell.specs.Cell.{Cell}
use Rattle.node_cell.specs.Equipped.{parts_at, passes_of}

-- the passes of all cells, joined in order
abbrev pub all_joined : List PassView → List Cell → List PassView
all_joined own [] = own
all_joined own (c ∷ cs) = all_joined (after_joins own (passes_of c)) cs

abbrev pub without_passes : Cell → Cell
without_passes c = record c { carried = None }

-- together they have all parts of each mailbox
pub record HaveAllParts (post : PostView) (own : List PassView) (cells : List Cell) : Type 0 where
  pub parts : (place : ℕ) → place < length post.nodes → (pass_at own place).parts + sum_by (parts_at place) cells ≡ ALL_PARTS

-- no frame that these passes put spells an envelope
pub record PutNoiseAlone (passes : List PassView) : Type 0 where
  pub noise : (place : ℕ) (frame : List ℕ) (v : Envelope) → Contains (pass_at passes place).put frame → Spells frame v → ⊥

-- a pass has all parts of its mailbox
abbrev pub HasAllParts : PassView → Type 0
HasAllParts p = p.parts ≡ ALL_PARTS
