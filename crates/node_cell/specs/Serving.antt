-- Which frame a cell serves, and what it is after it.
use Rattle.std.specs.Prelude.{◌≡◌, ℕ, Option, Some, None, List, slice_get, slice_set}
use Rattle.ring_math.specs.Names.{Id}
use Rattle.node_mailbox.specs.Pass.{after_take, TookAllPut}
use Rattle.node_mailbox.specs.Post.{PostView, pass_at}
use Rattle.node_cell.specs.declared.carried.Carried.{Carried}
use Rattle.node_cell.specs.declared.fault.CellFault.{CellFault}
use Rattle.node_cell.specs.Cell.{Cell}
use Rattle.node_cell.specs.Taken.{TookBytes, IsDueToBytes}

-- the frame was taken from the mailbox at this place, and is in hand
abbrev pub with_taken : ℕ → List ℕ → Carried → Carried
with_taken place frame c = record c { passes = slice_set c.passes place (after_take (pass_at c.passes place) frame); in_hand = Some frame }

abbrev pub hand_empty : Carried → Carried
hand_empty c = record c { in_hand = None }

abbrev pub holding : List ℕ → Carried → Carried
holding frame c = record c { in_hand = Some frame }

-- the frame that the cell of node x serves next, and what it carries with that frame in hand: the frame in hand stays there, and
-- with none the next one of its own mailbox is taken
abbrev pub TakesInHand : PostView → Id → Option (List ℕ) → Carried → List ℕ → Carried → Type 0
TakesInHand post x (Some f) c frame held = (frame ≡ f) × (held ≡ c)
TakesInHand post x None c frame held = (place : ℕ) × (slice_get post.nodes place ≡ Some x) × (held ≡ with_taken place frame c)

-- the frame that a cell serves next, and what it carries with that frame in hand
pub record HasInHand (post : PostView) (before : Cell) (frame : List ℕ) (held : Carried) : Type 0 where
  pub carried : Carried
  pub was : before.carried ≡ Some carried
  pub takes : TakesInHand post before.node carried.in_hand carried frame held

-- this frame was taken in as bytes that came, and is in hand no longer
pub record Served (post : PostView) (before after : Cell) : Type 0 where
  pub frame : List ℕ
  pub held : Carried
  pub next : HasInHand post before frame held
  pub took : TookBytes (record before { carried = Some (hand_empty held) }) frame after

-- this frame was not taken in, and is in hand
pub record Refused (post : PostView) (before : Cell) (fault : CellFault) (after : Cell) : Type 0 where
  pub frame : List ℕ
  pub held : Carried
  pub next : HasInHand post before frame held
  pub in_hand : held.in_hand ≡ Some frame
  pub kept : after ≡ record before { carried = Some held }
  pub due : IsDueToBytes before frame fault

-- no frame is in hand, and the own mailbox was found empty
pub record FoundNone (post : PostView) (c : Cell) : Type 0 where
  pub carried : Carried
  pub was : c.carried ≡ Some carried
  pub no_hand : carried.in_hand ≡ None
  pub place : ℕ
  pub own : slice_get post.nodes place ≡ Some c.node
  pub empty : TookAllPut (pass_at carried.passes place)
