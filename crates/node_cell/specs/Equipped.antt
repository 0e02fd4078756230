-- A cell that has passes of a post.
use Rattle.std.specs.Prelude.{◌≡◌, ◌≢◌, ℕ, Option, Some, None, List, [], slice_get, Contains}
use Rattle.ring_math.specs.Names.{Id}
use Rattle.wire_msg.specs.Words.{Envelope}
use Rattle.wire_codec.specs.Spelling.{Spells}
use Rattle.node_mailbox.specs.Pass.{PassView}
use Rattle.node_mailbox.specs.Post.{PostView, AreOf, pass_at}
use Rattle.node_cell.specs.declared.carried.Carried.{Carried}
use Rattle.node_cell.specs.Cell.{Cell}
use Rattle.node_cell.specs.Carried.{KeepsPasses}

-- a pass that has put and taken nothing
pub record IsUnused (p : PassView) : Type 0 where
  pub put : p.put ≡ []
  pub taken : p.taken ≡ []

-- The passes of the cell of node x are of this post. By them it took from its own mailbox alone, and each frame stands in the
-- mailbox of the node that it is addressed to.
pub record AreOwnOf (post : PostView) (x : Id) (passes : List PassView) : Type 0 where
  pub of : AreOf passes post
  pub own : (y : ℕ) → slice_get post.nodes y ≢ Some x → (pass_at passes y).taken ≡ []
  pub addressed : (y : ℕ) (frame : List ℕ) (v : Envelope) → Contains (pass_at passes y).put frame → Spells frame v →
      slice_get post.nodes y ≡ Some v.receiver

abbrev pub CarriesOf : PostView → Id → Option Carried → Type 0
CarriesOf post x None = ⊥
CarriesOf post x (Some c) = AreOwnOf post x c.passes

-- the cell has passes of this post
abbrev pub HasPassesOf : PostView → Cell → Type 0
HasPassesOf post c = CarriesOf post c.node c.carried

abbrev pub passes_in : Option Carried → List PassView
passes_in None = []
passes_in (Some c) = c.passes

-- the passes of a cell
abbrev pub passes_of : Cell → List PassView
passes_of c = passes_in c.carried

-- the parts that it has of the mailbox at a place
abbrev pub parts_at : ℕ → Cell → ℕ
parts_at place c = (pass_at (passes_of c) place).parts

-- the same cell goes on: of the same node, made in the same way, with as many parts of each mailbox
pub record GoesOn (before after : Cell) : Type 0 where
  pub node : after.node ≡ before.node
  pub made : after.is_founder ≡ before.is_founder
  pub parts : (place : ℕ) → parts_at place after ≡ parts_at place before

-- what is taken out of a cell: its passes and the frame in hand, of which it kept what cells keep
pub record TookOut (before : Cell) (passes : List PassView) (hand : Option (List ℕ)) (after : Cell) : Type 0 where
  pub carried : Carried
  pub was : before.carried ≡ Some carried
  pub passes_are : passes ≡ carried.passes
  pub hand_is : hand ≡ carried.in_hand
  pub kept : KeepsPasses before.node before.history carried
  pub same : after ≡ record before { carried = None }
