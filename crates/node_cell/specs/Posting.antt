-- A frame that is put into its receiver's mailbox several times.
use Rattle.std.specs.Prelude.{◌≡◌, ◌≢◌, ◌<◌, ℕ, ◌+◌, ◌-◌, Option, Some, None, option_map, List, ◌∷◌, ◌++◌, replicate, slice_get, slice_set, All}
use Rattle.ring_math.specs.Names.{Id}
use Rattle.node_mailbox.specs.Pass.{PassView, pass_view}
use Rattle.node_mailbox.specs.Post.{PostView, pass_at}
use Rattle.node_cell.specs.declared.carried.Carried.{Carried}
use Rattle.node_cell.specs.declared.frames.Addressed.{Addressed}
use Rattle.node_cell.specs.Cell.{Cell}

-- the frame was put n times more
abbrev pub after_puts : ℕ → List ℕ → PassView → PassView
after_puts n frame p = pass_view p.mailbox p.parts (p.put ++ replicate n frame) p.taken

-- at this place it was put n times more, and the copies are counted up to this number
abbrev pub with_puts : ℕ → List ℕ → ℕ → ℕ → Carried → Carried
with_puts place frame n counted c = record c { passes = slice_set c.passes place (after_puts n frame (pass_at c.passes place)); copies = counted }

-- the place of a node in the post, if it has one
abbrev pub IsPlaceOf : PostView → Id → Option ℕ → Type 0
IsPlaceOf post x (Some place) = slice_get post.nodes place ≡ Some x
IsPlaceOf post x None = All (λ (y : Id). y ≢ x) post.nodes

-- the frame stands so often in all in the mailbox at the place, if there is one, and the next frame's copies are counted anew
abbrev pub after_post : Option ℕ → List ℕ → ℕ → Carried → Carried
after_post (Some place) frame copies c = with_puts place frame (copies - c.copies) 0 c
after_post None frame copies c = record c { copies = 0 }

-- the first unsent frame was put so often in all, and taken off the list
pub record Posted (post : PostView) (copies : ℕ) (before after : Cell) : Type 0 where
  pub first : Addressed
  pub rest : List Addressed
  pub unsent : before.unsent ≡ first ∷ rest
  pub place : Option ℕ
  pub at : IsPlaceOf post first.receiver place
  pub same : after ≡ record before { unsent = rest; carried = option_map (after_post place first.frame copies) before.carried }

-- it was put n times more, not so often in all, and is still the first unsent one; the cell counts how often it was put
pub record PutSome (post : PostView) (copies : ℕ) (before after : Cell) : Type 0 where
  pub first : Addressed
  pub rest : List Addressed
  pub unsent : before.unsent ≡ first ∷ rest
  pub place : ℕ
  pub at : slice_get post.nodes place ≡ Some first.receiver
  pub carried : Carried
  pub was : before.carried ≡ Some carried
  pub n : ℕ
  pub fewer : carried.copies + n < copies
  pub same : after ≡ record before { carried = Some (with_puts place first.frame n (carried.copies + n) carried) }
