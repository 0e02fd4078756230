-- What contracts see of a post, and of passes to its mailboxes.
use Rattle.std.specs.Prelude.{◌≡◌, ◌<◌, ◌≤◌, ℕ, List, [], ◌∷◌, length, map, slice_index_or}
use Rattle.node_mailbox.specs.Pass.{PassView, fresh_pass, after_join}

-- its nodes, and the mailbox of each
pub record PostView : Type 0 where
  pub nodes : List ℕ
  pub mailboxes : List (ℕ × ℕ)

abbrev pub mailbox_at : PostView → ℕ → ℕ × ℕ
mailbox_at post place = slice_index_or post.mailboxes place (0, 0)

-- the pass to the mailbox at this place
abbrev pub pass_at : List PassView → ℕ → PassView
pass_at passes place = slice_index_or passes place (fresh_pass (0, 0) 0)

-- the passes are of this post: one to the mailbox of each node, in order
pub record AreOf (passes : List PassView) (post : PostView) : Type 0 where
  pub mailboxes : map (λ (p : PassView). p.mailbox) passes ≡ post.mailboxes
  pub count : length passes ≡ length post.nodes

-- the passes are of the first mailboxes of this post, in order
pub record AreOfFirst (passes : List PassView) (post : PostView) : Type 0 where
  pub few : length passes ≤ length post.nodes
  pub each : (place : ℕ) → place < length passes → (pass_at passes place).mailbox ≡ mailbox_at post place

-- each of the others is joined into the pass to the same mailbox
abbrev pub after_joins : List PassView → List PassView → List PassView
after_joins [] others = []
after_joins (p ∷ ps) [] = p ∷ ps
after_joins (p ∷ ps) (q ∷ qs) = after_join p q ∷ after_joins ps qs
