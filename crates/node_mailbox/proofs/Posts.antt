-- Passes of a post, one to each mailbox.
use Rattle.std.proofs.Common.{◌≡◌, ℕ, List, [], ◌∷◌, map, set, get_or, refl, ap, ◌∙◌}
use Rattle.std.proofs.lemmas.List.{length-set}
use Rattle.std.proofs.Math.Seq.{map-set_same}
use Rattle.node_mailbox.specs.Pass.{PassView, fresh_pass}
use Rattle.node_mailbox.specs.Post.{PostView, AreOf}

abbrev mailbox_of : PassView → ℕ × ℕ
mailbox_of p = p.mailbox

-- the passes that a post begins with are of its mailboxes
pub mailboxes-fresh : (parts : ℕ) (mailboxes : List (ℕ × ℕ)) → map mailbox_of (map (λ mailbox. fresh_pass mailbox parts) mailboxes) ≡ mailboxes
mailboxes-fresh parts [] = refl
mailboxes-fresh parts (m ∷ ms) = ap (λ rest. m ∷ rest) (mailboxes-fresh parts ms)

-- a pass of the same mailbox may take the place of one
pub are_of-set : (passes : List PassView) (post : PostView) (place : ℕ) (old new : PassView) → AreOf passes post → new.mailbox ≡ old.mailbox
    → old ≡ get_or passes place old → AreOf (set passes place new) post
are_of-set passes post place old new of same is = record {
  mailboxes = map-set_same mailbox_of passes place new old (same ∙ ap mailbox_of is) ∙ of.mailboxes;
  count = length-set passes place new ∙ of.count;
}
