-- A join of many passes, from the last to the first.
use Rattle.std.proofs.Common.{◌≡◌, ◌<◌, ◌≤◌, ◌+◌, ℕ, List, [], ◌∷◌, ◌++◌, length, set, sym, refl, ap, ◌∙◌, subst, inl, inr, arith}
use Rattle.std.proofs.lemmas.Bool.{cases_lt}
use Rattle.std.proofs.lemmas.List.{get_or_append_left, get_or-set_other, length-append}
use Rattle.node_mailbox.specs.Pass.{PassView, TookOnlyPut, after_join, fresh_pass}
use Rattle.node_mailbox.specs.Post.{PostView, AreOfFirst, pass_at, after_joins}

-- no pass is joined
pub joins-nil : (passes : List PassView) → after_joins passes [] ≡ passes
joins-nil [] = refl
joins-nil (p ∷ ps) = refl

-- the last is joined, and then those before it
joins-last : (passes others : List PassView) (other : PassView) → length others < length passes
    → after_joins (set passes (length others) (after_join (pass_at passes (length others)) other)) others ≡ after_joins passes (others ++ other ∷ [])
joins-last [] others other few = absurd (omega arith)
joins-last (p ∷ ps) [] other few = ap (λ rest. after_join p other ∷ rest) (sym (joins-nil ps))
joins-last (p ∷ ps) (q ∷ qs) other few = ap (λ rest. after_join p q ∷ rest) (joins-last ps qs other (omega arith))

-- once the last is joined, those before it come to the same
pub joins-step : (passes others : List PassView) (other : PassView) (place : ℕ) (next end : List PassView) → place ≡ length others
    → length others < length passes → next ≡ set passes place (after_join (pass_at passes place) other)
    → after_joins passes (others ++ other ∷ []) ≡ end → after_joins next others ≡ end
joins-step passes others other place next end at few made all =
    ap (λ now. after_joins now others) (made ∙ ap (λ n. set passes n (after_join (pass_at passes n) other)) at) ∙ joins-last passes others other few ∙ all

-- without the last, the passes are still of the first mailboxes
pub are_of_first-pop : (others : List PassView) (other : PassView) (post : PostView) → AreOfFirst (others ++ other ∷ []) post → AreOfFirst others post
are_of_first-pop others other post of = record {
  few = omega (arith, of.few, length-append others (other ∷ []));
  each = λ place lt.
      ap (λ (p : PassView). p.mailbox) (sym (get_or_append_left others (other ∷ []) (fresh_pass (0, 0) 0) place lt))
      ∙ of.each place (omega (arith, length-append others (other ∷ [])));
}

-- what the passes behind it knew they know still
pub took_only_put-more : (passes : List PassView) (place count : ℕ) (next : List PassView) (new : PassView) → next ≡ set passes place new
    → TookOnlyPut (pass_at next place) → ((k : ℕ) → place + 1 ≤ k → k < count → TookOnlyPut (pass_at passes k))
    → (k : ℕ) → place ≤ k → k < count → TookOnlyPut (pass_at next k)
took_only_put-more passes place count next new made here behind k from below = elim (cases_lt place k) [
  | inl past ↦
      let same : pass_at next k ≡ pass_at passes k =
      ap (λ l. pass_at l k) made ∙ get_or-set_other passes place k new (fresh_pass (0, 0) 0) (omega arith) in
      subst TookOnlyPut (sym same) (behind k (omega arith) below)
  | inr first ↦ let at : place ≡ k = omega arith in subst (λ n. TookOnlyPut (pass_at next n)) at here
]
