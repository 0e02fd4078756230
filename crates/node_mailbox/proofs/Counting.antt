-- What is counted in a list stands in it, and what stands in it is counted. So of a pass with all the parts, each frame that it
-- took was put: this is how the layer above uses what the contracts say of counts.
use Rattle.std.proofs.Common.{◌≡◌, ◌<◌, ◌+◌, ℕ, Bool, true, false, cond, List, [], ◌∷◌, get_or, sym, refl, ap, ◌∙◌, subst, inl, inr, arith}
use Rattle.std.specs.List.{Contains}
use Rattle.std.specs.Str.{bytes_eq}
use Rattle.std.proofs.lemmas.List.Sums.{sum_by-cons}
use Rattle.std.proofs.lemmas.List.Elements.{Contains-append_right, Contains-append_cases}
use Rattle.std.proofs.lemmas.Slice.Eq.{bytes_eq-Decides}
use Rattle.node_mailbox.specs.Times.{times}
use Rattle.node_mailbox.specs.Pass.{PassView, TookOnlyPut}
use Rattle.node_mailbox.specs.declared.limits.TheConstants.{ALL_PARTS}

times-cons : (frame x : List ℕ) (xs : List (List ℕ)) → times frame (x ∷ xs) ≡ cond (bytes_eq frame x) 1 0 + times frame xs
times-cons frame x xs = sum_by-cons (λ y. cond (bytes_eq frame y) 1 0) x xs

only : (x y : List ℕ) → Contains (x ∷ []) y → x ≡ y
only x y has = let first : has.0 ≡ 0 = omega (arith, has.1) in subst (λ k. get_or (x ∷ []) k y ≡ y) first has.2

pub Contains-from_times : (frame : List ℕ) (xs : List (List ℕ)) → 0 < times frame xs → Contains xs frame
Contains-from_times frame [] some = absurd (omega arith)
Contains-from_times frame (x ∷ xs) some = by_head (bytes_eq frame x) refl (λ rest. Contains-from_times frame xs rest)
  where
    by_head : (same : Bool) → bytes_eq frame x ≡ same → (0 < times frame xs → Contains xs frame) → Contains (x ∷ xs) frame
    by_head true is rest = (0, omega arith, sym ((bytes_eq-Decides frame x).0 is))
    by_head false is rest =
        let step : times frame (x ∷ xs) ≡ 0 + times frame xs = times-cons frame x xs ∙ ap (λ b. cond b 1 0 + times frame xs) is in
        Contains-append_right (x ∷ []) xs frame (rest (omega arith))

pub times-from_Contains : (frame : List ℕ) (xs : List (List ℕ)) → Contains xs frame → 0 < times frame xs
times-from_Contains frame [] has = absurd (omega (arith, has.1))
times-from_Contains frame (x ∷ xs) has = elim (Contains-append_cases (x ∷ []) xs frame has) [
  | inl here ↦
      let is : bytes_eq frame x ≡ true = (bytes_eq-Decides frame x).1 (sym (only x frame here)) in
      let step : times frame (x ∷ xs) ≡ 1 + times frame xs = times-cons frame x xs ∙ ap (λ b. cond b 1 0 + times frame xs) is in omega arith
  | inr behind ↦ let rest = times-from_Contains frame xs behind in omega (arith, times-cons frame x xs)
]

-- with all the parts, what was taken was put
pub taken_was_put : (p : PassView) (frame : List ℕ) → p.parts ≡ ALL_PARTS → TookOnlyPut p → Contains p.taken frame → Contains p.put frame
taken_was_put p frame all known has =
    let taken = times-from_Contains frame p.taken has in let most = known.whole all frame in Contains-from_times frame p.put (omega arith)
