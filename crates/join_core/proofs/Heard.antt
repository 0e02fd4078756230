-- An answer after which a joiner only goes on: no leaf is new, and another than the sender has not answered.
use Rattle.std.proofs.Common.{◌≡◌, ℕ, Bool, true, false, not, ◌&&◌, ◌||◌, ◌==◌, if◌then◌else◌, cond, List, [], ◌∷◌, filter, refl, sym, ap, ◌∙◌, subst, inl, inr}
use Rattle.std.specs.List.{list_all, list_any}
use Rattle.std.proofs.lemmas.Bool.{and_parts, or_cases, eqb-true}
use Rattle.std.proofs.lemmas.List.Folds.{list_all-append}
use Rattle.ring_math.specs.Sides.{is_in, also_of}
use Rattle.overlay_rules.specs.Joining.{was_probed}
use Rattle.join_core.specs.declared.joiner.Joiner.{Joiner}
use Rattle.join_core.specs.declared.joiner.Joiner.TheVariants.{Waiting, Asking, Probing, Leasing, Done}
use Rattle.join_core.specs.declared.steps.ProbeStep.TheVariants.{Dropped, Probe, Lease}
use Rattle.join_core.specs.Awaited.{is_awaited}
use Rattle.join_core.specs.Probes.{probe_step_of, step_with, new_of, probed_with, are_answered, is_awaited_besides, goes_on_with}

-- whom a list has is as all of it are
listed : (p : ℕ → Bool) (xs : List ℕ) (y : ℕ) → list_all p xs ≡ true → is_in xs y ≡ true → p y ≡ true
listed p [] y all e = cc
listed p (x ∷ xs) y all e =
    let parts = and_parts (p x) (list_all p xs) all in
    elim (or_cases (x == y) (is_in xs y) e) [
      | inl same ↦ subst (λ z. p z ≡ true) (eqb-true x y same) parts.0
      | inr there ↦ listed p xs y parts.1 there
    ]

-- those of another list that a list has not are as all of the other are, where all that it has are so
besides : (p : ℕ → Bool) (xs ys : List ℕ) → list_all p xs ≡ true → list_all p (filter (λ y. not (is_in xs y)) ys) ≡ list_all p ys
besides p xs [] all = refl
besides p xs (y ∷ ys) all = by (is_in xs y) refl (besides p xs ys all) where
  by : (b : Bool) → is_in xs y ≡ b → list_all p (filter (λ z. not (is_in xs z)) ys) ≡ list_all p ys →
      list_all p (cond (not b) (y ∷ filter (λ z. not (is_in xs z)) ys) (filter (λ z. not (is_in xs z)) ys)) ≡ list_all p (y ∷ ys)
  by true there rest = rest ∙ sym (ap (λ b. b && list_all p ys) (listed p xs y all there))
  by false out rest = ap (λ b. p y && b) rest

-- all leaves are so exactly where both sides are
pub all-also : (p : ℕ → Bool) (right left : List ℕ) → list_all p (also_of right left) ≡ list_all p right && list_all p left
all-also p right left = list_all-append p right (filter (λ y. not (is_in right y)) left) ∙ by (list_all p right) refl where
  by : (b : Bool) → list_all p right ≡ b → b && list_all p (filter (λ y. not (is_in right y)) left) ≡ b && list_all p left
  by true all = besides p right left all
  by false none = refl

none_new : (probed : List (ℕ × Bool)) (leafs : List ℕ) → list_all (was_probed probed) leafs ≡ true → new_of probed leafs ≡ []
none_new probed [] e = refl
none_new probed (y ∷ ys) e =
    let parts = and_parts (was_probed probed y) (list_all (was_probed probed) ys) e in
    let rest = none_new probed ys parts.1 in
    ap (λ (b : Bool). if not b then y ∷ new_of probed ys else new_of probed ys) parts.0 ∙ rest

still_awaited : (from : ℕ) (probed : List (ℕ × Bool)) → list_any (is_awaited_besides from) probed ≡ true → are_answered (probed_with probed from []) ≡ false
still_awaited from [] e = cc
still_awaited from ((y, answered) ∷ ps) e = by (y == from) answered e (still_awaited from ps) where
  by : (same said : Bool) → (not same && not said) || list_any (is_awaited_besides from) ps ≡ true →
      (list_any (is_awaited_besides from) ps ≡ true → are_answered (probed_with ps from []) ≡ false) →
      are_answered ((if same then (from, true) else (y, said)) ∷ probed_with ps from []) ≡ false
  by true said p rest = rest p
  by false true p rest = rest p
  by false false p rest = refl

pub goes-on : (j : Joiner) (from a : ℕ) (leafs : List ℕ) (l r : ℕ) → is_awaited j from a ≡ true → goes_on_with j from leafs ≡ true →
    Probe [] ≡ probe_step_of j from a leafs l r
goes-on (Probing b n probed) from a leafs l r e g =
    let parts = and_parts (list_all (was_probed probed) leafs) (list_any (is_awaited_besides from) probed) g in
    sym (ap (λ (t : Bool). if t then step_with b probed from (new_of probed leafs) l r else Dropped) e
    ∙ ap (λ more. step_with b probed from more l r) (none_new probed leafs parts.0)
    ∙ ap (λ (t : Bool). if t then Lease b l r else Probe []) (still_awaited from probed parts.1))
goes-on (Waiting b) from a leafs l r e g = cc
goes-on (Asking b n) from a leafs l r e g = cc
goes-on (Leasing b n x y from_left from_right) from a leafs l r e g = cc
goes-on (Done b) from a leafs l r e g = cc
