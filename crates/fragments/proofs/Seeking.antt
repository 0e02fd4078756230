-- The first fragment of which a test holds, sought one after another.
use Rattle.std.proofs.Common.{◌≡◌, ◌<◌, ◌≤◌, ℕ, suc, ◌+◌, Bool, true, false, Option, Some, None, List, ◌∷◌, length, get_or, drop}
use Rattle.std.proofs.Common.{refl, sym, ap, ◌∙◌, add-one, drop-cons}
use Rattle.std.proofs.lemmas.List.{drop_all}
use Rattle.ring_math.specs.Names.{Content}
use Rattle.fragments.specs.Joined.{first_from}

pub first_next : (test : ℕ → Option Content → Bool) (i : ℕ) (found : List (Option Content)) (d : Option Content) → i < length found →
    test i (get_or found i d) ≡ false → first_from test (i + 1) (drop (i + 1) found) ≡ first_from test i (drop i found)
first_next test i found d h fails =
    sym (ap (λ xs. first_from test i xs) (drop-cons found i d h) ∙ skip ∙ ap (λ n. first_from test (i + 1) (drop n found)) (sym (add-one i)))
  where
    skip : first_from test i (get_or found i d ∷ drop (suc i) found) ≡ first_from test (i + 1) (drop (suc i) found)
    skip = rw fails refl

pub first_here : (test : ℕ → Option Content → Bool) (i : ℕ) (found : List (Option Content)) (d : Option Content) → i < length found →
    test i (get_or found i d) ≡ true → first_from test i (drop i found) ≡ Some i
first_here test i found d h holds = ap (λ xs. first_from test i xs) (drop-cons found i d h) ∙ rw holds refl

pub first_none : (test : ℕ → Option Content → Bool) (i : ℕ) (found : List (Option Content)) → length found ≤ i → first_from test i (drop i found) ≡ None
first_none test i found h = ap (λ xs. first_from test i xs) (drop_all i found h)
