-- The closest of a set where there may be none: by what is known of the set, and of two sets together.
use Rattle.std.proofs.Common.{◌≡◌, ◌≢◌, ℕ, ◌⊎◌, true, false, List, [], ◌∷◌, Option, Some, None, MatchOption, refl, sym, subst, inl, inr}
use Rattle.std.specs.List.{Contains}
use Rattle.std.proofs.lemmas.Bool.{cond_both, cases_Bool, cases_eq}
use Rattle.ring_math.specs.Ring.{is_nearer}
use Rattle.ring_math.specs.Members.{IsClosest}
use Rattle.ring_math.specs.Nearer.{nearer_of}
use Rattle.ring_math.proofs.Membership.{Contains-here, Contains-none}
use Rattle.ring_math.proofs.Nearness.{is_nearer-same, is_nearer-weaker, is_nearer-turned}

-- o is the closest of the set, and None where nobody is in it
pub record Found (P : ℕ → Type 0) (key : ℕ) (o : Option ℕ) : Type 0 where
  pub none : o ≡ None → (z : ℕ) → P z → ⊥
  pub some : (y : ℕ) → o ≡ Some y → IsClosest P key y

pub found_same : (P Q : ℕ → Type 0) (key : ℕ) (o : Option ℕ) → ((z : ℕ) → P z → Q z) → ((z : ℕ) → Q z → P z) → Found P key o → Found Q key o
found_same P Q key o there back h = record {
  none = λ e z q. h.none e z (back z q);
  some = λ y e. let closest = h.some y e in record { member = there y closest.member; nearest = λ z q ne. closest.nearest z (back z q) ne };
}

pub found_nobody : (P : ℕ → Type 0) (key : ℕ) → ((z : ℕ) → P z → ⊥) → Found P key None
found_nobody P key out = record { none = λ _ z p. out z p; some = λ y e. cc }

pub found_one : (P : ℕ → Type 0) (key x : ℕ) → P x → ((z : ℕ) → P z → z ≡ x) → Found P key (Some x)
found_one P key x p alone = record {
  none = λ e. cc;
  some = λ y e. let same : x ≡ y = cc in subst (IsClosest P key) same (record { member = p; nearest = λ z q ne. absurd (ne (alone z q)) });
}

pub found_itself : (key x : ℕ) → Found (λ z. z ≡ x) key (Some x)
found_itself key x = found_one (λ z. z ≡ x) key x refl (λ z e. e)

pub found_closest : (P : ℕ → Type 0) (key y : ℕ) → IsClosest P key y → Found P key (Some y)
found_closest P key y h = record { none = λ e. cc; some = λ x e. let same : y ≡ x = cc in subst (IsClosest P key) same h }

-- of two sets together
abbrev pub either : (ℕ → Type 0) → (ℕ → Type 0) → ℕ → Type 0
either P Q z = P z ⊎ Q z

module _ (P Q : ℕ → Type 0) (key : ℕ) where
  first_only : (o : Option ℕ) → Found P key o → ((z : ℕ) → Q z → ⊥) → Found (either P Q) key o
  first_only o h out = found_same P (either P Q) key o (λ z p. inl p) back h where
    back : (z : ℕ) → P z ⊎ Q z → P z
    back z (inl p) = p
    back z (inr q) = absurd (out z q)

  second_only : (o : Option ℕ) → Found Q key o → ((z : ℕ) → P z → ⊥) → Found (either P Q) key o
  second_only o h out = found_same Q (either P Q) key o (λ z p. inr p) back h where
    back : (z : ℕ) → P z ⊎ Q z → Q z
    back z (inl p) = absurd (out z p)
    back z (inr q) = q

  -- z is no nearer than y, which is nearer than x or the same as it
  no_nearer : (x y z : ℕ) → is_nearer y x key ≡ true → is_nearer z x key ≡ false → is_nearer z y key ≡ false
  no_nearer x y z h n = is_nearer-turned y z key (is_nearer-weaker y x z key h n)

  closest_no_nearer : (R : ℕ → Type 0) (y z : ℕ) → IsClosest R key y → R z → is_nearer z y key ≡ false
  closest_no_nearer R y z h r = elim (cases_eq z y) [
    | inl e ↦ subst (λ w. is_nearer w y key ≡ false) (sym e)
        (is_nearer-same y key)
    | inr ne ↦ h.nearest z r ne
  ]

  -- z is no nearer than y, which is no nearer than x
  no_nearer_too : (x y z : ℕ) → is_nearer y x key ≡ false → is_nearer z y key ≡ false → is_nearer z x key ≡ false
  no_nearer_too x y z h n =
      elim (cases_Bool (is_nearer z x key)) [
        | inl e ↦ let nearer : is_nearer z y key ≡ true = is_nearer-weaker z x y key e h in cc
        | inr e ↦ e
      ]

  second_nearer : (x y : ℕ) → IsClosest P key x → IsClosest Q key y → is_nearer y x key ≡ true → IsClosest (either P Q) key y
  second_nearer x y h k e = record { member = inr k.member; nearest = nearest } where
    nearest : (z : ℕ) → P z ⊎ Q z → z ≢ y → is_nearer z y key ≡ false
    nearest z (inl p) ne = no_nearer x y z e (closest_no_nearer P x z h p)
    nearest z (inr q) ne = k.nearest z q ne

  first_nearer : (x y : ℕ) → IsClosest P key x → IsClosest Q key y → is_nearer y x key ≡ false → IsClosest (either P Q) key x
  first_nearer x y h k e = record { member = inl h.member; nearest = nearest } where
    nearest : (z : ℕ) → P z ⊎ Q z → z ≢ x → is_nearer z x key ≡ false
    nearest z (inl p) ne = h.nearest z p ne
    nearest z (inr q) ne = no_nearer_too x y z e (closest_no_nearer Q y z k q)

  pub found_both : (a b : Option ℕ) → Found P key a → Found Q key b → Found (either P Q) key (nearer_of a b key)
  found_both None b h k = second_only b k (h.none refl)
  found_both (Some x) None h k = first_only (Some x) h (k.none refl)
  found_both (Some x) (Some y) h k =
      cond_both (is_nearer y x key) (Some y) (Some x) (Found (either P Q) key)
      (λ e. found_closest (either P Q) key y (second_nearer x y (h.some x refl) (k.some y refl) e))
      (λ e. found_closest (either P Q) key x (first_nearer x y (h.some x refl) (k.some y refl) e))

-- ---- as a clause says it

pub found_says : (P : ℕ → Type 0) (key : ℕ) (o : Option ℕ) → Found P key o → MatchOption o ((z : ℕ) → P z → ⊥) (λ y. IsClosest P key y)
found_says P key None h = h.none refl
found_says P key (Some y) h = h.some y refl

pub says_found : (P : ℕ → Type 0) (key : ℕ) (o : Option ℕ) → MatchOption o ((z : ℕ) → P z → ⊥) (λ y. IsClosest P key y) → Found P key o
says_found P key None h = found_nobody P key h
says_found P key (Some y) h = found_closest P key y h

nobody_in : (xs : List ℕ) → ((z : ℕ) → Contains xs z → ⊥) → xs ≡ []
nobody_in [] out = refl
nobody_in (x ∷ xs) out = absurd (out x (Contains-here x xs))

pub found_listed : (xs : List ℕ) (key : ℕ) (o : Option ℕ) → Found (Contains xs) key o → MatchOption o (xs ≡ []) (λ y. IsClosest (Contains xs) key y)
found_listed xs key None h = nobody_in xs (h.none refl)
found_listed xs key (Some y) h = h.some y refl

pub listed_found : (xs : List ℕ) (key : ℕ) (o : Option ℕ) → MatchOption o (xs ≡ []) (λ y. IsClosest (Contains xs) key y) → Found (Contains xs) key o
listed_found xs key None h = found_nobody (Contains xs) key (λ z c. Contains-none z (rw h at c))
listed_found xs key (Some y) h = found_closest (Contains xs) key y h
