-- The nearest of the entries that improve, one entry more at a time.
use Rattle.std.proofs.Common.{◌≡◌, ◌≢◌, ℕ, zero, suc, ◌+◌, ◌<◌, ◌⊎◌, true, false, List, [], ◌∷◌, ◌++◌, length, take, get_or, Option, Some, refl, sym}
use Rattle.std.proofs.Common.{subst, ap, ◌∙◌, arith, inl, inr}
use Rattle.std.specs.Prelude.{nat_le, ◌↔◌}
use Rattle.std.specs.List.{Contains}
use Rattle.std.proofs.lemmas.Bool.{cases_Bool, cases_eq, and_parts, and_from}
use Rattle.std.proofs.lemmas.List.{take_more}
use Rattle.std.proofs.lemmas.List.Elements.{Contains-append_left, Contains-append_right, Contains-append_cases}
use Rattle.ring_math.specs.Ring.{is_nearer, shared_of}
use Rattle.ring_math.specs.Members.{IsClosest}
use Rattle.ring_math.specs.Nearer.{improves}
use Rattle.ring_math.proofs.Nearness.{is_nearer-same, is_nearer-trans, is_nearer-turned}
use Rattle.route_table.specs.Entries.{Improves}

one_entry : (e w : Option ℕ) → Contains (e ∷ []) w → w ≡ e
one_entry e w (zero, lt, p) = sym p
one_entry e w (suc k, lt, p) = absurd (omega arith)

entry_there : (xs : List (Option ℕ)) (i : ℕ) (e w : Option ℕ) → i < length xs → e ≡ get_or xs i e → Contains (take i xs) w ⊎ (w ≡ e) →
    Contains (take (i + 1) xs) w
entry_there xs i e w lt read h =
    let more : take (i + 1) xs ≡ take i xs ++ e ∷ [] = take_more xs i e lt ∙ ap (λ v. take i xs ++ v ∷ []) (sym read) in
    rw more (elim h [
      | inl c ↦ Contains-append_left (take i xs) (e ∷ []) w c
      | inr same ↦ Contains-append_right (take i xs) (e ∷ []) w (rw same (0, omega arith, refl))
    ])

entry_back : (xs : List (Option ℕ)) (i : ℕ) (e w : Option ℕ) → i < length xs → e ≡ get_or xs i e → Contains (take (i + 1) xs) w →
    Contains (take i xs) w ⊎ (w ≡ e)
entry_back xs i e w lt read c =
    let more : take (i + 1) xs ≡ take i xs ++ e ∷ [] = take_more xs i e lt ∙ ap (λ v. take i xs ++ v ∷ []) (sym read) in
    elim (Contains-append_cases (take i xs) (e ∷ []) w (rw more at c)) [ inl d ↦ inl d | inr d ↦ inr (one_entry e w d) ]

-- y is the nearest of another and those of the entries that improve on it
pub record Nearest (entries : List (Option ℕ)) (key least than y : ℕ) : Type 0 where
  pub named : (y ≡ than) ⊎ Improves entries key least than y
  pub nearest : (z : ℕ) → Improves entries key least than z → z ≢ y → is_nearer z y key ≡ false

improves_nearer : (key least than z : ℕ) → improves key least than z ≡ true → is_nearer z than key ≡ true
improves_nearer key least than z h = (and_parts (nat_le least (shared_of z key)) (is_nearer z than key) h).1

improves_shares : (key least than z : ℕ) → improves key least than z ≡ true → nat_le least (shared_of z key) ≡ true
improves_shares key least than z h = (and_parts (nat_le least (shared_of z key)) (is_nearer z than key) h).0

improves_by : (key least than z : ℕ) → nat_le least (shared_of z key) ≡ true → is_nearer z than key ≡ true → improves key least than z ≡ true
improves_by key least than z shares nearer = and_from (nat_le least (shared_of z key)) (is_nearer z than key) shares nearer

module _ (key least than : ℕ) (xs : List (Option ℕ)) (i : ℕ) where
  more : (e : Option ℕ) (z : ℕ) → i < length xs → e ≡ get_or xs i e → Improves (take i xs) key least than z → Improves (take (i + 1) xs) key least than z
  more e z lt read p = record { entry = entry_there xs i e (Some z) lt read (inl p.entry); better = p.better }

  -- an entry that is empty or doesn't improve on the nearest so far changes nothing
  pub nearest_kept : (e : Option ℕ) (y : ℕ) → i < length xs → e ≡ get_or xs i e → ((x : ℕ) → e ≡ Some x → improves key least y x ≡ false) →
      Nearest (take i xs) key least than y → Nearest (take (i + 1) xs) key least than y
  nearest_kept e y lt read out h = record { named = named h.named; nearest = nearest } where
    named : (y ≡ than) ⊎ Improves (take i xs) key least than y → (y ≡ than) ⊎ Improves (take (i + 1) xs) key least than y
    named (inl same) = inl same
    named (inr p) = inr (more e y lt read p)

    nearest : (z : ℕ) → Improves (take (i + 1) xs) key least than z → z ≢ y → is_nearer z y key ≡ false
    nearest z p ne = elim (entry_back xs i e (Some z) lt read p.entry) [
      | inl c ↦ h.nearest z (record { entry = c; better = p.better }) ne
      | inr here ↦ elim (cases_Bool (is_nearer z y key)) [
        | inl nearer ↦
            let good : improves key least y z ≡ true = improves_by key least y z (improves_shares key least than z p.better) nearer in
            let bad : improves key least y z ≡ false = out z (sym here) in cc
        | inr not_nearer ↦ not_nearer
      ]
    ]

  -- one that improves on it is the nearest from here on
  pub nearest_new : (x y : ℕ) → i < length xs → Some x ≡ get_or xs i (Some x) → improves key least y x ≡ true →
      Nearest (take i xs) key least than y → Nearest (take (i + 1) xs) key least than x
  nearest_new x y lt read good h = record { named = inr (record { entry = there; better = better }); nearest = nearest } where
    nearer : is_nearer x y key ≡ true
    nearer = improves_nearer key least y x good

    there : Contains (take (i + 1) xs) (Some x)
    there = entry_there xs i (Some x) (Some x) lt read (inr refl)

    beyond : (y ≡ than) ⊎ Improves (take i xs) key least than y → is_nearer x than key ≡ true
    beyond (inl same) = subst (λ w. is_nearer x w key ≡ true) same nearer
    beyond (inr p) = is_nearer-trans x y than key nearer (improves_nearer key least than y p.better)

    better : improves key least than x ≡ true
    better = improves_by key least than x (improves_shares key least y x good) (beyond h.named)

    farther : (z : ℕ) → Improves (take i xs) key least than z → is_nearer z x key ≡ false
    farther z p = elim (cases_eq z y) [
      | inl same ↦ subst (λ w. is_nearer w x key ≡ false) (sym same) (is_nearer-turned x y key nearer)
      | inr ne ↦ elim (cases_Bool (is_nearer z x key)) [
        | inl e ↦
            let nearer_z : is_nearer z y key ≡ true = is_nearer-trans z x y key e nearer in
            let not_nearer : is_nearer z y key ≡ false = h.nearest z p ne in cc
        | inr e ↦ e
      ]
    ]

    nearest : (z : ℕ) → Improves (take (i + 1) xs) key least than z → z ≢ x → is_nearer z x key ≡ false
    nearest z p ne = elim (entry_back xs i (Some x) (Some z) lt read p.entry) [
      | inl c ↦ farther z (record { entry = c; better = p.better })
      | inr here ↦ let same : z ≡ x = cc in absurd (ne same)
    ]

-- ---- the same of the other list with the same entries

pub nearest_same : (xs es : List (Option ℕ)) (key least than y : ℕ) → ((z : ℕ) → Contains es (Some z) ↔ Contains xs (Some z)) →
    Nearest xs key least than y → Nearest es key least than y
nearest_same xs es key least than y same h = record { named = named h.named; nearest = nearest } where
  named : (y ≡ than) ⊎ Improves xs key least than y → (y ≡ than) ⊎ Improves es key least than y
  named (inl e) = inl e
  named (inr p) = inr (record { entry = (same y).1 p.entry; better = p.better })

  nearest : (z : ℕ) → Improves es key least than z → z ≢ y → is_nearer z y key ≡ false
  nearest z p ne = h.nearest z (record { entry = (same z).0 p.entry; better = p.better }) ne

-- ---- as a clause says it

module _ (entries : List (Option ℕ)) (key least than y : ℕ) (h : Nearest entries key least than y) where
  -- where the other itself is the nearest, none improves on it
  pub none_improves : y ≡ than → (z : ℕ) → Improves entries key least than z → ⊥
  none_improves same z p =
      let nearer : is_nearer z than key ≡ true = improves_nearer key least than z p.better in
      elim (cases_eq z y) [
        | inl e ↦
            let itself : is_nearer than than key ≡ true = subst (λ w. is_nearer w than key ≡ true) (e ∙ same) nearer in
            let never : is_nearer than than key ≡ false = is_nearer-same than key in cc
        | inr ne ↦ let not_nearer : is_nearer z than key ≡ false = subst (λ w. is_nearer z w key ≡ false) same (h.nearest z p ne) in cc
      ]

  pub closest_improves : y ≢ than → IsClosest (λ z. Improves entries key least than z) key y
  closest_improves ne = record { member = member h.named; nearest = h.nearest } where
    member : (y ≡ than) ⊎ Improves entries key least than y → Improves entries key least than y
    member (inl same) = absurd (ne same)
    member (inr p) = p
