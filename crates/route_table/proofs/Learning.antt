-- The table after one more identifier was learnt: an entry is the first that belongs there, so it never changes.
use Rattle.std.proofs.Common.{◌≡◌, ◌≢◌, ℕ, ◌+◌, ◌*◌, ◌<◌, Bool, true, false, ◌||◌, ◌==◌, cond, List, [], ◌∷◌, ◌++◌, length, get_or, set, find, Option}
use Rattle.std.proofs.Common.{Some, None, refl, sym, ap, ◌∙◌, subst, arith, inl, inr}
use Rattle.std.specs.Prelude.{is_none}
use Rattle.std.specs.Bool.{OnTrue, OnFalse}
use Rattle.std.specs.Option.{option_or}
use Rattle.std.proofs.lemmas.Bool.{cases_Bool, cond-true, cond-false, or_left, or_right, or_from, and_parts, and_from, eqb-true, eq-eqb}
use Rattle.std.proofs.lemmas.List.{get_or-set_same, get_or-set_other, length-set}
use Rattle.std.proofs.lemmas.List.Folds.{find-append}
use Rattle.ring_math.specs.declared.limits.TheConstants.{DIGITS, DIGIT_VALUES}
use Rattle.ring_math.specs.Ring.{digit_of, shared_of}
use Rattle.ring_math.specs.Sides.{is_in, belongs, entry_of, is_some_at, learn}
use Rattle.route_table.specs.Entries.{Table, StandsFor, entry_in, with_entry}

-- ---- to which entry an identifier belongs

belongs_here : (me y row col : ℕ) → row ≡ shared_of me y → col ≡ digit_of y row → belongs me row col y ≡ true
belongs_here me y row col e f = and_from (shared_of me y == row) (digit_of y row == col) (eq-eqb (shared_of me y) row (sym e))
    (eq-eqb (digit_of y row) col (sym f))

belongs_nowhere_else : (me y row col r d : ℕ) → row ≡ shared_of me y → col ≡ digit_of y row → (r ≡ row → d ≡ col → ⊥) → belongs me r d y ≡ false
belongs_nowhere_else me y row col r d e f out =
    elim (cases_Bool (belongs me r d y)) [
      | inl b ↦
          let parts = and_parts (shared_of me y == r) (digit_of y r == d) b in
          let same_row : shared_of me y ≡ r = eqb-true (shared_of me y) r parts.0 in
          let here : r ≡ row = sym same_row ∙ sym e in
          let same_col : digit_of y r ≡ d = eqb-true (digit_of y r) d parts.1 in
          absurd (out here (sym same_col ∙ ap (digit_of y) here ∙ sym f))
      | inr b ↦ b
    ]

-- ---- entries of a longer list

-- who belongs where nobody was found was not learnt
not_found : (p : ℕ → Bool) (xs : List ℕ) (y : ℕ) → find p xs ≡ None → p y ≡ true → is_in xs y ≡ false
not_found p [] y e h = refl
not_found p (x ∷ xs) y e h =
    elim (cases_Bool (p x)) [
      | inl t ↦ let some : find p (x ∷ xs) ≡ Some x = cond-true (p x) (Some x) (find p xs) t in cc
      | inr f ↦
          let rest : find p xs ≡ None = sym (cond-false (p x) (Some x) (find p xs) f) ∙ e in
          or_from (x == y) (is_in xs y) (differ x f) (not_found p xs y rest h)
    ] where
      differ : (x : ℕ) → p x ≡ false → x == y ≡ false
      differ x f = elim (cases_Bool (x == y)) [
        | inl e ↦ let same : x ≡ y = eqb-true x y e in let good : p x ≡ true = subst (λ w. p w ≡ true) (sym same) h in cc
        | inr e ↦ e
      ]

entry-known : (me y : ℕ) (known : List ℕ) (r d : ℕ) → (y == me) || is_in known y ≡ true → entry_of me (learn me known y) r d ≡ entry_of me known r d
entry-known me y known r d e = ap (λ ks. entry_of me ks r d) (cond-true ((y == me) || is_in known y) known (known ++ y ∷ []) e)

entry-new : (me y : ℕ) (known : List ℕ) (r d : ℕ) → (y == me) || is_in known y ≡ false →
    entry_of me (learn me known y) r d ≡ option_or (entry_of me known r d) (cond (belongs me r d y) (Some y) None)
entry-new me y known r d e =
    ap (λ ks. entry_of me ks r d) (cond-false ((y == me) || is_in known y) known (known ++ y ∷ []) e) ∙ find-append (belongs me r d) known (y ∷ [])

or_none : (o : Option ℕ) → option_or o None ≡ o
or_none None = refl
or_none (Some x) = refl

or_some : (o p : Option ℕ) (x : ℕ) → o ≡ Some x → option_or o p ≡ o
or_some None p x e = cc
or_some (Some z) p x e = refl

-- an entry to which y doesn't belong is as it was
entry-elsewhere : (me y : ℕ) (known : List ℕ) (r d : ℕ) → belongs me r d y ≡ false → entry_of me (learn me known y) r d ≡ entry_of me known r d
entry-elsewhere me y known r d b =
    elim (cases_Bool ((y == me) || is_in known y)) [
      | inl e ↦ entry-known me y known r d e
      | inr e ↦ entry-new me y known r d e ∙ rw b (or_none (entry_of me known r d))
    ]

-- and so is one that was found
entry-found : (me y : ℕ) (known : List ℕ) (r d x : ℕ) → entry_of me known r d ≡ Some x → entry_of me (learn me known y) r d ≡ entry_of me known r d
entry-found me y known r d x f =
    elim (cases_Bool ((y == me) || is_in known y)) [
      | inl e ↦ entry-known me y known r d e
      | inr e ↦ entry-new me y known r d e ∙ or_some (entry_of me known r d) _ x f
    ]

-- one that was empty is y, where y belongs there
entry-first : (me y : ℕ) (known : List ℕ) (r d : ℕ) → y == me ≡ false → belongs me r d y ≡ true → entry_of me known r d ≡ None →
    entry_of me (learn me known y) r d ≡ Some y
entry-first me y known r d other b none =
    let out = not_found (belongs me r d) known y none b in
    entry-new me y known r d (or_from (y == me) (is_in known y) other out) ∙ rw (none, b) refl

-- who was found was learnt
found : (p : ℕ → Bool) (xs : List ℕ) (y : ℕ) → find p xs ≡ Some y → is_in xs y ≡ true
found p [] y e = cc
found p (x ∷ xs) y e =
    elim (cases_Bool (p x)) [
      | inl t ↦
          let some : find p (x ∷ xs) ≡ Some x = cond-true (p x) (Some x) (find p xs) t in
          let same : x ≡ y = cc in or_left (x == y) (is_in xs y) (eq-eqb x y same)
      | inr f ↦
          let rest : find p xs ≡ Some y = sym (cond-false (p x) (Some x) (find p xs) f) ∙ e in
          or_right (x == y) (is_in xs y) (found p xs y rest)
    ]

-- ---- the table

-- an entry is learnt a second time without any effect
pub learnt-before : (t : Table) (known : List ℕ) (y row col : ℕ) → StandsFor t known → row < DIGITS → col < DIGIT_VALUES → entry_in t row col ≡ Some y →
    learn t.me known y ≡ known
learnt-before t known y row col st hr hc some =
    let there : is_in known y ≡ true = found (belongs t.me row col) known y (sym (st.entry row col hr hc) ∙ some) in
    cond-true ((y == t.me) || is_in known y) known (known ++ y ∷ []) (or_right (y == t.me) (is_in known y) there)

pub stands-me : (t : Table) (known : List ℕ) (y : ℕ) → StandsFor t known → y ≡ t.me → StandsFor t (learn t.me known y)
stands-me t known y st e = record {
  size = st.size;
  entry = λ r d hr hd. st.entry r d hr hd ∙ sym (entry-known t.me y known r d (or_left (y == t.me) (is_in known y) (eq-eqb y t.me e)));
}

pub stands-held : (t : Table) (known : List ℕ) (y row col x : ℕ) → StandsFor t known → row ≡ shared_of t.me y → col ≡ digit_of y row → row < DIGITS →
    col < DIGIT_VALUES →
    entry_in t row col ≡ Some x → StandsFor t (learn t.me known y)
stands-held t known y row col x st e f hr hc some = record { size = st.size; entry = entry } where
  entry : (r d : ℕ) → r < DIGITS → d < DIGIT_VALUES → entry_in t r d ≡ entry_of t.me (learn t.me known y) r d
  entry r d lr ld = st.entry r d lr ld ∙ sym (elim (cases_Bool (belongs t.me r d y)) [
    | inl b ↦
        let parts = and_parts (shared_of t.me y == r) (digit_of y r == d) b in
        let same_row : row ≡ r = e ∙ eqb-true (shared_of t.me y) r parts.0 in
        let same_col : col ≡ d = f ∙ ap (digit_of y) same_row ∙ eqb-true (digit_of y r) d parts.1 in
        entry-found t.me y known r d x (sym (st.entry r d lr ld)
        ∙ subst (λ k. entry_in t r k ≡ Some x) same_col (subst (λ k. entry_in t k col ≡ Some x) same_row some))
    | inr b ↦ entry-elsewhere t.me y known r d b
  ])

-- where something stands at the entry to which an identifier belongs, it is learnt without any effect
pub stands-elsewhere : (t : Table) (known : List ℕ) (y row col : ℕ) → StandsFor t known → row ≡ shared_of t.me y → col ≡ digit_of y row → row < DIGITS →
    col < DIGIT_VALUES → is_none (entry_in t row col) ≡ false → StandsFor t (learn t.me known y)
stands-elsewhere t known y row col st e f hr hc some = by (entry_in t row col) refl some where
  by : (there : Option ℕ) → entry_in t row col ≡ there → is_none there ≡ false → StandsFor t (learn t.me known y)
  by None there none = cc
  by (Some x) there none = stands-held t known y row col x st e f hr hc there

-- who stands there is there
pub is-there : (y : ℕ) (there : Option ℕ) → is_some_at y there ≡ true → there ≡ Some y
is-there y None e = cc
is-there y (Some x) e = ap Some (eqb-true x y e)

pub is-some : (y : ℕ) (there : Option ℕ) → is_some_at y there ≡ true → is_none there ≡ false
is-some y there e = ap is_none (is-there y there e)

pub stands-filled : (t : Table) (known : List ℕ) (y row col : ℕ) → StandsFor t known → y == t.me ≡ false → row ≡ shared_of t.me y → col ≡ digit_of y row →
    row < DIGITS → col < DIGIT_VALUES → entry_in t row col ≡ None → StandsFor (with_entry t row col y) (learn t.me known y)
stands-filled t known y row col st other e f hr hc none = record { size = length-set t.entries (DIGIT_VALUES * row + col) (Some y) ∙ st.size; entry = entry }
  where
    size : length t.entries ≡ DIGITS * DIGIT_VALUES
    size = st.size

    set_here : get_or (set t.entries (DIGIT_VALUES * row + col) (Some y)) (DIGIT_VALUES * row + col) None ≡ Some y
    set_here = get_or-set_same t.entries (DIGIT_VALUES * row + col) (Some y) None (omega arith)

    entry : (r d : ℕ) → r < DIGITS → d < DIGIT_VALUES → get_or (set t.entries (DIGIT_VALUES * row + col) (Some y)) (DIGIT_VALUES * r + d) None ≡ entry_of t.me
        (learn t.me known y) r d
    entry r d lr ld = elim (cases_Bool (belongs t.me r d y)) [
      | inl b ↦
          let parts = and_parts (shared_of t.me y == r) (digit_of y r == d) b in
          let same_row : row ≡ r = e ∙ eqb-true (shared_of t.me y) r parts.0 in
          let same_col : col ≡ d = f ∙ ap (digit_of y) same_row ∙ eqb-true (digit_of y r) d parts.1 in
          let place : DIGIT_VALUES * row + col ≡ DIGIT_VALUES * r + d = omega arith in
          let was : entry_in t r d ≡ None = subst (λ k. entry_in t r k ≡ None) same_col (subst (λ k. entry_in t k col ≡ None) same_row none) in
          subst (λ k. get_or (set t.entries (DIGIT_VALUES * row + col) (Some y)) k None ≡ Some y) place set_here
          ∙ sym (entry-first t.me y known r d other b (sym (st.entry r d lr ld) ∙ was))
      | inr b ↦
          let apart : DIGIT_VALUES * r + d ≢ DIGIT_VALUES * row + col = λ k. elsewhere r d b ld k in
          get_or-set_other t.entries (DIGIT_VALUES * row + col) (DIGIT_VALUES * r + d) (Some y) None apart ∙ st.entry r d lr ld
          ∙ sym (entry-elsewhere t.me y known r d b)
    ] where
      elsewhere : (r d : ℕ) → belongs t.me r d y ≡ false → d < DIGIT_VALUES → DIGIT_VALUES * r + d ≡ DIGIT_VALUES * row + col → ⊥
      elsewhere r d b ld k =
          let same_row : r ≡ row = omega arith in
          let same_col : d ≡ col = omega arith in
          let here : belongs t.me r d y ≡ true = belongs_here t.me y r d (same_row ∙ e) (same_col ∙ f ∙ ap (digit_of y) (sym same_row)) in cc

-- the table after the entry was filled where it was empty
pub stands-learnt : (t s : Table) (known : List ℕ) (y row col : ℕ) (b : Bool) → StandsFor t known → y == t.me ≡ false → row ≡ shared_of t.me y →
    col ≡ digit_of y row → row < DIGITS → b ≡ is_none (entry_in t row col) → OnTrue b (s ≡ with_entry t row col y) →
    OnFalse b (s ≡ t) → StandsFor s (learn t.me known y)
stands-learnt t s known y row col b st other e f hr answer filled same = by b (entry_in t row col) refl answer filled same where
  hc : col < DIGIT_VALUES
  hc = omega (arith, f)

  by : (a : Bool) (o : Option ℕ) → entry_in t row col ≡ o → a ≡ is_none o → OnTrue a (s ≡ with_entry t row col y) → OnFalse a (s ≡ t) →
      StandsFor s (learn t.me known y)
  by true None o_is a_is new old = subst (λ (r : Table). StandsFor r (learn t.me known y)) (sym new) (stands-filled t known y row col st other e f hr hc o_is)
  by true (Some x) o_is a_is new old = cc
  by false None o_is a_is new old = cc
  by false (Some x) o_is a_is new old = subst (λ (r : Table). StandsFor r (learn t.me known y)) (sym old) (stands-held t known y row col x st e f hr hc o_is)
