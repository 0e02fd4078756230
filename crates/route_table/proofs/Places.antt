-- The places of a table: what is read there as an entry, and that nothing stands behind the list.
use Rattle.std.proofs.Common.{◌≡◌, ◌≢◌, ℕ, zero, suc, ◌<◌, ◌≤◌, ◌*◌, ◌+◌, ◌-◌, Bool, cond, true, false, ◌==◌, List, [], ◌∷◌, ◌++◌, length, replicate, get_or}
use Rattle.std.proofs.Common.{set, Option, Some, None, refl, sym, ap, ◌∙◌, arith, inl, inr}
use Rattle.std.specs.Prelude.{◌↔◌}
use Rattle.std.specs.List.{Contains}
use Rattle.std.proofs.lemmas.Bool.{cases_lt, cond-true, cond-false, eq-eqb, ne_eqb}
use Rattle.std.proofs.lemmas.List.{get_or-map, get_or-replicate, get_or_past, set-append_left}
use Rattle.std.proofs.lemmas.List.{length-set, length-map, length-append, length-replicate, map-set, map-append, append_assoc, replicate-append-replicate}
use Rattle.std.proofs.lemmas.List.Elements.{Contains-append_left, Contains-append_cases}
use Rattle.ring_math.specs.declared.limits.TheConstants.{DIGITS, DIGIT_VALUES}
use Rattle.route_table.specs.Entries.{StandsFor}
use Rattle.route_table.specs.Filled.{entry_at, entries_at, all_entries}

entry_none : (me : ℕ) → entry_at me me ≡ None
entry_none me = cond-true (me == me) None (Some me) (eq-eqb me me refl)

entry_some : (me y : ℕ) → y ≢ me → entry_at me y ≡ Some y
entry_some me y ne = cond-false (y == me) None (Some y) (ne_eqb y me ne)

-- ---- one place

-- what stands for an identifier is this identifier, if it is any
pub entry_is : (me y x : ℕ) → entry_at me y ≡ Some x → y ≡ x
entry_is me y x e = one (y == me) e where
  one : (b : Bool) → cond b None (Some y) ≡ Some x → y ≡ x
  one true e = cc
  one false e = cc

pub read_at : (me : ℕ) (ids : List ℕ) (i y : ℕ) → i < length ids → y ≡ get_or ids i y → entry_at me y ≡ get_or (entries_at me ids) i (entry_at me y)
read_at me ids i y lt read = sym (get_or-map (entry_at me) ids i y (entry_at me y) lt ∙ ap (entry_at me) (sym read))

pub read_entry : (me : ℕ) (ids : List ℕ) (i y : ℕ) → i < length ids → y ≡ get_or ids i y → y == me ≡ false → Some y ≡ get_or (entries_at me ids) i (Some y)
read_entry me ids i y lt read other =
    sym (get_or-map (entry_at me) ids i y (Some y) lt ∙ ap (entry_at me) (sym read) ∙ cond-false (y == me) None (Some y) other)

pub read_nothing : (me : ℕ) (ids : List ℕ) (i y : ℕ) → i < length ids → y ≡ get_or ids i y → y == me ≡ true → None ≡ get_or (entries_at me ids) i None
read_nothing me ids i y lt read same =
    sym (get_or-map (entry_at me) ids i y None lt ∙ ap (entry_at me) (sym read) ∙ cond-true (y == me) None (Some y) same)

-- ---- all the entries

abbrev none : Option ℕ
none = None

-- what stands behind so many
abbrev behind : ℕ → List (Option ℕ)
behind n = replicate (DIGITS * DIGIT_VALUES - n) None

-- an entry that is filled
all_entries-set : (me : ℕ) (ids : List ℕ) (i y : ℕ) → i < length ids → y ≢ me → all_entries me (set ids i y) ≡ set (all_entries me ids) i (Some y)
all_entries-set me ids i y lt ne =
    ap (λ es. es ++ behind (length (set ids i y))) (map-set (entry_at me) ids i y ∙ ap (set (entries_at me ids) i) (entry_some me y ne))
    ∙ ap (λ n. set (entries_at me ids) i (Some y) ++ behind n) (length-set ids i y)
    ∙ sym (set-append_left (entries_at me ids) (behind (length ids)) i (Some y) (omega (arith, length-map ids (entry_at me))))

entries_at-none : (me n : ℕ) → entries_at me (replicate n me) ≡ replicate n None
entries_at-none me zero = refl
entries_at-none me (suc n) = ap (λ e. e ∷ entries_at me (replicate n me)) (entry_none me) ∙ ap (λ es. None ∷ es) (entries_at-none me n)

-- the node itself at new places is nothing, as was there before
all_entries-longer : (me : ℕ) (ids : List ℕ) (n : ℕ) → length ids + n ≤ DIGITS * DIGIT_VALUES → all_entries me (ids ++ replicate n me) ≡ all_entries me ids
all_entries-longer me ids n le =
    let long : length (ids ++ replicate n me) ≡ length ids + n = omega (arith, length-append ids (replicate n me), length-replicate n me) in
    let both : n + (DIGITS * DIGIT_VALUES - (length ids + n)) ≡ DIGITS * DIGIT_VALUES - length ids = omega arith in
    ap (λ es. es ++ behind (length (ids ++ replicate n me))) (map-append (entry_at me) ids (replicate n me)
    ∙ ap (λ es. entries_at me ids ++ es) (entries_at-none me n))
    ∙ ap (λ m. (entries_at me ids ++ replicate n None) ++ behind m) long
    ∙ append_assoc (entries_at me ids) (replicate n None) (behind (length ids + n))
    ∙ ap (λ es. entries_at me ids ++ es) (replicate-append-replicate n (DIGITS * DIGIT_VALUES - (length ids + n)) None ∙ ap (λ m. replicate m None) both)

-- a list that was lengthened to have a place, and then has an entry there
pub all_entries-filled : (me : ℕ) (ids : List ℕ) (i y : ℕ) → length ids ≤ DIGITS * DIGIT_VALUES → i < DIGITS * DIGIT_VALUES → y ≢ me →
    all_entries me (set (ids ++ replicate (i + 1 - length ids) me) i y) ≡ set (all_entries me ids) i (Some y)
all_entries-filled me ids i y short lt ne =
    let n = i + 1 - length ids in
    let there : i < length (ids ++ replicate n me) = omega (arith, length-append ids (replicate n me), length-replicate n me) in
    all_entries-set me (ids ++ replicate n me) i y there ne ∙ ap (λ es. set es i (Some y)) (all_entries-longer me ids n (omega arith))

-- ---- a table with no entry

get_or-none : (n i : ℕ) → get_or (replicate n None) i None ≡ none
get_or-none n i =
    elim (cases_lt i n) [
      | inl lt ↦ get_or-replicate n i None None lt
      | inr ge ↦ get_or_past (replicate n none) i None (omega (arith, length-replicate n none))
    ]

pub stands-empty : (me : ℕ) (ids : List ℕ) → ids ≡ [] → StandsFor (record { me = me; entries = all_entries me ids }) []
stands-empty me ids is = rw is (record {
  size = length-replicate (DIGITS * DIGIT_VALUES) none;
  entry = λ row col hr hc. get_or-none (DIGITS * DIGIT_VALUES) (DIGIT_VALUES * row + col);
})

-- ---- which entries there are

-- an entry stands where the list has a place
pub contains_all : (me : ℕ) (ids : List ℕ) (z : ℕ) → Contains (all_entries me ids) (Some z) ↔ Contains (entries_at me ids) (Some z)
contains_all me ids z = (there, Contains-append_left (entries_at me ids) (behind (length ids)) (Some z)) where
  nobody : (n : ℕ) → Contains (replicate n none) (Some z) → ⊥
  nobody n (k, lt, at) =
      let empty : get_or (replicate n none) k (Some z) ≡ none = get_or-replicate n k none (Some z) (omega (arith, length-replicate n none)) in
      cc

  there : Contains (all_entries me ids) (Some z) → Contains (entries_at me ids) (Some z)
  there c = elim (Contains-append_cases (entries_at me ids) (behind (length ids)) (Some z) c) [
    | inl in_list ↦ in_list
    | inr at_end ↦ absurd (nobody (DIGITS * DIGIT_VALUES - length ids) at_end)
  ]
