-- A side whose first and last are farther, going the other way round, than some reach: so are all of it, and a filter that keeps what
-- is not within that reach keeps it whole.
use Rattle.std.proofs.Common.{◌≡◌, ℕ, Bool, true, false, nat_le, ◌-◌, ◌^◌, ◌<◌, ◌≤◌, List, [], ◌∷◌, length, get_or, filter, All, arith, ap, refl, ◌∙◌}
use Rattle.std.proofs.lemmas.Bool.{cond-true}
use Rattle.std.proofs.lemmas.Bool.Decides.{nat_tests}
use Rattle.std.proofs.lemmas.List.Elements.{All-get_or, All-from_get_or, All-head, All-tail}
use Rattle.ring_math.specs.Direction.{far}
use Rattle.ring_math.specs.declared.direction.Direction.{Direction}
use Rattle.ring_math.specs.declared.direction.Direction.TheVariants.{Clockwise, Counterclockwise}
use Rattle.ring_math.proofs.Distances.{cw_cases, cw-lt}
use Rattle.leaf_set.specs.Rising.{Rises, back}
use Rattle.leaf_set.proofs.Neighbours.{rises_at}

pub not_le : (a b : ℕ) → a < b → nat_le b a ≡ false
not_le a b lt = grind (arith, nat_tests, lt)

pub far-lt : (me y : ℕ) (direction : Direction) → far me direction y < 2 ^ 128
far-lt me y Clockwise = cw-lt me y
far-lt me y Counterclockwise = cw-lt y me

-- what lies between two, going one way, is no nearer than the nearer of the two, going the other way
farther_between : (me reach first y last : ℕ) (direction : Direction) → me < 2 ^ 128 → first < 2 ^ 128 → y < 2 ^ 128 → last < 2 ^ 128 →
    reach < far me direction first → reach < far me direction last → back me direction first ≤ back me direction y →
    back me direction y ≤ back me direction last → reach < far me direction y
farther_between me reach first y last Clockwise hm hf hy hl ff fl fy yl =
    grind (
      arith,
      ff,
      fl,
      fy,
      yl,
      cw_cases me first hm hf,
      cw_cases first me hf hm,
      cw_cases me y hm hy,
      cw_cases y me hy hm,
      cw_cases me last hm hl,
      cw_cases last me hl hm,
    )
farther_between me reach first y last Counterclockwise hm hf hy hl ff fl fy yl =
    grind (
      arith,
      ff,
      fl,
      fy,
      yl,
      cw_cases me first hm hf,
      cw_cases first me hf hm,
      cw_cases me y hm hy,
      cw_cases y me hy hm,
      cw_cases me last hm hl,
      cw_cases last me hl hm,
    )

pub all-beyond : (me reach : ℕ) (direction : Direction) (xs : List ℕ) → me < 2 ^ 128 → 0 < length xs → All (λ z. z < 2 ^ 128) xs →
    Rises (back me direction) xs → reach < far me direction (get_or xs 0 0) → reach < far me direction (get_or xs (length xs - 1) 0) →
    All (λ y. reach < far me direction y) xs
all-beyond me reach direction xs hm some in_ring rises first last = All-from_get_or (λ y. reach < far me direction y) xs 0 between where
  ranged : (k : ℕ) → k < length xs → get_or xs k 0 < 2 ^ 128
  ranged k lt = All-get_or (λ z. z < 2 ^ 128) xs k 0 lt in_ring

  between : (k : ℕ) → k < length xs → reach < far me direction (get_or xs k 0)
  between k lt =
      farther_between me reach (get_or xs 0 0) (get_or xs k 0) (get_or xs (length xs - 1) 0) direction hm (ranged 0 some) (ranged k lt)
      (ranged (length xs - 1) (omega (arith, some))) first last (rises_at (back me direction) xs 0 k rises (omega arith) lt)
      (rises_at (back me direction) xs k (length xs - 1) rises (omega (arith, lt)) (omega (arith, some)))

pub filter-whole : (t : ℕ → Bool) (xs : List ℕ) → All (λ y. t y ≡ true) xs → filter t xs ≡ xs
filter-whole t [] h = refl
filter-whole t (x ∷ xs) h =
    cond-true (t x) (x ∷ filter t xs) (filter t xs) (All-head (λ y. t y ≡ true) x xs h)
    ∙ ap (λ ys. x ∷ ys) (filter-whole t xs (All-tail (λ y. t y ≡ true) x xs h))
