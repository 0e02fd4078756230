-- Nearness to a key as an order: for each key, nearer is a strict total order on identifiers.
-- `rank key a` is the place of a in it: a is nearer than b where `rank key a < rank key b`, and different identifiers have different places.
use Rattle.std.proofs.Common.{◌≡◌, ◌≢◌, ◌⊎◌, ℕ, true, false, ltb, ◌+◌, ◌-◌, ◌*◌, ◌^◌, ◌<◌, ◌≤◌, arith}
use Rattle.std.specs.Prelude.{nat_le, if◌then◌else◌}
use Rattle.std.proofs.lemmas.Bool.Decides.{nat_tests}
use Rattle.ring_math.specs.Ring.{cw_of, is_nearer}
use Rattle.ring_math.proofs.Distances.{cw_cases, cw-lt}

-- the place of a in the order by nearness to the key: twice its distance, and one more on the clockwise side
unfoldable pub rank : ℕ → ℕ → ℕ
rank key a = if nat_le (2 * cw_of a key) (2 ^ 128) then 2 * cw_of a key else 2 * 2 ^ 128 + 1 - 2 * cw_of a key

pub rank_cases : (key a : ℕ) →
    ((2 * cw_of a key ≤ 2 ^ 128) × (rank key a ≡ 2 * cw_of a key)) ⊎ ((2 ^ 128 < 2 * cw_of a key) × (rank key a + 2 * cw_of a key ≡ 2 * 2 ^ 128 + 1))
unfolding rank
rank_cases key a = grind (arith, nat_tests, cw-lt a key)

pub same_from_rank : (key a b : ℕ) → key < 2 ^ 128 → a < 2 ^ 128 → b < 2 ^ 128 → rank key a ≡ rank key b → a ≡ b
same_from_rank key a b hk ha hb e = grind (arith, rank_cases key a, rank_cases key b, cw_cases a key ha hk, cw_cases b key hb hk)

pub is_nearer-rank : (a b key : ℕ) → a < 2 ^ 128 → b < 2 ^ 128 → key < 2 ^ 128 → is_nearer a b key ≡ ltb (rank key a) (rank key b)
unfolding is_nearer
is_nearer-rank a b key ha hb hk =
    grind (arith, nat_tests, rank_cases key a, rank_cases key b, cw_cases a key ha hk, cw_cases b key hb hk, cw_cases key a hk ha, cw_cases key b hk hb)

-- ---- the laws of the order; all but the last need no range

pub is_nearer-same : (a key : ℕ) → is_nearer a a key ≡ false
unfolding is_nearer
is_nearer-same a key = grind (arith, nat_tests)

pub is_nearer-trans : (a b c key : ℕ) → is_nearer a b key ≡ true → is_nearer b c key ≡ true → is_nearer a c key ≡ true
unfolding is_nearer
is_nearer-trans a b c key p q = grind (arith, nat_tests)

pub is_nearer-turned : (a b key : ℕ) → is_nearer a b key ≡ true → is_nearer b a key ≡ false
is_nearer-turned a b key h = grind (arith, nat_tests, is_nearer-trans b a b key, is_nearer-same b key)

-- what is nearer than b is nearer than each c that is no nearer than b
pub is_nearer-weaker : (a b c key : ℕ) → is_nearer a b key ≡ true → is_nearer c b key ≡ false → is_nearer a c key ≡ true
unfolding is_nearer
is_nearer-weaker a b c key p q = grind (arith, nat_tests)

pub is_nearer-total : (a b key : ℕ) → a < 2 ^ 128 → b < 2 ^ 128 → key < 2 ^ 128 → a ≢ b → is_nearer a b key ≡ false → is_nearer b a key ≡ true
is_nearer-total a b key ha hb hk ne p = grind (
  arith,
  nat_tests,
  is_nearer-rank a b key ha hb hk,
  is_nearer-rank b a key hb ha hk,
  same_from_rank key a b hk ha hb,
)

pub ruleset order_laws = (is_nearer-same, is_nearer-trans, is_nearer-total)
