-- Distances on the circle as arithmetic: `cw_of` by cases, and `turn`, the way round that is a whole turn from an identifier to itself.
-- "Strictly between" is then an order: x stands between a and b where `turn a x < turn a b`, and, seen from the other end, where `turn x b < turn a b`.
-- In a proof give `omega` or `grind` the cases of each distance that it is about.
use Rattle.std.proofs.Common.{◌≡◌, ◌≢◌, ◌⊎◌, ℕ, ◌==◌, ltb, ◌+◌, ◌^◌, ◌<◌, ◌≤◌, arith}
use Rattle.std.specs.Prelude.{if◌then◌else◌}
use Rattle.std.proofs.lemmas.Bool.{cases_eq}
use Rattle.std.proofs.lemmas.Bool.Decides.{nat_tests}
use Rattle.ring_math.specs.Ring.{cw_of, is_between}

-- ---- the clockwise distance

pub cw_cases : (a b : ℕ) → a < 2 ^ 128 → b < 2 ^ 128 → ((a ≤ b) × (cw_of a b + a ≡ b)) ⊎ ((b < a) × (cw_of a b + a ≡ b + 2 ^ 128))
unfolding cw_of
cw_cases a b ha hb = grind arith

pub cw-lt : (a b : ℕ) → cw_of a b < 2 ^ 128
unfolding cw_of
cw-lt a b = omega arith

pub cw-same : (a : ℕ) → a < 2 ^ 128 → cw_of a a ≡ 0
cw-same a ha = omega (arith, cw_cases a a ha ha)

pub same_from_cw : (a b : ℕ) → a < 2 ^ 128 → b < 2 ^ 128 → cw_of a b ≡ 0 → a ≡ b
same_from_cw a b ha hb e = omega (arith, cw_cases a b ha hb)

-- there and back is a whole turn
pub cw-back : (a b : ℕ) → a < 2 ^ 128 → b < 2 ^ 128 → a ≢ b → cw_of a b + cw_of b a ≡ 2 ^ 128
cw-back a b ha hb ne = omega (arith, cw_cases a b ha hb, cw_cases b a hb ha)

pub cw-sum : (a b c : ℕ) → a < 2 ^ 128 → b < 2 ^ 128 → c < 2 ^ 128 →
    (cw_of a b + cw_of b c ≡ cw_of a c) ⊎ (cw_of a b + cw_of b c ≡ cw_of a c + 2 ^ 128)
cw-sum a b c ha hb hc = grind (arith, cw_cases a b ha hb, cw_cases b c hb hc, cw_cases a c ha hc)

-- ---- the way round

-- how far it is from a clockwise to b, a whole turn from a to itself
unfoldable pub turn : ℕ → ℕ → ℕ
turn a b = if a == b then 2 ^ 128 else cw_of a b

pub turn_cases : (a b : ℕ) → a < 2 ^ 128 → b < 2 ^ 128 → ((a < b) × (turn a b + a ≡ b)) ⊎ ((b ≤ a) × (turn a b + a ≡ b + 2 ^ 128))
unfolding turn cw_of
turn_cases a b ha hb = grind (arith, nat_tests)

pub turn-cw : (a b : ℕ) → a ≢ b → turn a b ≡ cw_of a b
unfolding turn
turn-cw a b ne = grind (arith, nat_tests)

pub turn-same : (a : ℕ) → turn a a ≡ 2 ^ 128
unfolding turn
turn-same a = grind (arith, nat_tests)

pub turn-le : (a b : ℕ) → turn a b ≤ 2 ^ 128
turn-le a b = grind (arith, cases_eq a b, turn-cw a b, turn-same a, cw-lt a b)

-- different identifiers are differently far, from each end
pub same_from_turn : (x a b : ℕ) → x < 2 ^ 128 → a < 2 ^ 128 → b < 2 ^ 128 → turn x a ≡ turn x b → a ≡ b
same_from_turn x a b hx ha hb e = omega (arith, turn_cases x a hx ha, turn_cases x b hx hb)

pub same_from_turn_back : (x a b : ℕ) → x < 2 ^ 128 → a < 2 ^ 128 → b < 2 ^ 128 → turn a x ≡ turn b x → a ≡ b
same_from_turn_back x a b hx ha hb e = omega (arith, turn_cases a x ha hx, turn_cases b x hb hx)

-- ---- strictly between

pub is_between-turn : (a x b : ℕ) → a < 2 ^ 128 → x < 2 ^ 128 → b < 2 ^ 128 → is_between a x b ≡ ltb (turn a x) (turn a b)
unfolding is_between
is_between-turn a x b ha hx hb = grind (arith, nat_tests, cw_cases a x ha hx, cw_cases a b ha hb, turn_cases a x ha hx, turn_cases a b ha hb)

-- the same, seen from the other end
pub is_between-turn_back : (a x b : ℕ) → a < 2 ^ 128 → x < 2 ^ 128 → b < 2 ^ 128 → is_between a x b ≡ ltb (turn x b) (turn a b)
is_between-turn_back a x b ha hx hb =
    grind (arith, nat_tests, is_between-turn a x b ha hx hb, turn_cases a x ha hx, turn_cases a b ha hb, turn_cases x b hx hb)

-- what is met on a way splits it
pub turn-split : (a b c : ℕ) → a < 2 ^ 128 → b < 2 ^ 128 → c < 2 ^ 128 → turn a b < turn a c → turn a b + turn b c ≡ turn a c
turn-split a b c ha hb hc lt = grind (arith, turn_cases a b ha hb, turn_cases a c ha hc, turn_cases b c hb hc)

-- what is no nearer than c on the way from a is no nearer than c from each b before c
pub turn-beyond : (a b c d : ℕ) → a < 2 ^ 128 → b < 2 ^ 128 → c < 2 ^ 128 → d < 2 ^ 128 → turn a b < turn a c → turn a c ≤ turn a d →
    turn b c ≤ turn b d
turn-beyond a b c d ha hb hc hd lt le = omega (arith, turn-split a b c ha hb hc lt, turn-split a b d ha hb hd (omega arith))
