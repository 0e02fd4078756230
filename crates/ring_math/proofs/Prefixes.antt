-- Digits in base 16 as bits: one digit by a shift and a mask, and the digits in common by leading zeros.
-- Two numbers have the digits before place m in common where `a / 16 ^ m ≡ b / 16 ^ m`.
use Rattle.std.proofs.Common.{◌≡◌, ◌≢◌, ℕ, suc, zero, ◌+◌, ◌-◌, ◌*◌, ◌^◌, ◌%◌, ◌/◌, ◌<◌, ◌≤◌, refl, ◌⊎◌, sym, ◌∙◌, ap, subst, lit<, arith, inl, inr}
use Rattle.std.specs.Prelude.{bit_and, bit_xor}
use Rattle.std.specs.Int.Count.{count_leading_zeros}
use Rattle.std.specs.Int.Bits.{xor_self, xor_add_and}
use Rattle.std.proofs.lemmas.Bool.{cases_eq, cases_lt}
use Rattle.std.proofs.lemmas.Bool.Decides.{nat_tests}
use Rattle.std.proofs.lemmas.Nat.{and_mask, and_le_l, and_le_r, pow-add, pow_pos, xor_lt, xor_shr, leading_length, div-add-mod', mod_below, div_below}
use Rattle.std.proofs.Math.Nat.{pow-suc, pow-le-pow_right, div-div-eq-div-mul}
use Rattle.ring_math.specs.Ring.{digit_of, shared_of, shared_in_last}

pub pow_sixteen : (k : ℕ) → 2 ^ (4 * k) ≡ 16 ^ k
pow_sixteen zero = refl
pow_sixteen (suc k) = let e : 4 * suc k ≡ 4 + 4 * k = omega arith in rw (e, pow-add 2 4 (4 * k), pow_sixteen k, pow-suc 16 k) (omega arith)

pub masked_digit : (n k : ℕ) → bit_and (n / 2 ^ (4 * k)) 15 ≡ n / 16 ^ k % 16
masked_digit n k = rw (pow_sixteen k) (and_mask (n / 16 ^ k) 4)

-- what is before place m + 1 is what is before place m, without its last digit
before_place : (a m : ℕ) → a / 16 ^ suc m ≡ a / 16 ^ m / 16
before_place a m = let e : 16 ^ m * 16 ≡ 16 ^ suc m = rw (pow-suc 16 m) (omega arith) in rw (div-div-eq-div-mul a (16 ^ m) 16, e) refl

same_place : (a b m : ℕ) → a / 16 ^ suc m ≡ b / 16 ^ suc m → a / 16 ^ m % 16 ≡ b / 16 ^ m % 16 → a / 16 ^ m ≡ b / 16 ^ m
same_place a b m e f =
    let g : a / 16 ^ m / 16 ≡ b / 16 ^ m / 16 = sym (before_place a m) ∙ e ∙ before_place b m in omega arith

-- a and b are alike before place m, and at the place behind it they differ, where there is one
pub record DifferAt (a b m : ℕ) : Type 0 where
  pub alike : a / 16 ^ m ≡ b / 16 ^ m
  pub differ : (j : ℕ) → m ≡ suc j → a / 16 ^ j ≢ b / 16 ^ j

shared_step : (n a b s : ℕ) → a / 16 ^ n % 16 ≡ b / 16 ^ n % 16 → shared_in_last n a b ≡ s → shared_in_last (suc n) a b ≡ 1 + s
shared_step n a b s same e = grind (arith, nat_tests, same, e)

shared_stop : (n a b : ℕ) → a / 16 ^ n % 16 ≢ b / 16 ^ n % 16 → shared_in_last (suc n) a b ≡ 0
shared_stop n a b other = grind (arith, nat_tests, other)

pub shared_differ : (n a b : ℕ) → a / 16 ^ n ≡ b / 16 ^ n → (m : ℕ) × (shared_in_last n a b + m ≡ n) × DifferAt a b m
shared_differ zero a b e = (0, refl, record { alike = e; differ = λ j f. absurd (omega arith) })
shared_differ (suc n) a b e =
    elim (cases_eq (a / 16 ^ n % 16) (b / 16 ^ n % 16)) [
      | inl same ↦
          let rest = shared_differ n a b (same_place a b n e same) in
          let one : shared_in_last (suc n) a b ≡ 1 + shared_in_last n a b = shared_step n a b _ same refl in
          let whole = rest.1 in
          (rest.0, omega (arith, one), rest.2)
      | inr other ↦
          let none = shared_stop n a b other in (
            suc n,
            omega (arith, none),
            record { alike = e; differ = λ j f g. let at_n : n ≡ j = omega arith in other (ap (λ d. d % 16) (rw at_n g)) },
          )
    ]

-- numbers with no bit that differs are equal
xor_zero : (a b : ℕ) → bit_xor a b ≡ 0 → a ≡ b
xor_zero a b e = omega (arith, xor_add_and a b, and_le_l a b, and_le_r a b)

xor_before : (a b m : ℕ) → bit_xor a b / 16 ^ m ≡ bit_xor (a / 16 ^ m) (b / 16 ^ m)
xor_before a b m = rw (← pow_sixteen m) (xor_shr a b (4 * m))

xor_same : (a b m : ℕ) → a / 16 ^ m ≡ b / 16 ^ m → bit_xor a b < 2 ^ (4 * m)
xor_same a b m e =
    let zero_before : bit_xor a b / 16 ^ m ≡ 0 = xor_before a b m ∙ rw e (xor_self (b / 16 ^ m)) in
    let positive = pow_pos (4 * m) in
    let whole = div-add-mod' (bit_xor a b) (2 ^ (4 * m)) in
    let below = mod_below (bit_xor a b) (2 ^ (4 * m)) positive in
    let none : bit_xor a b / 2 ^ (4 * m) ≡ 0 = rw (pow_sixteen m) zero_before in
    omega (arith, rw none at whole)

xor_other : (a b m : ℕ) → a / 16 ^ m ≢ b / 16 ^ m → 2 ^ (4 * m) ≤ bit_xor a b
xor_other a b m ne =
    elim (cases_lt (bit_xor a b) (2 ^ (4 * m))) [
      | inl lt ↦
          let less : bit_xor a b / 2 ^ (4 * m) < 1 = div_below (bit_xor a b) (2 ^ (4 * m)) 1 (pow_pos (4 * m)) (omega arith) in
          let none : bit_xor a b / 2 ^ (4 * m) ≡ 0 = omega arith in
          absurd (ne (xor_zero _ _ (sym (xor_before a b m) ∙ rw (← pow_sixteen m) none)))
      | inr le ↦ le
    ]

-- powers tell their exponents
exponent_below : (i j n : ℕ) → 2 ^ i ≤ n → n < 2 ^ j → i < j
exponent_below i j n le lt =
    elim (cases_lt i j) [
      | inl below ↦ below
      | inr above ↦ let up : 2 ^ j ≤ 2 ^ i = pow-le-pow_right (lit< tt) above in absurd (omega arith)
    ]

last_place : (m : ℕ) → (m ≡ 0) ⊎ ((j : ℕ) × (m ≡ suc j))
last_place zero = inl refl
last_place (suc j) = inr (j, refl)

-- a number of 128 bits whose highest is one of the four behind place m
zeros_between : (x m : ℕ) → x < 2 ^ 128 → m ≤ 32 → x < 2 ^ (4 * m) → ((j : ℕ) → m ≡ suc j → 2 ^ (4 * j) ≤ x) → count_leading_zeros 128 x / 4 + m ≡ 32
zeros_between x m hx hm below above =
    let bits = leading_length 128 x hx in
    let sum = bits.1 in
    let top = bits.3 in
    let double : 2 ^ suc (4 * m) ≡ 2 ^ (4 * m) * 2 = pow-suc 2 (4 * m) in
    let few : bits.0 < suc (4 * m) = exponent_below bits.0 (suc (4 * m)) (2 * x + 1) top (omega (arith, double)) in
    elim (last_place m) [
      | inl none ↦ omega arith
      | inr (j, e) ↦ let many : 4 * j < bits.0 = exponent_below (4 * j) bits.0 x (above j e) bits.2 in omega arith
    ]

pub leading_digits : (a b : ℕ) → a < 2 ^ 128 → b < 2 ^ 128 → count_leading_zeros 128 (bit_xor a b) / 4 ≡ shared_of a b
unfolding shared_of
leading_digits a b ha hb =
    let none : a / 16 ^ 32 ≡ b / 16 ^ 32 = omega arith in
    let found = shared_differ 32 a b none in
    let at_end = found.1 in
    let zeros = zeros_between (bit_xor a b) found.0 (xor_lt 128 a b ha hb) (omega arith) (xor_same a b found.0 found.2.alike)
    (λ j e. xor_other a b j (found.2.differ j e)) in
    omega arith

-- ---- what `shared_of` says of digits

-- the digits in common, and the place of the last of them
shared_parts : (a b : ℕ) → a < 2 ^ 128 → b < 2 ^ 128 → (m : ℕ) × (shared_of a b + m ≡ 32) × DifferAt a b m
unfolding shared_of
shared_parts a b ha hb = let none : a / 16 ^ 32 ≡ b / 16 ^ 32 = omega arith in shared_differ 32 a b none

pub shared_of-le : (a b : ℕ) → a < 2 ^ 128 → b < 2 ^ 128 → shared_of a b ≤ 32
shared_of-le a b ha hb = let sum = (shared_parts a b ha hb).1 in omega arith

pub shared_of-same : (a : ℕ) → a < 2 ^ 128 → shared_of a a ≡ 32
shared_of-same a ha =
    let found = shared_parts a a ha ha in
    let sum = found.1 in
    elim (last_place found.0) [
      | inl none ↦ omega arith
      | inr (j, e) ↦ absurd (found.2.differ j e refl)
    ]

-- the digits in common are the same
digits_before : (a b m t : ℕ) → a / 16 ^ m ≡ b / 16 ^ m → a / 16 ^ (m + t) ≡ b / 16 ^ (m + t)
digits_before a b m t e = rw (pow-add 16 m t, ← div-div-eq-div-mul a (16 ^ m) (16 ^ t), ← div-div-eq-div-mul b (16 ^ m) (16 ^ t)) (ap (λ n. n / 16 ^ t) e)

pub digit_of-common : (a b row : ℕ) → a < 2 ^ 128 → b < 2 ^ 128 → row < shared_of a b → digit_of a row ≡ digit_of b row
digit_of-common a b row ha hb lt =
    let found = shared_parts a b ha hb in
    let sum = found.1 in
    let place : found.0 + (31 - row - found.0) ≡ 31 - row = omega arith in
    ap (λ n. n % 16) (subst (λ j. a / 16 ^ j ≡ b / 16 ^ j) place (digits_before a b found.0 (31 - row - found.0) found.2.alike))

-- different identifiers differ in the digit behind those in common, which there is
pub digit_of-shared : (a b : ℕ) → a < 2 ^ 128 → b < 2 ^ 128 → a ≢ b → (shared_of a b < 32) × (digit_of a (shared_of a b) ≢ digit_of b (shared_of a b))
digit_of-shared a b ha hb ne =
    let found = shared_parts a b ha hb in
    let sum = found.1 in
    elim (last_place found.0) [
      | inl none ↦ absurd (ne (whole a b found.0 none found.2.alike))
      | inr (j, e) ↦
          let row : 31 - shared_of a b ≡ j = omega arith in
          let alike : a / 16 ^ suc j ≡ b / 16 ^ suc j = subst (λ m. a / 16 ^ m ≡ b / 16 ^ m) e found.2.alike in
          (omega arith, λ same. found.2.differ j e (same_place a b j alike (rw row at same)))
    ] where
      whole : (x y m : ℕ) → m ≡ 0 → x / 16 ^ m ≡ y / 16 ^ m → x ≡ y
      whole x y zero e same = omega arith
      whole x y (suc m) e same = absurd (omega arith)
