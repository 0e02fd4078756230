-- The values of digits, each computed and not looked up.
use Rattle.std.proofs.Common.{◌≡◌, ℕ, ◌+◌, ◌-◌, ◌%◌, ◌<◌, Bool, true, cond, ◌&&◌, eqb, slice_index, refl}
use Rattle.std.specs.Prelude.{nat_lt, bit_and}
use Rattle.std.proofs.lemmas.Bool.{and_parts, eqb-true, ltb-true, lt-ltb}
use Rattle.hex.specs.Hex.{lower_digits}
use Rattle.trace_text.specs.Digits.{is_lower_digit}
use Rattle.trace_text.specs.Lanes.{IsValueOf}
use Rattle.text_writer.proofs.Tables.{all_below-at}

-- ---- of digits

-- as the lanes of a vector compute it
abbrev pub value_of_lane : ℕ → ℕ
value_of_lane d =
    cond (nat_lt ((d + 256 - 48) % 256) 10) ((d + 256 - 48) % 256) (cond (nat_lt ((d + 256 - 97) % 256) 6) (((d + 256 - 97) % 256 + 10) % 256) 16)

abbrev reads_back : ℕ → Bool
reads_back d = cond (nat_lt (value_of_lane d) 16) (eqb (slice_index lower_digits (value_of_lane d)) d) true
    && cond (is_lower_digit d) (nat_lt (value_of_lane d) 16) true

pub lane_value : (d : ℕ) → d < 256 → IsValueOf d (value_of_lane d)
lane_value d small =
    let tried : reads_back d ≡ true = all_below-at reads_back 256 d refl small in
    let parts = and_parts (cond (nat_lt (value_of_lane d) 16) (eqb (slice_index lower_digits (value_of_lane d)) d) true)
    (cond (is_lower_digit d) (nat_lt (value_of_lane d) 16) true) tried in
    record {
      digit_is = λ below.
          let test : nat_lt (value_of_lane d) 16 ≡ true = lt-ltb (value_of_lane d) 16 below in
          eqb-true (slice_index lower_digits (value_of_lane d)) d (rw test at parts.0);
      lower = λ lower. ltb-true (value_of_lane d) 16 (rw lower at parts.1);
    }

-- ---- of values

-- as the lanes of a vector compute it
abbrev pub digit_of_lane : ℕ → ℕ
digit_of_lane v = cond (nat_lt v 10) ((v + 48) % 256) ((v + 87) % 256)

pub lane_digit : (v : ℕ) → v < 16 → digit_of_lane v ≡ slice_index lower_digits v
lane_digit v small = eqb-true (digit_of_lane v) (slice_index lower_digits v)
    (all_below-at (λ (w : ℕ). eqb (digit_of_lane w) (slice_index lower_digits w)) 16 v refl small)

pub low_of_lane : (b : ℕ) → b < 256 → bit_and b 15 ≡ b % 16
low_of_lane b small = eqb-true (bit_and b 15) (b % 16) (all_below-at (λ (c : ℕ). eqb (bit_and c 15) (c % 16)) 256 b refl small)
