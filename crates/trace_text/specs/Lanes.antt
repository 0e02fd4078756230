-- Vectors of sixteen bytes.
use Rattle.std.specs.Prelude.{◌≡◌, ℕ, ◌<◌, true, List, length, slice_index}
use Rattle.hex.specs.Hex.{lower_digits}
use Rattle.trace_text.specs.Digits.{is_lower_digit}

-- sixteen lanes, and lane k holds f k
pub record HasLanes (v : List ℕ) (f : ℕ → ℕ) : Type 0 where
  pub long : length v ≡ 16
  pub each : (k : ℕ) → k < 16 → slice_index v k ≡ f k

-- a value below 16 is that of the digit, and a digit in lower case has one
pub record IsValueOf (digit value : ℕ) : Type 0 where
  pub digit_is : value < 16 → slice_index lower_digits value ≡ digit
  pub lower : is_lower_digit digit ≡ true → value < 16

-- the values of these digits, lane by lane
pub record AreValuesOf (digits values : List ℕ) : Type 0 where
  pub long : length values ≡ 16
  pub each : (k : ℕ) → k < 16 → IsValueOf (slice_index digits k) (slice_index values k)
