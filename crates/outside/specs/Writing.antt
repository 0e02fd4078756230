-- The calls by which bytes are written to a sink.
use Rattle.std.specs.Prelude.{◌≡◌, ℕ, ◌<◌, List, [], length, drop, Result, Ok, Err}
use Rattle.outside.specs.declared.traits.Taken.{Taken}
use Rattle.outside.specs.declared.traits.Taken.TheVariants.{Took, Failed}

-- from one sink to another by calls that each offer all bytes that are left: until none is left, or to a fault
pub data Writes {K E : Type 0} (takes : K → List ℕ → Taken → K → Type 0) : K → List ℕ → Result Unit E → K → Type 0 where
  done : (k : K) (bytes : List ℕ) → bytes ≡ [] → Writes takes k bytes (Ok tt) k
  failed : (k l : K) (bytes : List ℕ) (fault : E) → 0 < length bytes → takes k bytes Failed l → Writes takes k bytes (Err fault) l
  went_on : (k l m : K) (bytes rest : List ℕ) (n : ℕ) (end : Result Unit E) → 0 < length bytes → takes k bytes (Took n) l → rest ≡ drop n bytes →
      Writes takes l rest end m → Writes takes k bytes end m
