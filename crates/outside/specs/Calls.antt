-- The calls of a device in memory: how many were made, and which of them fail.
use Rattle.std.specs.Prelude.{ℕ, Bool, true, false, ◌+◌, ◌-◌, ◌^◌, ◌==◌, ◌&&◌, nat_lt, List, min}
use Rattle.std.specs.List.{list_any}

pub record Calls : Type 0 where
  -- the numbers of the calls that fail, counted from 1
  pub fails : List ℕ
  -- the calls so far, which a u64 counts, and which stands still at its last number
  pub made : ℕ
  -- the calls that failed so far, which a u64 counts in the same way
  pub faults : ℕ

-- the number after n that a u64 has
abbrev pub counted : ℕ → ℕ
counted n = min (n + 1) (2 ^ 64 - 1)

-- the coming call is one of those that fail, which none is whose number is past those of a u64
abbrev pub is_next_to_fail : Calls → Bool
is_next_to_fail c = nat_lt c.made (2 ^ 64 - 1) && list_any (λ n. n == c.made + 1) c.fails

-- the count of faults after a call that failed or not
abbrev pub faults_after : ℕ → Bool → ℕ
faults_after faults true = counted faults
faults_after faults false = faults

-- one more call was made, which failed or not
abbrev pub after_call : Calls → Bool → Calls
after_call c failed = record { fails = c.fails; made = counted c.made; faults = faults_after c.faults failed }
