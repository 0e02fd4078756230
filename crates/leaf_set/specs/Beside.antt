-- The two places beside a gap among so many places round the circle.
use Rattle.std.specs.Prelude.{◌≡◌, ◌<◌, ◌+◌, ◌⊎◌, ℕ}

-- the place before, which is the last where the gap is before the first
abbrev pub IsBefore : ℕ → ℕ → ℕ → Type 0
IsBefore before place count = ((place ≡ 0) × (before + 1 ≡ count)) ⊎ (before + 1 ≡ place)

-- the place from which it goes on, which is the first where the gap is behind the last
abbrev pub IsFrom : ℕ → ℕ → ℕ → Type 0
IsFrom from place count = ((place ≡ count) × (from ≡ 0)) ⊎ ((place < count) × (from ≡ place))
