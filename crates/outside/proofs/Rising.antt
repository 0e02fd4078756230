-- How rises of a count of faults join with calls before and after, and when there was none.
use Rattle.std.proofs.Common.{◌<◌, ◌≤◌, ◌-◌, ◌^◌, ℕ, inl, inr, arith}
use Rattle.outside.specs.Rose.{Rose}

-- a count that stayed below the last number of a u64 did not rise
pub Rose-stayed : (n : ℕ) → n < 2 ^ 64 - 1 → Rose n n → ⊥
Rose-stayed n below (inl more) = omega arith
Rose-stayed n below (inr last) = omega arith

-- a rise after calls in which the count did not fall
pub Rose-later : (before middle after : ℕ) → before ≤ middle → Rose middle after → Rose before after
Rose-later before middle after kept (inl more) = inl (omega arith)
Rose-later before middle after kept (inr last) = inr last

-- a rise before calls in which the count did not fall
pub Rose-earlier : (before middle after : ℕ) → before ≤ middle → Rose before middle → middle ≤ after → Rose before after
Rose-earlier before middle after grew rose kept = grind arith
