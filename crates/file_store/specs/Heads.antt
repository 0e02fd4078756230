-- The first two bytes of a file as a number.
use Rattle.std.specs.Prelude.{◌≡◌, ◌<◌, ◌≤◌, ℕ, ◌+◌, ◌*◌, length, slice_index}
use Rattle.ring_math.specs.Names.{FileId}

pub record IsHead (file : FileId) (head : ℕ) : Type 0 where
  pub long : 2 ≤ length file
  pub byte : slice_index file 1 < 256
  pub is : head ≡ 256 * slice_index file 0 + slice_index file 1
