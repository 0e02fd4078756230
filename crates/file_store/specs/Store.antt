-- What a store is seen as: its entries by rising file identifier, and how many it has room for.
use Rattle.std.specs.Prelude.{ℕ, List}
use Rattle.ring_math.specs.declared.file.Held.{Held}

pub record Store : Type 0 where
  pub files : List Held
  pub room : ℕ
