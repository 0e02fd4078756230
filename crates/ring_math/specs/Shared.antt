-- Lists that are shared.
use Rattle.std.specs.Prelude.{Option, Some, None, List, []}

-- a list that has no memory where it is empty
abbrev pub items_in : {A X : Type 0} → (A → List X) → Option A → List X
items_in items None = []
items_in items (Some a) = items a
