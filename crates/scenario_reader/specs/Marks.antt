-- Marks of names, by which they are looked up.
use Rattle.std.specs.Prelude.{ℕ, ◌+◌, ◌*◌, ◌%◌, List, fold, map}

-- a byte that depends on each byte of the name
abbrev pub mark_of : List ℕ → ℕ
mark_of name = fold (λ mark byte. (mark * 31 % 256 + byte) % 256) 0 name

-- the marks of items by their names
abbrev pub marks_by : {X : Type 0} → (X → List ℕ) → List X → List ℕ
marks_by name items = map (λ item. mark_of (name item)) items
