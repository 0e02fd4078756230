-- The two parts of a script: the lines before the first that is exactly `groups`, and those behind it.
use Rattle.std.specs.Prelude.{◌≡◌, ℕ, if◌then◌else◌, List, [], ◌∷◌, Option, Some, None, bytes_eq, codes, Bool}

abbrev pub is_mark : List ℕ → Bool
is_mark line = bytes_eq line (codes "groups")

abbrev pub part_one : List (List ℕ) → List (List ℕ)
part_one [] = []
part_one (line ∷ lines) = if is_mark line then [] else line ∷ part_one lines

-- None where no line is `groups`
abbrev pub part_two : List (List ℕ) → Option (List (List ℕ))
part_two [] = None
part_two (line ∷ lines) = if is_mark line then Some lines else part_two lines

-- a text of whole lines: its last byte, if there is one, ends a line
abbrev pub IsClosed : List ℕ → Type 0
IsClosed [] = Unit {0}
IsClosed (byte ∷ []) = byte ≡ 10
IsClosed (byte ∷ next ∷ text) = IsClosed (next ∷ text)
