-- What a prefix table is seen as, and the lists that it stands for.
use Rattle.std.specs.Prelude.{◌≡◌, ◌<◌, ℕ, ◌+◌, ◌*◌, Bool, true, not, ◌&&◌, ◌==◌, if◌then◌else◌, is_none, Option, Some, None, List, length, Contains}
use Rattle.std.specs.Prelude.{slice_index_or, slice_set}
use Rattle.ring_math.specs.Names.{Id, Key}
use Rattle.ring_math.specs.declared.limits.TheConstants.{DIGITS, DIGIT_VALUES}
use Rattle.ring_math.specs.Ring.{digit_of, shared_of}
use Rattle.ring_math.specs.Nearer.{improves}
use Rattle.ring_math.specs.Sides.{entry_of, is_some_at}
use Rattle.route_table.specs.declared.Standing.{Standing}
use Rattle.route_table.specs.declared.Standing.TheVariants.{Entry, Free, Elsewhere}

-- a node and its entries, one row after another: a row for each digit, and a column for each of its values
pub record Table : Type 0 where
  pub me : Id
  pub entries : List (Option Id)

-- the entry of a row and a column
abbrev pub entry_in : Table → ℕ → ℕ → Option Id
entry_in t row col = slice_index_or t.entries (DIGIT_VALUES * row + col) None

-- its entries are those of the list
pub record StandsFor (t : Table) (known : List Id) : Type 0 where
  pub size : length t.entries ≡ DIGITS * DIGIT_VALUES
  pub entry : (row col : ℕ) → row < DIGITS → col < DIGIT_VALUES → entry_in t row col ≡ entry_of t.me known row col

-- y is not the node, and the entry to which it belongs is empty
abbrev pub is_new : Table → Id → Bool
is_new t y = not (y == t.me) && is_none (entry_in t (shared_of t.me y) (digit_of y (shared_of t.me y)))

-- y is not the node, and is the entry to which it belongs
abbrev pub is_held : Table → Id → Bool
is_held t y = not (y == t.me) && is_some_at y (entry_in t (shared_of t.me y) (digit_of y (shared_of t.me y)))

-- how y stands to the table
abbrev pub standing_of : Table → Id → Standing
standing_of t y = if is_held t y then Entry else (if is_new t y then Free else Elsewhere)

-- the table with an entry
abbrev pub with_entry : Table → ℕ → ℕ → Id → Table
with_entry t row col y = record t { entries = slice_set t.entries (DIGIT_VALUES * row + col) (Some y) }

-- z is an entry and improves on another
pub record Improves (entries : List (Option Id)) (key : Key) (least : ℕ) (than z : Id) : Type 0 where
  pub entry : Contains entries (Some z)
  pub better : improves key least than z ≡ true
