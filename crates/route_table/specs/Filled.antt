-- The places of a table, where the node itself stands for nothing.
use Rattle.std.specs.Prelude.{◌-◌, ◌*◌, ◌==◌, if◌then◌else◌, Option, Some, None, List, ◌++◌, length, map, replicate}
use Rattle.ring_math.specs.Names.{Id}
use Rattle.ring_math.specs.declared.limits.TheConstants.{DIGITS, DIGIT_VALUES}

-- y as an entry of me: nothing where it is me
abbrev pub entry_at : Id → Id → Option Id
entry_at me y = if y == me then None else Some y

abbrev pub entries_at : Id → List Id → List (Option Id)
entries_at me ids = map (entry_at me) ids

-- all the entries of a table, where the list has its first places: nothing stands behind them
abbrev pub all_entries : Id → List Id → List (Option Id)
all_entries me ids = entries_at me ids ++ replicate (DIGITS * DIGIT_VALUES - length ids) None
