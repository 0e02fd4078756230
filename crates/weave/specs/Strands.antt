-- The entries of histories that are woven: one that may be gone, and those of which the first are.
use Rattle.std.specs.Prelude.{ℕ, ◌-◌, Option, Some, None, List, ◌++◌, length, replicate, reverse}
use Rattle.weave_laws.specs.Cells as plain
use Rattle.node_cell.specs.declared.entry.CellEntry.{CellEntry}
use Rattle.node_cell.specs.Entries.{plain_entry}
use Rattle.weave.specs.Placed.{no_entry}
use denote.Ref.{Bor}

-- an entry, or nothing
abbrev pub entry_seen : Option (Bor CellEntry) → plain.CellEntry
entry_seen None = no_entry
entry_seen (Some e) = plain_entry e.now

-- of so many entries these, the last of them first; those before them are gone
abbrev pub left_of : ℕ → List plain.CellEntry → List plain.CellEntry
left_of n es = replicate (n - length es) no_entry ++ reverse es
