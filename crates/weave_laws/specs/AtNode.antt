-- The part of a record at one node, and that a history is this part.
use Rattle.std.specs.Prelude.{Bool, false, ◌==◌, Option, Some, None, List, filter}
use Rattle.std.specs.List.{AllZip}
use Rattle.ring_math.specs.Names.{Id}
use Rattle.overlay_rules.specs.declared.entry.Entry.{Entry}
use Rattle.overlay_rules.specs.Record.{Visit, visit, sent_in}
use Rattle.weave_laws.specs.Cells.{History}
use Rattle.weave_laws.specs.Woven.{IsEntryOf}

abbrev pub is_at : Id → Option Visit → Bool
is_at x None = false
is_at x (Some at) = at.node == x

-- the entries that happened at node x
abbrev pub entries_at : Id → List Entry → List Entry
entries_at x es = filter (λ e. is_at x (visit (sent_in es) e.event)) es

-- one by one, these are what the entries of the history become
abbrev pub IsPartOf : List Entry → History → Type 0
IsPartOf es h = AllZip (λ c. IsEntryOf (sent_in es) (record { node = h.node; entry = c })) h.entries (entries_at h.node es)
