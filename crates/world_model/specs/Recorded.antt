-- What a world is seen as: its setting and its record.
use Rattle.std.specs.Prelude.{List, [], ◌∷◌, ◌++◌}
use Rattle.ring_math.specs.Names.{Id}
use Rattle.overlay_rules.specs.declared.entry.Event.{Event}
use Rattle.overlay_rules.specs.declared.entry.Entry.{Entry}
use Rattle.overlay_rules.specs.Record.{Setting, World, world_at_start, run}
use Rattle.overlay_rules.specs.Played.{entry_of}

pub record Recorded : Type 0 where
  pub nodes : List Id
  pub founder : Id
  pub entries : List Entry

abbrev pub setting_of : Recorded → Setting
setting_of r = record { nodes = r.nodes; founder = r.founder }

-- the states of the nodes after the entries
abbrev pub world_of : Recorded → World
world_of r = run (world_at_start (setting_of r)) r.entries

abbrev pub with_entry : Recorded → Entry → Recorded
with_entry r e = record r { entries = r.entries ++ e ∷ [] }

-- one more event, with what its node's step sends and notes
abbrev pub with_event : Recorded → Event → Recorded
with_event r v = with_entry r (entry_of (world_of r) v)
