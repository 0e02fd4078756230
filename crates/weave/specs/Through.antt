-- A record taken through cells: the event of each entry in turn comes to the cell of its node. Message n is the n-th that the
-- cells sent, in the order of the events.
use Rattle.std.specs.Prelude.{◌==◌, Option, Some, None, List, [], ◌∷◌, ◌++◌, map, slice_get}
use Rattle.ring_math.specs.Names.{Id}
use Rattle.wire_msg.specs.Words.{Envelope}
use Rattle.overlay_rules.specs.declared.entry.Event.{Event}
use Rattle.overlay_rules.specs.declared.entry.Event.TheVariants as event
use Rattle.overlay_rules.specs.declared.entry.Entry.{Entry}
use Rattle.overlay_rules.specs.State.{State, start}
use Rattle.overlay_rules.specs.Record.{Setting}
use Rattle.weave_laws.specs.Cells.{CellInput, History, Command, Comes, Noise, replay, last_stamp}
use Rattle.weave_laws.specs.Given.{next_entry}
use Rattle.weave_laws.specs.Woven.{Act, part}
use Rattle.weave.specs.Placed.{sent_by}

-- what comes to the cell of a node
pub record Arrival : Type 0 where
  pub node : Id
  pub input : CellInput

abbrev pub delivered : Option Envelope → Option Arrival
delivered None = None
delivered (Some v) = Some (record { node = v.receiver; input = Comes v })

-- what an event brings, where the cells sent these
abbrev pub arrival : List Envelope → Event → Option Arrival
arrival sent (event.Command x n c) = Some (record { node = x; input = Command n c })
arrival sent (event.Deliver m) = delivered (slice_get sent m)
arrival sent (event.Noise x) = Some (record { node = x; input = Noise })

-- the state of a node after its part of what the cells took in
abbrev pub state_by : Setting → List Act → Id → State
state_by g acts x = replay (start x (x == g.founder)) (part x acts)

-- the entry that its cell adds
abbrev pub act_next : Setting → List Act → Arrival → Act
act_next g acts a = record { node = a.node; entry = next_entry a.node (last_stamp 0 (part a.node acts)) (state_by g acts a.node) a.input }

abbrev pub with_arrival : Setting → List Act → Option Arrival → List Act
with_arrival g acts None = acts
with_arrival g acts (Some a) = acts ++ act_next g acts a ∷ []

-- the entries of all cells in the order in which they were added: those so far, and one for each of these events
abbrev pub through : Setting → List Act → List Entry → List Act
through g acts [] = acts
through g acts (e ∷ es) = through g (with_arrival g acts (arrival (sent_by acts) e.event)) es

abbrev pub history_by : List Act → Id → History
history_by acts x = record { node = x; entries = part x acts }

-- the histories of the cells in the end, in the order of their nodes
abbrev pub histories_through : Setting → List Entry → List History
histories_through g es = map (history_by (through g [] es)) g.nodes
