-- What a world keeps, and what a step in it makes.
use Rattle.std.specs.Prelude.{◌≡◌, ◌<◌, ℕ, Some, List, length, slice_index, map}
use Rattle.ring_math.specs.Names.{Id, Stamp}
use Rattle.overlay_rules.specs.declared.entry.Event.{Event}
use Rattle.overlay_rules.specs.declared.entry.Entry.{Entry}
use Rattle.overlay_rules.specs.Outcome.{Input, Outcome}
use Rattle.overlay_rules.specs.Record.{IsRecord, sent_in, visit, enveloped}
use Rattle.step_facts.specs.Receivers.{ViasAre}
use Rattle.node_parts.specs.declared.node.Node.{Node}
use Rattle.world_model.specs.declared.index.Messages.{Messages}
use Rattle.world_model.specs.Recorded.{Recorded, setting_of, world_of}
use Rattle.world_model.specs.Stamps.{AreStamped}
use Rattle.world_model.specs.Cells.{AllStand}
use Rattle.world_model.specs.Index.{ListsMessages}

-- the record is legal, the nodes stand for the states after it, and the messages are listed
pub record IsWorld (nodes : List Node) (messages : Messages) (r : Recorded) : Type 0 where
  pub legal : IsRecord (setting_of r) r.entries
  pub vias : ViasAre (setting_of r) r.entries
  pub stamps : AreStamped r.entries
  pub stand : AllStand nodes (world_of r).states
  pub listed : ListsMessages messages r.entries

-- the event comes to the node at this place
pub record ComesTo (r : Recorded) (v : Event) (place : ℕ) : Type 0 where
  pub within : place < length r.nodes
  pub input : Input
  pub is_at : visit (sent_in r.entries) v ≡ Some (record { node = slice_index r.nodes place; input = input })

-- the entry of a step of node x
abbrev pub entry_by : Stamp → Id → Event → Outcome → Entry
entry_by stamp x v o = record { event = v; messages = map (enveloped stamp x) o.sends; notes = o.notes }
