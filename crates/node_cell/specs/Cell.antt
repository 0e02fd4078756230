-- What a cell is seen as: its node, its history, the frames that it has not handed out yet, and its passes, if it has any.
use Rattle.std.specs.Prelude.{Bool, Option, None, List, [], ◌∷◌, ◌++◌, map}
use Rattle.ring_math.specs.Names.{Id, Stamp}
use Rattle.wire_msg.specs.Words.{Envelope}
use Rattle.overlay_rules.specs.State.{State, start}
use Rattle.wire_codec.specs.Spelling.{spelling}
use Rattle.weave_laws.specs.Cells.{CellInput, CellEntry, replay, last_stamp}
use Rattle.weave_laws.specs.Given.{next_entry}
use Rattle.node_parts.specs.declared.node.Node.{Node}
use Rattle.node_cell.specs.declared.frames.Addressed.{Addressed}
use Rattle.node_cell.specs.declared.carried.Carried.{Carried}
use Rattle.node_cell.specs.declared.entry.CellEntry.{CellEntry as CodeEntry}
use Rattle.node_cell.specs.Entries.{plain_history}

pub record Cell : Type 0 where
  pub node : Id
  pub is_founder : Bool
  pub history : List CellEntry
  pub unsent : List Addressed
  pub carried : Option Carried

-- of what the code keeps
abbrev pub cell_seen : Node → Bool → List CodeEntry → List Addressed → Option Carried → Cell
cell_seen node founder history unsent carried =
    record { node = node.me; is_founder = founder; history = plain_history history; unsent = unsent; carried = carried }

-- nothing came yet
abbrev pub empty_cell : Id → Bool → Cell
empty_cell x founder = record { node = x; is_founder = founder; history = []; unsent = []; carried = None }

abbrev pub stamp_of : Cell → Stamp
stamp_of c = last_stamp 0 c.history

-- the state of its node
abbrev pub state_of : Cell → State
state_of c = replay (start c.node c.is_founder) c.history

-- the entry of an input, as it comes next
abbrev pub entry_next : Cell → CellInput → CellEntry
entry_next c i = next_entry c.node (stamp_of c) (state_of c) i

-- the frame of an envelope, and whom it is for
abbrev pub frame_of : Envelope → Addressed
frame_of v = record { receiver = v.receiver; frame = spelling v }

-- with an input taken in: one entry more, and the frames of what it sent
abbrev pub with_input : Cell → CellInput → Cell
with_input c i = record c { history = c.history ++ entry_next c i ∷ []; unsent = c.unsent ++ map frame_of (entry_next c i).sent }
