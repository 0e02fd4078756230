-- What a cell keeps, by its type.
use Rattle.std.specs.Prelude.{◌≡◌, List, ◌++◌, All, map}
use Rattle.ring_math.specs.Names.{Id, Stamp}
use Rattle.wire_msg.specs.Words.{Envelope}
use Rattle.overlay_rules.specs.State.{State}
use Rattle.overlay_rules.specs.Step.{step}
use Rattle.node_parts.specs.declared.node.Node.{Node}
use Rattle.node_parts.specs.Makes.{Makes}
use Rattle.node_parts.specs.Seen.{Stands}
use Rattle.node_parts.specs.Sound.{IsSound}
use Rattle.wire_codec.specs.Spelling.{Spells, spelling}
use Rattle.weave_laws.specs.Cells.{CellInput, CellEntry, IsCellHistory, input_of}
use Rattle.weave_laws.specs.Given.{entry_stamped}
use Rattle.weave_laws.specs.Numbers.{NumbersRise}
use Rattle.node_cell.specs.declared.frames.Addressed.{Addressed}
use Rattle.node_cell.specs.declared.plan.Planned.{Planned}
use Rattle.node_cell.specs.Entries.{plain_entry}
use Rattle.node_cell.specs.Sent.{sent_by}
use Rattle.node_cell.specs.Carried.{KeepsCarried}
use Rattle.node_cell.specs.Cell.{Cell, stamp_of, state_of, frame_of}

-- its spelling is a frame, which is read as it again
pub record HasFrame (v : Envelope) : Type 0 where
  pub frame : Spells (spelling v) v

-- of what the history sent, some was handed out, and these are the frames of the rest, in order
pub record AreUnsent (es : List CellEntry) (unsent : List Addressed) : Type 0 where
  pub handed : List Envelope
  pub rest : List Envelope
  pub all : sent_by es ≡ handed ++ rest
  pub frames : unsent ≡ map frame_of rest
  pub spelled : All HasFrame rest

-- the history is a cell history from the cell's start, with commands whose numbers rise; the node stands for the state after it
pub record IsCell (node : Node) (stamp : Stamp) (c : Cell) : Type 0 where
  pub history : IsCellHistory c.node c.is_founder c.history
  pub numbers : NumbersRise c.history
  pub stamped : stamp ≡ stamp_of c
  pub stands : Stands node (state_of c)
  pub unsent : AreUnsent c.history c.unsent
  pub carried : KeepsCarried c.node c.history c.carried

-- the change, the entry and the frames are those of the step of node x at this input
pub record IsPlanned (x : Id) (s : State) (stamp : Stamp) (i : CellInput) (r : Planned) : Type 0 where
  pub state : Makes r.change s (step s (input_of i)).state
  pub sound : IsSound (step s (input_of i)).state
  pub entry : plain_entry r.entry ≡ entry_stamped x s i stamp
  pub frames : r.frames.items ≡ map frame_of (entry_stamped x s i stamp).sent
  pub spelled : All HasFrame (entry_stamped x s i stamp).sent
