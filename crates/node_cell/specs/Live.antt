-- A node that takes in one input after another, as a cell does, and keeps no history.
use Rattle.std.specs.Prelude.{◌≡◌, ◌<◌, ℕ, max, All, List, map}
use Rattle.ring_math.specs.Names.{Id, Stamp}
use Rattle.overlay_rules.specs.State.{State}
use Rattle.overlay_rules.specs.Step.{step}
use Rattle.node_parts.specs.declared.node.Node.{Node}
use Rattle.node_parts.specs.Seen.{Stands}
use Rattle.weave_laws.specs.Cells.{CellInput, input_of, input_stamp}
use Rattle.weave_laws.specs.Given.{next_entry}
use Rattle.node_cell.specs.declared.fault.CellFault.{CellFault}
use Rattle.node_cell.specs.declared.fault.CellFault.TheVariants as fault
use Rattle.node_cell.specs.declared.fault.TheConstants.{LAST_STAMP}
use Rattle.node_cell.specs.declared.live.Taken.{Taken}
use Rattle.node_cell.specs.Cell.{frame_of}
use Rattle.node_cell.specs.Entries.{plain_entry}
use Rattle.node_cell.specs.Faults.{IsDueAt}
use Rattle.node_cell.specs.Kept.{HasFrame}
use Rattle.node_cell.specs.Reading.{IsInputOf}

pub record Live : Type 0 where
  pub node : Node
  pub stamp : Stamp

-- it is as far as a cell of node x with this stamp, whose node is in this state
pub record IsAt (live : Live) (x : Id) (last : Stamp) (s : State) : Type 0 where
  pub me : live.node.me ≡ x
  pub stamp : live.stamp ≡ last
  pub stands : Stands live.node s

-- it took the input in, for which a stamp was left: the entry is the one that comes next in the cell's history, with the frames of
-- what it sent, and the node is as far as the cell is then
pub record TookNext (x : Id) (last : Stamp) (s : State) (i : CellInput) (taken : Taken) (after : Live) : Type 0 where
  pub in_time : max last (input_stamp i) < LAST_STAMP
  pub entry : plain_entry taken.entry ≡ next_entry x last s i
  pub frames : taken.frames.items ≡ map frame_of (next_entry x last s i).sent
  pub spelled : All HasFrame (next_entry x last s i).sent
  pub is_at : IsAt after x (next_entry x last s i).stamp (step s (input_of i)).state

-- the bytes are one input to the node, and it took this input in
pub record TookNextBytes (x : Id) (last : Stamp) (s : State) (bytes : List ℕ) (taken : Taken) (after : Live) : Type 0 where
  pub input : CellInput
  pub is : IsInputOf x bytes input
  pub took : TookNext x last s input taken after

-- the bytes are an input to the node for which no stamp is left
pub record IsSpentBy (x : Id) (last : Stamp) (bytes : List ℕ) (stamp : Stamp) : Type 0 where
  pub input : CellInput
  pub is : IsInputOf x bytes input
  pub spent : IsDueAt last input (fault.Spent stamp)

-- why bytes were not taken in
abbrev pub IsDueToNextBytes : Id → Stamp → List ℕ → CellFault → Type 0
IsDueToNextBytes x last bytes (fault.Spent stamp) = IsSpentBy x last bytes stamp
IsDueToNextBytes x last bytes fault.OutOfMemory = Unit {0}
