-- What rounds make of the cells of a run, each of which is lent to a thread of its own.
use Rattle.std.specs.Prelude.{◌≡◌, ℕ, ◌+◌, true, None, List, [], ◌++◌, length, map, All, Contains}
use Rattle.node_mailbox.specs.Post.{PostView}
use Rattle.weave_laws.specs.Cells.{CellEntry, CellInput}
use Rattle.node_cell.specs.Cell.{Cell}
use Rattle.node_cell.specs.Equipped.{GoesOn, HasPassesOf}
use Rattle.overlay_harness.specs.declared.worker.Worker.{Worker}
use Rattle.overlay_harness.specs.Inputs.{is_frame}
use Rattle.overlay_harness.specs.Stages.{Stage, commands_to}

-- these inputs came, in this order
pub record CameIn (inputs : List CellInput) (old new : Cell) : Type 0 where
  pub more : List CellEntry
  pub history : new.history ≡ old.history ++ more
  pub inputs_are : map (λ (e : CellEntry). e.input) more ≡ inputs

-- the cell has passes of this post, and its node has a mailbox there
pub record IsAtWork (post : PostView) (c : Cell) : Type 0 where
  pub passes : HasPassesOf post c
  pub node : Contains post.nodes c.node

-- these commands came, and then frames: together with what is left, they are as many as the node might take
pub record Worked (post : PostView) (told : List CellInput) (most : ℕ) (old new : Worker) : Type 0 where
  pub at_work : IsAtWork post new.cell
  pub goes_on : GoesOn old.cell new.cell
  pub frames : List CellInput
  pub are : All (λ (i : CellInput). is_frame i ≡ true) frames
  pub came : CameIn (told ++ frames) old.cell new.cell
  pub counted : length frames + new.left ≡ most

-- frames came
abbrev pub WentOn : PostView → Worker → Worker → Type 0
WentOn post old new = Worked post [] old.left old new

-- the commands of a stage came, and then frames within its budget
abbrev pub ServedIn : PostView → Stage → Worker → Worker → Type 0
ServedIn post stage old new = Worked post (commands_to old.cell.node stage.actions) stage.budget old new

-- so it is if nothing stopped its thread
abbrev pub WentOnUnlessStopped : PostView → Worker → Worker → Type 0
WentOnUnlessStopped post old new = new.fault ≡ None → WentOn post old new

abbrev pub ServedUnlessStopped : PostView → Stage → Worker → Worker → Type 0
ServedUnlessStopped post stage old new = new.fault ≡ None → ServedIn post stage old new
