-- Cells of a run at work, and the passes of who drives them.
use Rattle.std.specs.Prelude.{◌≡◌, ◌≤◌, ◌==◌, ℕ, ◌+◌, Bool, Some, None, List, [], ◌∷◌, length, map, All, IsSome}
use Rattle.std.specs.List.{AllZip}
use Rattle.ring_math.specs.Names.{Id}
use Rattle.node_mailbox.specs.Pass.{PassView, fresh_pass}
use Rattle.node_mailbox.specs.Post.{PostView, AreOf, pass_at}
use Rattle.scenario_reader.specs.declared.action.What.{What}
use Rattle.scenario_reader.specs.declared.action.What.TheVariants as what
use Rattle.scenario_reader.specs.declared.node.NodeLine.{NodeLine}
use Rattle.scenario_reader.specs.Plain.{PlainScenario, ids}
use Rattle.wire_codec.specs.Reading.{refusal}
use Rattle.weave_laws.specs.Answered.{AllSent}
use Rattle.node_cell.specs.Carried.{just_given}
use Rattle.node_cell.specs.Cell.{Cell, empty_cell}
use Rattle.node_cell.specs.Equipped.{HasPassesOf}
use Rattle.node_cell.specs.Gathering.{HaveAllParts, PutNoiseAlone, without_passes}
use Rattle.weave.specs.Cells.{HaveOwnNodes, IsLawful, histories, kept_history, nodes}
use Rattle.overlay_harness.specs.declared.worker.Worker.{Worker}
use Rattle.overlay_harness.specs.Along.{RanAlong}
use Rattle.overlay_harness.specs.Hand.{AllTookUpTo, IsDone}
use Rattle.overlay_harness.specs.Inputs.{frames_in}
use Rattle.overlay_harness.specs.Ran.{inputs_in}
use Rattle.overlay_harness.specs.Rounds.{IsAtWork}
use Rattle.overlay_harness.specs.Stages.{Stage, all_budgets}
use Rattle.overlay_harness.specs.Whole.{AreCellsOf}

abbrev pub cells_of : List Worker → List Cell
cells_of workers = map (λ (w : Worker). w.cell) workers

-- the noise of an action is no frame
abbrev pub HasNoFrame : What → Type 0
HasNoFrame (what.Noise node bytes) = IsSome (refusal bytes)
HasNoFrame (what.Command number node command) = Unit {0}
HasNoFrame (what.Settle n) = Unit {0}
HasNoFrame (what.Deliver n) = Unit {0}
HasNoFrame (what.Shuffle seed count) = Unit {0}
HasNoFrame (what.Dup n) = Unit {0}

-- noise was put, and the passes have the parts that they had
pub record PutNoise (old new : List PassView) : Type 0 where
  pub parts : (place : ℕ) → (pass_at new place).parts ≡ (pass_at old place).parts
  pub alone : PutNoiseAlone old → PutNoiseAlone new

-- the driver's passes put noise alone, and have with those of the cells all parts of each mailbox
pub record AreDriven (post : PostView) (own : List PassView) (cells : List Cell) : Type 0 where
  pub of : AreOf own post
  pub noise : PutNoiseAlone own
  pub parts : HaveAllParts post own cells

-- the budget of the last of some stages
abbrev pub end_budget : List Stage → ℕ
end_budget [] = 0
end_budget (stage ∷ []) = stage.budget
end_budget (stage ∷ next ∷ stages) = end_budget (next ∷ stages)

abbrev pub frames_of : Cell → ℕ
frames_of c = frames_in (inputs_in (kept_history c))

-- These stages were run at the node. With what is left it takes as many frames as the last of them has budget, and no more than
-- all have.
pub record RanSoFar (post : PostView) (stages : List Stage) (w : Worker) : Type 0 where
  pub at_work : IsAtWork post w.cell
  pub along : RanAlong stages w.cell.node (inputs_in (kept_history w.cell))
  pub within : frames_of w.cell + w.left ≤ all_budgets stages
  pub full : end_budget stages ≤ frames_of w.cell + w.left

-- so it is of each node of the scenario
pub record HaveRunSoFar (s : PlainScenario) (post : PostView) (stages : List Stage) (own : List PassView) (workers : List Worker) : Type 0 where
  pub nodes : post.nodes ≡ ids s.nodes
  pub cells_are : AreCellsOf s (cells_of workers)
  pub each : All (RanSoFar post stages) workers
  pub driven : AreDriven post own (cells_of workers)

-- ---- at the start

-- passes with so many parts of each mailbox, which put and took nothing
abbrev pub fresh_passes : PostView → ℕ → List PassView
fresh_passes post parts = map (λ (m : ℕ × ℕ). fresh_pass m parts) post.mailboxes

-- nothing came yet to the node's cell, which has these passes
abbrev pub new_worker : List PassView → Id → Bool → Worker
new_worker passes x founder =
    record { cell = record (empty_cell x founder) { carried = Some (just_given passes) }; left = 0; turns = 0; fault = None }

-- a part of each mailbox for each node of the scenario
abbrev pub new_workers : PostView → Id → List NodeLine → List Worker
new_workers post founder nodes = map (λ (n : NodeLine). new_worker (fresh_passes post 1) n.id (n.id == founder)) nodes

-- ---- at the end

-- what gathering the passes needs
pub record MayBeGathered (post : PostView) (own : List PassView) (cells : List Cell) : Type 0 where
  pub apart : HaveOwnNodes cells
  pub count : length cells ≡ length post.nodes
  pub passes : All (HasPassesOf post) cells
  pub driven : AreDriven post own cells

-- how many entries each history has once its node took what was left to it
abbrev pub ends_of : List Worker → List ℕ
ends_of workers = map (λ (w : Worker). length w.cell.history + w.left) workers

-- the passes were taken in, so that all that came was sent, and then what was unread was handed over up to these ends
pub record WereHandedOver (ends : List ℕ) (olds news : List Cell) : Type 0 where
  pub took : AllTookUpTo ends (map without_passes olds) news
  pub done : AllZip (IsDone (histories news)) ends news
  pub sent : AllSent (histories news)
  pub nodes_are : nodes news ≡ nodes olds
  pub lawful : All IsLawful news
