-- Cells that ran a scenario.
use Rattle.std.specs.Prelude.{◌≡◌, ◌==◌, List, All}
use Rattle.scenario_reader.specs.Plain.{PlainScenario, ids}
use Rattle.weave_laws.specs.Answered.{AllSent}
use Rattle.node_cell.specs.Cell.{Cell}
use Rattle.weave.specs.Cells.{histories, nodes}
use Rattle.overlay_harness.specs.Ran.{KeptStages, RanStages}
use Rattle.overlay_harness.specs.Stages.{stages_of}

-- they are the cells of its nodes
pub record AreCellsOf (s : PlainScenario) (cells : List Cell) : Type 0 where
  pub nodes_are : nodes cells ≡ ids s.nodes
  pub founders : All (λ (c : Cell). c.is_founder ≡ (c.node == s.founder)) cells

-- they are the cells of its nodes, each of which ran its stages and took only what they sent, however often a mailbox handed out a
-- frame
pub record HaveKept (s : PlainScenario) (cells : List Cell) : Type 0 where
  pub cells_are : AreCellsOf s cells
  pub kept : All (KeptStages (stages_of s) (histories cells)) (histories cells)
  pub sent : AllSent (histories cells)

-- cells of a scenario, each of which ran its stages and took only what they sent: whatever threads served them
pub record HaveRun (s : PlainScenario) (cells : List Cell) : Type 0 where
  pub cells_are : AreCellsOf s cells
  pub ran : All (RanStages (stages_of s) (histories cells)) (histories cells)
  pub sent : AllSent (histories cells)
