-- Cells of a scenario that were served some of its stages.
use Rattle.std.specs.Prelude.{List, All}
use Rattle.scenario_reader.specs.Plain.{PlainScenario}
use Rattle.weave_laws.specs.Answered.{AllSent}
use Rattle.weave_laws.specs.Cells.{History}
use Rattle.node_cell.specs.Cell.{Cell}
use Rattle.weave.specs.Cells.{HasNoPasses, histories}
use Rattle.overlay_harness.specs.Along.{RanAlong}
use Rattle.overlay_harness.specs.Clauses.{IsServed}
use Rattle.overlay_harness.specs.Ran.{SentInTime, inputs_in}
use Rattle.overlay_harness.specs.Stages.{Stage}
use Rattle.overlay_harness.specs.Whole.{AreCellsOf}

-- one of the histories, at whose node these stages were run to their end
pub record ServedTo (stages : List Stage) (hs : List History) (h : History) : Type 0 where
  pub along : RanAlong stages h.node (inputs_in h)
  pub served : IsServed stages (SentInTime stages hs) h.node (inputs_in h)

-- so it is of the cells of the scenario, which took only what they sent, and have no passes
pub record IsServedTo (s : PlainScenario) (stages : List Stage) (cells : List Cell) : Type 0 where
  pub cells_are : AreCellsOf s cells
  pub served : All (ServedTo stages (histories cells)) (histories cells)
  pub sent : AllSent (histories cells)
  pub without : All HasNoPasses cells
