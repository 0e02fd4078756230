-- What came to a node of which some stages were run, one input after another.
use Rattle.std.specs.Prelude.{◌≤◌, ℕ, suc, List, [], ◌∷◌}
use Rattle.ring_math.specs.Names.{Id}
use Rattle.weave_laws.specs.Cells.{CellInput, Command, Comes, Noise}
use Rattle.overlay_harness.specs.Clauses.{HasItsCommands}
use Rattle.overlay_harness.specs.Inputs.{frames_in}
use Rattle.overlay_harness.specs.Stages.{Stage, all_budgets, budget_before}

-- each command is within its budgets, of inputs before which so many frames came
abbrev pub Within : List Stage → ℕ → List CellInput → Type 0
Within stages taken [] = Unit {0}
Within stages taken (Command n c ∷ inputs) = (taken ≤ budget_before n stages) × Within stages taken inputs
Within stages taken (Comes v ∷ inputs) = Within stages (suc taken) inputs
Within stages taken (Noise ∷ inputs) = Within stages (suc taken) inputs

-- its commands came, and frames within the budgets
pub record RanAlong (stages : List Stage) (x : Id) (inputs : List CellInput) : Type 0 where
  pub commands : HasItsCommands stages x inputs
  pub within : Within stages 0 inputs
  pub few : frames_in inputs ≤ all_budgets stages
