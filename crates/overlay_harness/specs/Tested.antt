-- Why histories of cells are not taken for those of a run: something came more often than it was put.
use Rattle.std.specs.Prelude.{◌<◌, ◌⊎◌, List, Contains}
use Rattle.std.specs.List.{count_by}
use Rattle.overlay_rules.specs.declared.entry.Record.{Record}
use Rattle.weave_laws.specs.Cells.{History}
use Rattle.weave_laws.specs.Woven.{IsWoven}
use Rattle.overlay_harness.specs.Enough.{CameTooOften}
use Rattle.overlay_harness.specs.Inputs.{is_noise}
use Rattle.overlay_harness.specs.Ran.{inputs_in}
use Rattle.overlay_harness.specs.Stages.{Stage, most_copies, noise_for}

-- to one of the nodes noise came more often than the stages have it
pub record HasTooMuchNoise (stages : List Stage) (hs : List History) : Type 0 where
  pub history : History
  pub among : Contains hs history
  pub more : noise_for history.node stages < count_by is_noise (inputs_in history)

-- in the record that is woven from them a message came more often than the most copies of a stage
pub record HasTooManyCopies (stages : List Stage) (hs : List History) : Type 0 where
  pub steps : Record
  pub woven : IsWoven hs steps
  pub more : CameTooOften (most_copies stages) steps.entries

abbrev pub FailTheTest : List Stage → List History → Type 0
FailTheTest stages hs = HasTooMuchNoise stages hs ⊎ HasTooManyCopies stages hs
