-- A scenario that was read, and that can't be run.
use Rattle.std.specs.Prelude.{◌≡◌, ℕ, List, Option, Some}
use Rattle.scenario_reader.specs.Plain.{PlainScenario}
use Rattle.overlay_harness.specs.declared.fault.RunFault.{RunFault}
use Rattle.overlay_harness.specs.declared.fault.RunFault.TheVariants as run_fault
use Rattle.overlay_harness.specs.Fault.{first_unfit_line}
use Rattle.pastry.specs.Reading.{IsScenario}

-- this is its first line that a run can't have
pub record HasUnfitLine (before after : Option (List ℕ)) (line : ℕ) : Type 0 where
  pub scenario : PlainScenario
  pub read : IsScenario before after scenario
  pub first : first_unfit_line scenario ≡ Some line

abbrev pub IsUnfit : Option (List ℕ) → Option (List ℕ) → RunFault → Type 0
IsUnfit before after (run_fault.NotForRun line) = HasUnfitLine before after line
IsUnfit before after run_fault.OutOfMemory = ⊥
