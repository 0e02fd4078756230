-- A stage as the definitions see it.
use Rattle.overlay_harness.specs.declared.stage.Stage.{Stage as CodeStage}
use Rattle.overlay_harness.specs.Stages.{Stage}

abbrev pub shown : CodeStage → Stage
shown s = record { actions = s.actions.now; budget = s.budget; copies = s.copies }
