use Rattle.scenario_reader.proofs.Outcomes.{IsSome-from_no_frame}
use Rattle.scenario_reader.proofs.act.check_noise.Goals as goal

pub returns : goal.returns
returns c = IsSome-from_no_frame _ _ c.is_frame.ensures.refused c.if-is_frame.false
