use Rattle.scenario_reader.proofs.Outcomes.{None-from_mapped, new_file_name}
use Rattle.scenario_reader.proofs.builder.ScenarioBuilder.has_file.Goals as goal

pub returns-clause-new : goal.returns-clause-new
returns-clause-new c is_new = new_file_name _ _ (None-from_mapped _ _ _ _ c.file_named.ensures c.is_some.ensures is_new)
