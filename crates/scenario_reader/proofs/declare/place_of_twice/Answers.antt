use Rattle.std.proofs.Common.{sym, ◌∙◌}
use Rattle.scenario_reader.proofs.Outcomes.{None-from_option_map, new_name, new_id}
use Rattle.scenario_reader.proofs.declare.place_of_twice.Goals as goal

pub returns-clause-new_name : goal.returns-clause-new_name
returns-clause-new_name c = new_name _ _ (None-from_option_map _ _ _ _ c.id_named.ensures.value c.is_some.ensures c.if-is_some.false)

pub returns-clause-new_id : goal.returns-clause-new_id
returns-clause-new_id c = new_id _ _ (sym c.has_id.ensures ∙ c.if-has_id.false)
