use Rattle.std.proofs.Common.{◌∙◌}
use Rattle.schedule.proofs.Whole.{is_making, are_tasks}
use Rattle.schedule.proofs.make.make_scenario.Goals as goal

pub scenario_of-requires-clause-made : goal.scenario_of-requires-clause-made
scenario_of-requires-clause-made c =
    is_making c.args.nodes c.args.seed c.in_ok-made.made _ c.in_ok-made.ensures c.in_ok-files.ensures c.requires.some c.requires.few

pub scenario_of-requires-clause-tasks : goal.scenario_of-requires-clause-tasks
scenario_of-requires-clause-tasks c =
    are_tasks c.args.nodes c.args.seed c.in_ok-made.made _ c.deref.result.now c.in_ok-made.ensures c.in_ok-files.ensures
    (c.deref.ensures.value ∙ c.in_ok-tasks.ensures) c.requires.some c.requires.few
