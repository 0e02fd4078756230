use Rattle.std.proofs.Common.{arith}
use Rattle.schedule.specs.Plan.{join_plan}
use Rattle.schedule.proofs.Planning.{group_planned}
use Rattle.schedule.proofs.task.plan_joins.Goals as goal

pub loop-first-preserved : goal.loop-first-preserved
loop-first-preserved c = record {
  planned = group_planned (join_plan c.args.nodes) c.loop-first.tasks.items c.plan_group.new.tasks.items c.loop-first.first c.args.nodes c.min-end.result
      c.loop-first-test.true c.min-end.ensures c.loop-first.invariant.planned c.in_ok-plan_group.ensures;
  within = omega (arith, c.min-end.ensures);
}
