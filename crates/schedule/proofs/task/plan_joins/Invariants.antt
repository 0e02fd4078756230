use Rattle.std.proofs.Common.{◌≡◌, ◌-◌, ◌≤◌, ◌++◌}
use Rattle.std.specs.List.{flat_map, range_with_len}
use Rattle.schedule.specs.Plan.{in_threes, group_tasks, join_plan}
use Rattle.schedule.proofs.task.plan_joins.Given as goal

abbrev pub invariant-loop-first : goal.invariant-loop-first
invariant-loop-first l = record {
  planned : l.tasks.items ++ flat_map group_tasks (in_threes (range_with_len l.first (l.nodes - l.first))) ≡ join_plan l.nodes;
  within : l.first ≤ l.nodes;
}

abbrev pub decreases-loop-first : goal.decreases-loop-first
decreases-loop-first l = l.nodes - l.first
