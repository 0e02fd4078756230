use Rattle.std.proofs.Common.{◌≡◌, ◌-◌, ◌++◌, map}
use Rattle.std.specs.List.{flat_map, range_with_len}
use Rattle.schedule.specs.declared.task.Task.TheVariants.{Join}
use Rattle.schedule.specs.Plan.{join_alone}
use Rattle.schedule.proofs.task.plan_group.Given as goal

abbrev pub invariant-loop-node : goal.invariant-loop-node
invariant-loop-node l = l.tasks.items ≡ l.fn.tasks.items ++ map (λ node. Join node) (range_with_len l.first (l.node - l.first))

abbrev pub invariant-loop-node-2 : goal.invariant-loop-node-2
invariant-loop-node-2 l = l.tasks.items ≡ l.initial.tasks.items ++ flat_map join_alone (range_with_len l.first (l.node - l.first))
