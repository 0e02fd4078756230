use Rattle.std.proofs.Common.{◌≡◌, ◌++◌}
use Rattle.std.specs.List.{flat_map, range_with_len}
use Rattle.schedule.specs.Plan.{insert_tasks, fetch_tasks, join_plan}
use Rattle.schedule.proofs.task.plan.Given as goal

abbrev pub invariant-loop-file : goal.invariant-loop-file
invariant-loop-file l = l.tasks.items ≡ join_plan l.nodes ++ flat_map insert_tasks (range_with_len 0 l.file)

abbrev pub invariant-loop-file-2 : goal.invariant-loop-file-2
invariant-loop-file-2 l =
    l.tasks.items ≡ (join_plan l.nodes ++ flat_map insert_tasks (range_with_len 0 20)) ++ flat_map (fetch_tasks l.nodes) (range_with_len 0 l.file)
