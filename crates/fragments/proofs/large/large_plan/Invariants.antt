use Rattle.std.proofs.Common.{◌≡◌, ◌+◌, ◌-◌, ◌++◌}
use Rattle.std.specs.List.{flat_map, range_with_len}
use Rattle.schedule.specs.Plan.{join_plan}
use Rattle.fragments.specs.Large.{store_tasks, retrieve_tasks}
use Rattle.fragments.proofs.large.large_plan.Given as goal

abbrev pub invariant-loop-file : goal.invariant-loop-file
invariant-loop-file l = l.tasks.items ≡ join_plan l.nodes ++ flat_map store_tasks (range_with_len 0 l.file)

abbrev pub invariant-loop-file-2 : goal.invariant-loop-file-2
invariant-loop-file-2 l =
    l.tasks.items ≡ join_plan l.nodes ++ flat_map store_tasks (range_with_len 0 (l.fragments + 1)) ++ retrieve_tasks (l.nodes - 1) l.fragments
    ++ flat_map (retrieve_tasks (l.nodes - 1)) (range_with_len 0 l.file)
