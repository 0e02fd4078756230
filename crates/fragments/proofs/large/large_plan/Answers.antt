use Rattle.std.proofs.Common.{◌+◌, ◌-◌, ◌++◌}
use Rattle.std.specs.List.{flat_map, range_with_len}
use Rattle.schedule.specs.Plan.{join_plan}
use Rattle.schedule.proofs.Planning.{tasks_counted}
use Rattle.fragments.specs.Large.{store_tasks, retrieve_tasks}
use Rattle.fragments.proofs.large.large_plan.Goals as goal

pub loop-file-preserved : goal.loop-file-preserved
loop-file-preserved c =
    tasks_counted store_tasks (join_plan c.args.nodes) c.loop-file.tasks.items c.plan_store.new.tasks.items c.loop-file.file
    c.loop-file.invariant c.in_ok-plan_store.ensures

pub loop-file-2-preserved : goal.loop-file-2-preserved
loop-file-2-preserved c =
    tasks_counted (retrieve_tasks (c.args.nodes - 1))
    (join_plan c.args.nodes ++ flat_map store_tasks (range_with_len 0 (c.args.fragments + 1)) ++ retrieve_tasks (c.args.nodes - 1) c.args.fragments)
    c.loop-file-2.tasks.items c.plan_retrieve-in-loop-file-2.new.tasks.items c.loop-file-2.file
    c.loop-file-2.invariant c.in_ok-plan_retrieve-2.ensures
