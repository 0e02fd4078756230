use Rattle.std.proofs.Common.{◌≡◌, ◌++◌, ap, sym, ◌∙◌, append-nil, arith}
use Rattle.std.specs.List.{flat_map, range_with_len}
use Rattle.schedule.specs.Plan.{insert_tasks, fetch_tasks, join_plan}
use Rattle.schedule.proofs.Planning.{tasks_counted}
use Rattle.schedule.proofs.task.plan.Goals as goal

pub loop-file-2-init : goal.loop-file-2-init
loop-file-2-init c =
    let all : c.loop-file.file ≡ 20 = omega arith in
    c.loop-file.invariant ∙ ap (λ n. join_plan c.args.nodes ++ flat_map insert_tasks (range_with_len 0 n)) all ∙
    sym (append-nil (join_plan c.args.nodes ++ flat_map insert_tasks (range_with_len 0 20)))

pub loop-file-preserved : goal.loop-file-preserved
loop-file-preserved c =
    tasks_counted insert_tasks (join_plan c.args.nodes) c.loop-file.tasks.items c.plan_insert.new.tasks.items c.loop-file.file
    c.loop-file.invariant c.in_ok-plan_insert.ensures

pub loop-file-2-preserved : goal.loop-file-2-preserved
loop-file-2-preserved c =
    tasks_counted (fetch_tasks c.args.nodes)
    (join_plan c.args.nodes ++ flat_map insert_tasks (range_with_len 0 20)) c.loop-file-2.tasks.items c.plan_fetch.new.tasks.items c.loop-file-2.file
    c.loop-file-2.invariant c.in_ok-plan_fetch.ensures
