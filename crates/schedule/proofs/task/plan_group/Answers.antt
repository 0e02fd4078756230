use Rattle.std.proofs.Common.{◌∷◌, ◌++◌, [], arith, ap, ◌∙◌, append_assoc}
use Rattle.schedule.specs.declared.task.Task.TheVariants.{Join, Settle}
use Rattle.schedule.specs.Plan.{join_alone}
use Rattle.schedule.proofs.Planning.{joins_more, tasks_more}
use Rattle.schedule.proofs.task.plan_group.Goals as goal

pub loop-node-preserved : goal.loop-node-preserved
loop-node-preserved c =
    joins_more c.args.tasks.now.items c.loop-node.tasks.items c.push.new.self.items c.args.first c.loop-node.node (omega arith)
    c.loop-node.invariant c.in_ok-push.ensures.items

pub loop-node-2-preserved : goal.loop-node-2-preserved
loop-node-2-preserved c =
    tasks_more join_alone c.push-3.new.self.items c.loop-node-2.tasks.items c.push-in-loop-node-2-2.new.self.items c.args.first c.loop-node-2.node (omega arith)
    c.loop-node-2.invariant
    (c.in_ok-push-5.ensures.items ∙ ap (λ ts. ts ++ Settle 2000 ∷ []) c.in_ok-push-4.ensures.items ∙
    append_assoc c.loop-node-2.tasks.items (Join c.loop-node-2.node ∷ []) (Settle 2000 ∷ []))
