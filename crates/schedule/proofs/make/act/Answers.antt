use Rattle.std.proofs.Common.{◌+◌, ◌++◌, length, drop, get_or, ap, ◌∙◌, arith}
use Rattle.schedule.specs.declared.task.Task.TheVariants.{Join}
use Rattle.schedule.specs.Making.{written}
use Rattle.schedule.proofs.Keeping.{actions_keep}
use Rattle.schedule.proofs.Adding.{task_at, next_action, may_act, actions_only, action_added, all_added, number_step}
use Rattle.schedule.proofs.make.act.Goals as goal

pub what-requires-clause-task : goal.what-requires-clause-task
what-requires-clause-task c =
    task_at c.args.made.now.nodes (length c.args.made.now.files) c.args.tasks.now c.loop-task.task-index (Join 0) c.requires.tasks.each c.loop-task-test.true

pub add_action-requires : goal.add_action-requires
add_action-requires c =
    may_act _ _ c.args.builder.now c.loop-task.builder _ _ _ c.in_ok-what.what c.loop-task.invariant.same c.requires.nodes c.requires.files c.requires.founder
    (actions_keep c.args.made.now c.args.tasks.now (c.args.made.now.nodes + length c.args.made.now.files + 2) c.requires.made c.requires.seed c.requires.tasks)
    (next_action c.args.made.now c.loop-task.number c.loop-task.line c.loop-task.task-index c.loop-task.builder.actions _ c.args.tasks.now (Join 0)
    c.loop-task-test.true c.loop-task.invariant.rest)
    c.in_ok-what.ensures

pub loop-task-preserved : goal.loop-task-preserved
loop-task-preserved c = record {
  rest =
      ap (λ number. c.add_action.new.self.actions ++ written c.args.made.now number (c.loop-task.line + 1) (drop (c.loop-task.task-index + 1) c.args.tasks.now))
      c.number_after-number.ensures ∙
      action_added c.loop-task.builder c.add_action.new.self _ _ _ _ c.in_ok-add_action.ensures.ok
      (ap (λ w. record { line = c.loop-task.line; what = w }) c.in_ok-what.ensures)
      (next_action c.args.made.now c.loop-task.number c.loop-task.line c.loop-task.task-index c.loop-task.builder.actions _ c.args.tasks.now (Join 0)
      c.loop-task-test.true c.loop-task.invariant.rest);
  same = actions_only c.args.builder.now c.loop-task.builder c.add_action.new.self _ c.loop-task.invariant.same c.in_ok-add_action.ensures.ok;
  number =
      let step = number_step (get_or c.args.tasks.now c.loop-task.task-index (Join 0)) c.loop-task.number in
      omega (arith, c.loop-task.invariant.number, c.number_after-number.ensures);
  line = omega (arith, c.loop-task.invariant.line);
}

pub returns : goal.returns
returns c =
    all_added c.args.made.now c.loop-task.number c.loop-task.line c.loop-task.task-index c.args.builder.now c.loop-task.builder _ c.args.tasks.now
    (omega arith) c.loop-task.invariant.rest c.loop-task.invariant.same
