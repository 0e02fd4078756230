use Rattle.std.proofs.Common.{◌≡◌, ◌≤◌, ◌+◌, ◌++◌, drop, length}
use Rattle.schedule.specs.Making.{written}
use Rattle.schedule.proofs.make.act.Given as goal

abbrev pub invariant-loop-task : goal.invariant-loop-task
invariant-loop-task l = record {
  rest : l.builder.actions ++ written l.made l.number l.line (drop l.task-index l.tasks) ≡ written l.made 1 (l.made.nodes + length l.made.files + 2) l.tasks;
  same : l.builder ≡ record l.fn.builder { actions = l.builder.actions };
  number : l.number ≤ l.task-index + 1;
  line : l.line ≡ l.made.nodes + length l.made.files + 2 + l.task-index;
}
