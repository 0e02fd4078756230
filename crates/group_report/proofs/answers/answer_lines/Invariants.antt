use Rattle.std.proofs.Common.{◌≡◌, ◌++◌, take}
use Rattle.std.specs.Prelude.{flat_map}
use Rattle.scribe_core.specs.declared.action.GroupAction.{GroupAction}
use Rattle.group_report.specs.Answers.{action_line}
use Rattle.group_report.proofs.answers.answer_lines.Given as goal

-- the lines of the actions so far are written
abbrev pub invariant-loop-action : goal.invariant-loop-action
invariant-loop-action l =
    l.text ≡ l.initial.text ++ flat_map (λ (a : GroupAction). action_line l.notes a.what) (take l.action-index l.actions)
