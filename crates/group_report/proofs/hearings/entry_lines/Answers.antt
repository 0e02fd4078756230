use Rattle.std.proofs.Common.{◌∙◌, ◌++◌, append-nil, ap, sym}
use Rattle.group_report.proofs.Hearing.{lines_of_none}
use Rattle.group_report.proofs.hearings.entry_lines.Goals as goal

pub returns-in-None : goal.returns-in-None
returns-in-None c =
    sym (ap (λ ls. c.args.text.now ++ ls) (lines_of_none c.args.names.now _ c.args.entry.now.notes.now c.in-None.ensures) ∙ append-nil c.args.text.now)
