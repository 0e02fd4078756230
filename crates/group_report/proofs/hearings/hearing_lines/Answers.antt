use Rattle.std.proofs.Common.{◌∙◌, ◌++◌, List, ap}
use Rattle.scribe_core.specs.declared.message.GroupSent.{GroupSent}
use Rattle.scribe_core.specs.Record.{visit}
use Rattle.scribe_core.specs.Seen.{entry_seen}
use Rattle.group_report.specs.Hearings.{entry_lines}
use Rattle.group_report.proofs.Hearing.{lines_next}
use Rattle.group_report.proofs.hearings.hearing_lines.Goals as goal

pub loop-place-preserved : goal.loop-place-preserved
loop-place-preserved c =
    let e = entry_seen c.at-entry.result in
    lines_next c.args.names.now c.args.steps.now c.loop-place.place e c.loop-place.text c.entry_lines.new.text c.at-entry.ensures
    (c.in_ok-entry_lines.ensures
    ∙ ap (λ (ms : List GroupSent). c.loop-place.text ++ entry_lines c.args.names.now (visit ms e.event) e.notes) c.sent_before.ensures)
    ∙ c.loop-place.invariant
