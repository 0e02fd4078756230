use Rattle.delivery_report.proofs.Closed.{lines_from-next}
use Rattle.delivery_report.proofs.Steps.{written-more}
use Rattle.delivery_report.proofs.closings.command_lines.Goals as goal

pub loop-place-preserved : goal.loop-place-preserved
loop-place-preserved c =
    let next = lines_from-next c.args.names.now _ c.loop-place.place c.closing-item.result c.loop-place-test.true c.closing-item.is in
    written-more _ _ _ _ _ _ c.in_ok-command_line.ensures next c.loop-place.invariant
