use Rattle.std.proofs.Common.{◌+◌, ◌∷◌, [], None, sym, ◌∙◌, ap, get_or, arith}
use Rattle.std.specs.Option.{option_or, option_copied}
use Rattle.delivery_report.specs.Report.{closing_of}
use Rattle.delivery_report.proofs.Closed.{option_or_assoc, closing_of-more}
use Rattle.delivery_report.proofs.closings.take_in_all.Goals as goal

pub loop-note-preserved : goal.loop-note-preserved
loop-note-preserved c k within =
    let notes = c.args.notes.now in
    let i = c.loop-note.note-index in
    let last = c.note-item.result in
    let first = option_copied (get_or c.args.closings.now k None) in
    c.take_in.ensures k (omega arith) ∙ ap (λ o. option_or o (closing_of (k + 1) (last ∷ []))) (c.loop-note.invariant k within) ∙
    option_or_assoc first _ _ ∙ ap (option_or first) (sym (closing_of-more (k + 1) notes i last c.loop-note-test.true c.note-item.is))
