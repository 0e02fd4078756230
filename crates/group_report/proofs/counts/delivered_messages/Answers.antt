use Rattle.std.proofs.Common.{◌∙◌, ◌||◌, ap, arith, sym}
use Rattle.scribe_core.specs.Played.{is_delivery_of}
use Rattle.scribe_core.specs.Seen.{entry_seen}
use Rattle.group_report.proofs.Counting.{delivered_more}
use Rattle.group_report.proofs.counts.delivered_messages.Goals as goal

pub loop-place-preserved : goal.loop-place-preserved
loop-place-preserved c =
    let e = entry_seen c.at-entry.result in
    record {
      sent = c.mark.ensures.count ∙ c.loop-place.invariant.sent;
      marked = λ m lt.
          let same = c.mark.ensures.count in
          c.mark.ensures.marks m (omega arith) ∙ ap (λ t. t || is_delivery_of m e.event) (c.loop-place.invariant.marked m (omega arith))
          ∙ sym (delivered_more c.args.steps.now c.loop-place.place m e c.at-entry.ensures);
    }
