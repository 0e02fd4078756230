use Rattle.std.proofs.Common.{◌≡◌, ◌||◌, false, length, get_or, sym, ◌∙◌, ap, arith}
use Rattle.overlay_rules.specs.Played.{is_delivery_of}
use Rattle.overlay_rules.specs.Seen.{entry_seen}
use Rattle.delivery_report.proofs.Closed.{written_back}
use Rattle.delivery_report.proofs.Marks.{any-got}
use Rattle.delivery_report.proofs.counts.delivered_messages.Goals as goal

pub loop-place-preserved : goal.loop-place-preserved
loop-place-preserved c =
    let es = c.args.entries.now in
    let e = entry_seen c.at-entry.result in
    let items = c.loop-place.marks.items in
    let same : length c.mark.new.marks ≡ length items = c.mark.auto.marks ∙ ap length c.deref_mut.ensures.value in
    let back = written_back items c.mark.new.marks c.loop-place.marks.len (omega arith) same in
    record {
      sent = ap length back ∙ same ∙ c.loop-place.invariant.sent;
      marked = λ k within.
          ap (λ ms. get_or ms k false) back ∙ c.mark.ensures k (omega (arith, within, ap length back, c.mark.auto.marks)) ∙
          ap (λ ms. get_or ms k false || is_delivery_of k e.event) c.deref_mut.ensures.value ∙
          ap (λ b. b || is_delivery_of k e.event) (c.loop-place.invariant.marked k (omega (arith, within, ap length back, same))) ∙
          sym (any-got es c.loop-place.place e k c.at-entry.ensures);
    }
