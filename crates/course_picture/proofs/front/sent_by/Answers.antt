use Rattle.std.proofs.Common.{◌≡◌, ◌+◌, length, take, refl, sym, ap, ◌∙◌, arith}
use Rattle.overlay_rules.specs.Record.{sent_in}
use Rattle.overlay_rules.specs.Seen.{entry_seen}
use Rattle.overlay_rules.proofs.Prefixes.{front_size, sent_before, sent_more, sent_within}
use Rattle.course_picture.proofs.front.sent_by.Goals as goal

pub overflow_add-count : goal.overflow_add-count
overflow_add-count c =
    let more = sent_more c.args.entries.now c.loop-place.place (entry_seen c.at-entry.result) c.at-entry.result.messages.now c.at-entry.ensures refl in
    let within = sent_within c.args.entries.now (c.loop-place.place + 1) c.sent-sent.result.now c.sent-sent.ensures in
    omega (arith, more, within, c.loop-place.invariant)

pub loop-place-preserved : goal.loop-place-preserved
loop-place-preserved c =
    ap (λ n. n + length c.at-entry.result.messages.now) c.loop-place.invariant ∙
    sym (sent_more c.args.entries.now c.loop-place.place (entry_seen c.at-entry.result) c.at-entry.result.messages.now c.at-entry.ensures refl)

pub slice_bounds-result-end : goal.slice_bounds-result-end
slice_bounds-result-end c =
    front_size c.args.entries.now c.loop-place.place c.loop-place.count c.sent-sent.result.now c.sent-sent.ensures c.loop-place.invariant

pub returns : goal.returns
returns c =
    let at_end : c.loop-place.place ≡ c.args.len = omega arith in
    sent_before c.args.entries.now c.loop-place.place c.loop-place.count c.sent-sent.result.now c.sent-sent.ensures c.loop-place.invariant ∙
    ap (λ n. sent_in (take n c.args.entries.now)) at_end
