use Rattle.std.proofs.Common.{◌+◌, ◌++◌, length, take, drop, refl, sym, ◌∙◌, ap, arith}
use Rattle.overlay_rules.specs.Record.{sent_in, visit}
use Rattle.overlay_rules.specs.Seen.{entry_seen}
use Rattle.delivery_report.specs.Deliveries.{entry_lines, lines_after}
use Rattle.overlay_rules.proofs.Prefixes.{sent_in-got, sent_before, sent_within, front_size, sent_more}
use Rattle.delivery_report.proofs.Steps.{written-more, lines_after-got}
use Rattle.delivery_report.proofs.deliveries.delivery_lines.Goals as goal

pub slice_bounds-entry_lines-end : goal.slice_bounds-entry_lines-end
slice_bounds-entry_lines-end c =
    front_size c.args.entries.now c.loop-place.place c.loop-place.before c.sent-sent.result.now c.sent-sent.ensures c.loop-place.invariant.before

pub overflow_add-before : goal.overflow_add-before
overflow_add-before c =
    let more = sent_more c.args.entries.now c.loop-place.place (entry_seen c.at-entry.result) c.at-entry.result.messages.now c.at-entry.ensures refl in
    let within = sent_within c.args.entries.now (c.loop-place.place + 1) c.sent-sent.result.now c.sent-sent.ensures in
    omega (arith, more, within, c.loop-place.invariant.before)

pub loop-place-preserved : goal.loop-place-preserved
loop-place-preserved c =
    let es = c.args.entries.now in
    let i = c.loop-place.place in
    let e = entry_seen c.at-entry.result in
    let sent = sent_in (take i es) in
    let more = sent_in-got es i e c.at-entry.ensures in
    let front = sent_before es i c.loop-place.before c.sent-sent.result.now c.sent-sent.ensures c.loop-place.invariant.before in
    let written = c.in_ok-entry_lines.ensures ∙
    ap (λ ms. c.loop-place.text ++ entry_lines c.args.names.now (visit ms e.event) e.notes) front in
    record {
      before = ap (λ n. n + length c.at-entry.result.messages.now) c.loop-place.invariant.before ∙
          sym (sent_more es i e c.at-entry.result.messages.now c.at-entry.ensures refl);
      lines = ap (λ ms. c.entry_lines.new.text ++ lines_after c.args.names.now ms (drop (i + 1) es)) more ∙
          written-more _ _ _ _ _ _ written (lines_after-got c.args.names.now sent es i e c.at-entry.ensures) c.loop-place.invariant.lines;
    }
