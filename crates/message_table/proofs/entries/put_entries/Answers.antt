use Rattle.std.proofs.Common.{◌++◌, ◌+◌, length, take, drop, refl, sym, ◌∙◌, ap, arith}
use Rattle.overlay_rules.specs.Record.{sent_in}
use Rattle.overlay_rules.specs.Seen.{entry_seen}
use Rattle.overlay_rules.proofs.Prefixes.{sent_in-got, sent_before, sent_within, front_size, sent_more}
use Rattle.message_table.specs.Entries.{entries_text, entry_text}
use Rattle.message_table.proofs.Pieces.{entries_text-got, written-more}
use Rattle.message_table.proofs.entries.put_entries.Goals as goal

pub slice_bounds-put_entry-end : goal.slice_bounds-put_entry-end
slice_bounds-put_entry-end c =
    front_size c.args.entries.now c.loop-place.place c.loop-place.before c.sent-sent.result.now c.sent-sent.ensures c.loop-place.invariant.before

pub overflow_add-before : goal.overflow_add-before
overflow_add-before c =
    let more = sent_more c.args.entries.now c.loop-place.place (entry_seen c.at-entry.result) c.at-entry.result.messages.now c.at-entry.ensures refl in
    let within = sent_within c.args.entries.now (c.loop-place.place + 1) c.sent-sent.result.now c.sent-sent.ensures in
    omega (arith, more, within, c.loop-place.invariant.before)

pub loop-place-preserved : goal.loop-place-preserved
loop-place-preserved c =
    let es = c.args.entries.now in
    let i = c.loop-place.place in
    let e = entry_seen c.at-entry.result in
    let sent = sent_in (take i es) in
    let more = sent_in-got es i e c.at-entry.ensures in
    let front = sent_before es i c.loop-place.before c.sent-sent.result.now c.sent-sent.ensures c.loop-place.invariant.before in
    let written = c.in_ok-put_entry.ensures ∙ ap (λ ms. c.loop-place.text ++ entry_text c.args.labels.now (i + 1) ms e) front in
    record {
      before = ap (λ n. n + length c.at-entry.result.messages.now) c.loop-place.invariant.before ∙
          sym (sent_more es i e c.at-entry.result.messages.now c.at-entry.ensures refl);
      lines = ap (λ ms. c.put_entry.new.text ++ entries_text c.args.labels.now (i + 1 + 1) ms (drop (i + 1) es)) more ∙
          written-more _ _ _ _ _ _ written (entries_text-got c.args.labels.now (i + 1) sent es i e c.at-entry.ensures) c.loop-place.invariant.lines;
    }
