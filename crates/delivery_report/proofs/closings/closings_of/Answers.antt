use Rattle.std.proofs.Common.{◌≡◌, ◌+◌, ◌<◌, ℕ, None, length, replicate, ◌∙◌, ap, get_or, map, arith}
use Rattle.std.specs.Option.{option_or, option_copied}
use Rattle.std.proofs.lemmas.List.{get_or-replicate, length-replicate}
use Rattle.overlay_rules.specs.Table.{notes_in}
use Rattle.delivery_report.specs.Report.{closing_of, closings_from}
use Rattle.delivery_report.proofs.Closed.{closings-by_slots, unfilled, written_back}
use Rattle.delivery_report.proofs.closings.closings_of.Goals as goal

pub returns : goal.returns
returns c =
    let notes = notes_in c.args.entries.now in
    let slots = c.take_in_all.new.closings in
    let items = c.resize.new.self.items in
    let empty : items ≡ replicate c.args.commands None =
    unfilled c.new-closings.result.items items _ c.args.commands c.new-closings.ensures.items c.new-closings.ensures.len c.in_ok-resize.ensures.items in
    let all : length items ≡ c.args.commands = ap length empty ∙ length-replicate c.args.commands None in
    let same : length slots ≡ length items = c.take_in_all.auto.closings ∙ ap length c.deref_mut.ensures.value in
    let back = written_back items slots c.resize.new.self.len (omega arith) same in
    let closed = λ (k : ℕ) (within : k < length slots). c.take_in_all.ensures k (omega (arith, within, c.take_in_all.auto.closings)) ∙
    ap (λ xs. option_or (option_copied (get_or xs k None)) (closing_of (k + 1) c.notes.result.now)) (c.deref_mut.ensures.value ∙ empty) ∙
    ap (λ o. option_or (option_copied o) (closing_of (k + 1) c.notes.result.now))
    (get_or-replicate c.args.commands k None None (omega (arith, within, same, all))) ∙
    ap (closing_of (k + 1)) c.notes.ensures ∙ ap (λ m. closing_of m notes) (omega arith) in
    ap (map option_copied) back ∙ closings-by_slots notes slots 1 closed ∙ ap (closings_from notes 1) (same ∙ all)
