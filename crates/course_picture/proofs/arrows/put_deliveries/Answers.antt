use Rattle.std.proofs.Common.{◌≡◌, ◌++◌, ◌+◌, ◌-◌, ◌≤◌, length, take, refl, sym, ap, ◌∙◌, arith}
use Rattle.std.specs.List.{flat_map, range_with_len}
use Rattle.overlay_rules.proofs.Prefixes.{take-got}
use Rattle.overlay_rules.specs.Record.{sent_in}
use Rattle.overlay_rules.specs.Seen.{entry_seen, event_seen}
use Rattle.svg_text.specs.Picture.{each_of, text_of}
use Rattle.course_picture.specs.Arrows.{arrow_at, arrow_into, arrow_of_event}
use Rattle.course_picture.specs.Ways.{arrow_picture}
use Rattle.course_picture.proofs.Kept.{marks-same, numbers-next}
use Rattle.course_picture.proofs.Pieces.{made-next, more_drawn}
use Rattle.course_picture.proofs.arrows.put_deliveries.Goals as goal

pub loop-place-preserved : goal.loop-place-preserved
loop-place-preserved c =
    let b = c.args.drawing.now.board in
    let es = c.args.drawing.now.front in
    let i = c.loop-place.place in
    let e = entry_seen c.at.result in
    let n = length (sent_in es) in
    let low : b.first ≤ i = omega arith in
    let more : c.put_delivery.new.text ≡ c.loop-place.text ++ text_of (each_of (arrow_picture b) (arrow_of_event es i (event_seen c.at.result.event))) =
    c.in_ok-put_delivery.ensures in
    record {
      text = more_drawn (arrow_picture b) c.args.text.now c.loop-place.text c.put_delivery.new.text
          (flat_map (arrow_into es) (range_with_len b.first (i - b.first))) (arrow_into es i)
          (flat_map (arrow_into es) (range_with_len b.first (i + 1 - b.first))) c.loop-place.invariant.text
          (more ∙ ap (λ o. c.loop-place.text ++ text_of (each_of (arrow_picture b) (arrow_at es i o))) (sym c.at.ensures))
          (made-next (arrow_into es) (range_with_len b.first (i - b.first)) (range_with_len b.first (i + 1 - b.first)) i (numbers-next b.first i low));
      before = marks-same c.mark.new.marks c.mark.new.marks n _ _ refl (sym (take-got es i e c.at.ensures))
          (c.mark.ensures n (take i es) e c.loop-place.invariant.before refl);
    }
