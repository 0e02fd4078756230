use Rattle.std.proofs.Common.{drop, length, slice_range, refl, sym, arith}
use Rattle.std.proofs.lemmas.List.{take_at}
use Rattle.overlay_rules.specs.Record.{sent_in}
use Rattle.overlay_rules.specs.Seen.{entry_seen}
use Rattle.course_picture.proofs.Kept.{marks-same, range-next}
use Rattle.course_picture.proofs.marks.marks.Goals as goal

pub loop-place-preserved : goal.loop-place-preserved
loop-place-preserved c =
    let es = c.args.front.now in
    let e = entry_seen c.at.result in
    let n = length (sent_in es) in
    let so_far = slice_range es c.args.first c.loop-place.place in
    marks-same _ _ n _ _ (sym (take_at c.mark.new.marks (drop (length c.mark.new.marks) c.loop-place.marks.items) c.loop-place.marks.len (omega arith)))
    (sym (range-next es c.args.first c.loop-place.place e (omega arith) c.at.ensures))
    (c.mark.ensures n so_far e (marks-same _ _ n so_far so_far (sym c.deref_mut.ensures.value) refl c.loop-place.invariant) refl)
