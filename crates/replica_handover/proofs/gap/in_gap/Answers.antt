use Rattle.std.proofs.Common.{◌&&◌, ◌∷◌, [], length-append, is_some, arith, sym, ◌∙◌}
use Rattle.ring_math.specs.declared.file.Held.{Held}
use Rattle.coverage.specs.GapFiles.{is_in_gap}
use Rattle.replica_handover.proofs.Listed.{passed-more, passed-kept}
use Rattle.replica_handover.proofs.gap.in_gap.Goals as goal
use Rattle.replica_handover.proofs.gap.in_gap.Goals.{then-is_file_of+in_ok-push, else-is_file_of}

pub loop-place-preserved : goal.loop-place-preserved
loop-place-preserved c =
    let files = c.args.store.now.files in
    let i = c.loop-place.place in
    let held = c.at-held.result.now in
    let test = λ (h : Held). is_some h.slot && is_in_gap c.args.reach.now c.args.joiner h in
    let before = c.loop-place.invariant in
    elim c.if-is_file_of.branch [
      | then-is_file_of+in_ok-push w ↦ record {
        files = rw w.found-is (w.in_ok-push.ensures.items ∙ rw before.files
            (sym (passed-more test files i held (omega arith) c.at-held.ensures (sym c.is_file_of.ensures ∙ w.if-is_file_of.true))));
        limit = rw (w.found-is, w.in_ok-push.ensures.items) (omega (arith, before.limit, length-append c.loop-place.found.items (held.file ∷ [])));
      }
      | else-is_file_of w ↦ record {
        files = rw w.found-is (before.files
            ∙ sym (passed-kept test files i held (omega arith) c.at-held.ensures (sym c.is_file_of.ensures ∙ w.if-is_file_of.false)));
        limit = rw w.found-is (omega (arith, before.limit));
      }
    ]
