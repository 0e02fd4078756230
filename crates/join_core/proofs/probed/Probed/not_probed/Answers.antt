use Rattle.std.proofs.Common.{◌≡◌, ◌<◌, ℕ, length, not, take, sym, ◌∙◌, ap, arith}
use Rattle.ring_math.specs.declared.limits.TheConstants.{MOST_MEMBERS}
use Rattle.overlay_rules.specs.Joining.{was_probed}
use Rattle.join_core.specs.Probes.{new_of}
use Rattle.join_core.proofs.Listed.{filter_more, filter_as_before, length-filter-le, pushed}
use Rattle.join_core.proofs.probed.Probed.not_probed.Goals as goal
use Rattle.join_core.proofs.probed.Probed.not_probed.Goals.{then-not-contains_by, else-not-contains_by}

pub loop-place-preserved : goal.loop-place-preserved
loop-place-preserved c =
    let leafs = c.as_slice-leafs.result.now in
    let i = c.loop-place.place in
    let leaf = c.index-leafs-place.result in
    let is_new = λ (y : ℕ). not (was_probed c.args.self.now y) in
    let below = c.loop-place-test.true in
    let so_far : c.loop-place.more ≡ new_of c.args.self.now (take i leafs) = c.loop-place.invariant in
    let size = ap length so_far in
    let all = ap length c.as_slice-leafs.ensures.value in
    let limit = c.as_slice-leafs.ensures.limit in
    elim c.if-not-contains_by.branch [
      | then-not-contains_by w ↦
          let room : length c.loop-place.more < MOST_MEMBERS = omega (arith, size, all, limit, length-filter-le is_new leafs i (omega arith)) in
          w.more-is ∙ pushed c.loop-place.more w.push.new.self leaf w.push.result w.push.ensures.answer w.push.ensures.pushed room
          ∙ rw so_far (sym (filter_more is_new leafs i leaf below c.index-leafs-place.is (ap not (sym c.contains_by.ensures ∙ w.if-not-contains_by.true))))
      | else-not-contains_by w ↦ w.more-is ∙ so_far
          ∙ sym (filter_as_before is_new leafs i leaf below c.index-leafs-place.is (ap not (sym c.contains_by.ensures ∙ w.if-not-contains_by.false)))
    ]
