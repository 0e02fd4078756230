use Rattle.std.proofs.Common.{◌≡◌, ◌+◌, ℕ, List, take, sym, subst, ◌∙◌, arith}
use Rattle.std.proofs.lemmas.List.{length-take-le}
use Rattle.overlay_rules.specs.declared.entry.Entry.{Entry}
use Rattle.overlay_rules.specs.Record.{Setting, world_after}
use Rattle.overlay_rules.proofs.Prefixes.{sent_before, sent_within}
use Rattle.step_facts.specs.Setting.{setting}
use Rattle.trace_check.proofs.Reaching.{entry-at, sent-more}
use Rattle.world_model.specs.Cells.{AllStand}
use Rattle.trace_picture.proofs.Following.{states_next}
use Rattle.trace_picture.proofs.replay.cells_after.Goals as goal

pub slice_bounds-follow-end : goal.slice_bounds-follow-end
slice_bounds-follow-end c =
    let so_far = c.loop-place.invariant.sent_so_far in
    let within = sent_within c.args.entries.now c.loop-place.place c.sent-all.result.now c.sent-all.ensures in
    sym (length-take-le c.loop-place.sent c.sent-all.result.now (omega (arith, so_far, within)))

pub overflow_add-sent : goal.overflow_add-sent
overflow_add-sent c =
    let es : List Entry = c.args.entries.now in
    let i : ℕ = c.loop-place.place in
    let test = c.loop-place-test.true in
    let end = c.requires.within in
    let e = entry-at es i (omega arith) in
    let more = sent-more es i e.0 c.loop-place.sent c.sent_by-sent.result e.1 c.loop-place.invariant.sent_so_far (c.sent_by-sent.ensures e.0 e.1) in
    let within = sent_within es (i + 1) c.sent-all.result.now c.sent-all.ensures in
    omega (arith, more, within)

pub loop-place-preserved : goal.loop-place-preserved
loop-place-preserved c =
    let g : Setting = setting c.args.nodes.now c.args.founder in
    let es : List Entry = c.args.entries.now in
    let i : ℕ = c.loop-place.place in
    let test = c.loop-place-test.true in
    let end = c.requires.within in
    let e = entry-at es i (omega arith) in
    record {
      ids = c.follow.ensures.ids ∙ c.loop-place.invariant.ids;
      stand = subst (AllStand c.follow.new.cells) (sym (states_next g es i e.0 e.1))
          (c.in_ok-follow.ensures.stand (world_after g es i).states (take i es) e.0 c.loop-place.invariant.stand
          (sent_before es i c.loop-place.sent c.sent-all.result.now c.sent-all.ensures c.loop-place.invariant.sent_so_far) e.1);
      sent_so_far = sent-more es i e.0 c.loop-place.sent c.sent_by-sent.result e.1 c.loop-place.invariant.sent_so_far (c.sent_by-sent.ensures e.0 e.1);
    }

pub returns-clause-stand : goal.returns-clause-stand
returns-clause-stand c =
    let g : Setting = setting c.args.nodes.now c.args.founder in
    let high = c.loop-place.auto.place-end in
    let low = c.loop-place-test.false in
    let same : c.loop-place.place ≡ c.args.end = omega (arith, high, low) in
    subst (λ (n : ℕ). AllStand c.loop-place.cells (world_after g c.args.entries.now n).states) same c.loop-place.invariant.stand
