use Rattle.std.proofs.Common.{◌+◌, ℕ, List, take, refl, subst, sym, true≢false, arith}
use Rattle.std.proofs.lemmas.List.{length-take-le}
use Rattle.overlay_rules.specs.declared.entry.Entry.{Entry}
use Rattle.overlay_rules.specs.Record.{Setting, world_after}
use Rattle.step_facts.specs.Setting.{setting}
use Rattle.trace_check.specs.Replays.{IsReplayedOrWrong}
use Rattle.trace_check.specs.Verdicts.{IsWrongIn}
use Rattle.overlay_rules.proofs.Prefixes.{sent_before, sent_within}
use Rattle.trace_check.proofs.Reaching.{FirstWrong-illegal, IsReached-more, entry-at, first_wrong, sent-more}
use Rattle.trace_check.proofs.checking.check_entries.Goals as goal

pub slice_bounds-follow-end : goal.slice_bounds-follow-end
slice_bounds-follow-end c =
    let so_far = c.loop-place.invariant.sent_so_far in
    let within = sent_within c.args.entries.now c.loop-place.place c.sent-all.result.now c.sent-all.ensures in
    sym (length-take-le c.loop-place.sent c.sent-all.result.now (omega (arith, so_far, within)))

pub returns-in-Some-clause-verdict : goal.returns-in-Some-clause-verdict
returns-in-Some-clause-verdict c =
    let g : Setting = setting c.args.nodes.now c.args.founder in
    let es : List Entry = c.args.entries.now in
    let i : ℕ = c.loop-place.place in
    let test = c.loop-place-test.true in
    let end = c.len-place-end.ensures in
    let e = entry-at es i (omega arith) in
    let step : IsReplayedOrWrong c.follow.new.self g (take i es) e.0 c.in_ok-part.field-0 =
    c.in_ok-part.ensures g (take i es) e.0 c.loop-place.invariant.replay
    (sent_before es i c.loop-place.sent c.sent-all.result.now c.sent-all.ensures c.loop-place.invariant.sent_so_far) e.1 in
    let wrong : IsWrongIn g (world_after g es i) e.0 c.in-Some.part =
    subst (IsReplayedOrWrong c.follow.new.self g (take i es) e.0) c.in-Some.is step in
    first_wrong g es i e.0 c.in-Some.part (i + 1) refl e.1 c.loop-place.invariant.legal wrong

pub returns-in-Some-clause-legal : goal.returns-in-Some-clause-legal
returns-in-Some-clause-legal c = (
  λ e. absurd (true≢false (sym e)),
  λ legal. absurd (FirstWrong-illegal (setting c.args.nodes.now c.args.founder) c.args.entries.now (c.loop-place.place + 1) c.in-Some.part
      (returns-in-Some-clause-verdict c) legal),
)

pub overflow_add-sent : goal.overflow_add-sent
overflow_add-sent c =
    let es : List Entry = c.args.entries.now in
    let i : ℕ = c.loop-place.place in
    let test = c.loop-place-test.true in
    let end = c.len-place-end.ensures in
    let e = entry-at es i (omega arith) in
    let more = sent-more es i e.0 c.loop-place.sent c.sent_by-sent.result e.1 c.loop-place.invariant.sent_so_far (c.sent_by-sent.ensures e.0 e.1) in
    let within = sent_within es (i + 1) c.sent-all.result.now c.sent-all.ensures in
    omega (arith, more, within)

pub loop-place-preserved : goal.loop-place-preserved
loop-place-preserved c =
    let g : Setting = setting c.args.nodes.now c.args.founder in
    let es : List Entry = c.args.entries.now in
    let i : ℕ = c.loop-place.place in
    let test = c.loop-place-test.true in
    let end = c.len-place-end.ensures in
    let e = entry-at es i (omega arith) in
    let step : IsReplayedOrWrong c.follow.new.self g (take i es) e.0 c.in_ok-part.field-0 =
    c.in_ok-part.ensures g (take i es) e.0 c.loop-place.invariant.replay
    (sent_before es i c.loop-place.sent c.sent-all.result.now c.sent-all.ensures c.loop-place.invariant.sent_so_far) e.1 in
    IsReached-more g es i e.0 c.loop-place.replay c.follow.new.self c.loop-place.sent c.sent_by-sent.result e.1 c.loop-place.invariant
    (subst (IsReplayedOrWrong c.follow.new.self g (take i es) e.0) c.in_default.is step) (c.sent_by-sent.ensures e.0 e.1)
