use Rattle.std.proofs.Common.{arith}
use Rattle.std.proofs.lemmas.Bool.Decides.{not_from_Decides}
use Rattle.wire_msg.specs.Words.{plain_envelope, plain_sent}
use Rattle.overlay_rules.specs.Record.{enveloped, unstamped}
use Rattle.trace_check.proofs.Comparing.{differ-at, get-mapped, take-same}
use Rattle.trace_check.proofs.same.are_sent.Goals as goal

pub loop-place-preserved : goal.loop-place-preserved
loop-place-preserved c =
    let place = c.loop-place.place in
    let found = get-mapped plain_envelope unstamped c.args.envelopes.now place c.index-envelopes-place.result (omega arith) c.index-envelopes-place.is in
    let due = get-mapped plain_sent (enveloped 0 c.args.sender) c.args.sends.now place c.index-sends-place.result (omega arith) c.index-sends-place.is in
    record {
      long = c.loop-place.invariant.long;
      same = take-same _ _ place _ _ found due (c.is_sent.ensures.0 c.if-not-is_sent.false) c.loop-place.invariant.same;
    }

pub returns-then-not-is_sent : goal.returns-then-not-is_sent
returns-then-not-is_sent c =
    let place = c.loop-place.place in
    let found = get-mapped plain_envelope unstamped c.args.envelopes.now place c.index-envelopes-place.result (omega arith) c.index-envelopes-place.is in
    let due = get-mapped plain_sent (enveloped 0 c.args.sender) c.args.sends.now place c.index-sends-place.result (omega arith) c.index-sends-place.is in
    (λ e. cc, λ e. absurd (differ-at _ _ place _ _ found due (not_from_Decides c.is_sent.result c.is_sent.ensures c.if-not-is_sent.true) e))
