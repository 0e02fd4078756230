use Rattle.std.proofs.Common.{◌≡◌, length, map, take}
use Rattle.wire_msg.specs.Words.{plain_envelope, plain_sent}
use Rattle.overlay_rules.specs.Record.{enveloped, unstamped}
use Rattle.trace_check.proofs.same.are_sent.Given as goal

-- those so far are these messages
abbrev pub invariant-loop-place : goal.invariant-loop-place
invariant-loop-place l = record {
  long : length l.envelopes ≡ length l.sends;
  same : take l.place (map unstamped (map plain_envelope l.envelopes)) ≡ take l.place (map (enveloped 0 l.sender) (map plain_sent l.sends));
}
