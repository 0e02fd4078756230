use Rattle.std.proofs.Common.{◌≡◌, ◌≤◌, ◌+◌, ◌++◌, map, reverse, vec_len, vec_capacity}
use Rattle.wire_msg.specs.Words.{plain_envelope, plain_sent}
use Rattle.overlay_rules.specs.Record.{enveloped}
use Rattle.overlay_rules.proofs.flat.send_all.Given as goal

-- with those that are left, the last of them first, all are added, and there is room for these
abbrev pub invariant-loop-outgoing : goal.invariant-loop-outgoing
invariant-loop-outgoing l = record {
  added : map plain_envelope l.sent.items ++ map (enveloped l.stamp l.sender) (map plain_sent (reverse l.messages.items))
      ≡ map plain_envelope l.fn.sent.items ++ map (enveloped l.stamp l.sender) (map plain_sent l.fn.messages.items);
  room : vec_len l.sent + vec_len l.messages ≤ vec_capacity l.sent;
}

abbrev pub decreases-loop-outgoing : goal.decreases-loop-outgoing
decreases-loop-outgoing l = vec_len l.messages
