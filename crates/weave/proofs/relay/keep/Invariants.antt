use Rattle.std.proofs.Common.{map, take}
use Rattle.wire_msg.specs.Words.{plain_envelope}
use Rattle.weave.specs.Relayed.{Kept}
use Rattle.weave.proofs.relay.keep.Given as goal

-- the letters of the envelopes so far
abbrev pub invariant-loop-envelope : goal.invariant-loop-envelope
invariant-loop-envelope l = Kept l.fn.letters.items (map plain_envelope (take l.envelope-index l.sent)) l.letters.items
