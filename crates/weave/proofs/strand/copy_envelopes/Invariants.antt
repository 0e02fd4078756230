use Rattle.std.proofs.Common.{◌≡◌, ◌++◌, map, take}
use Rattle.wire_msg.specs.Words.{plain_envelope}
use Rattle.weave.proofs.strand.copy_envelopes.Given as goal

-- those so far are copied
abbrev pub invariant-loop-envelope : goal.invariant-loop-envelope
invariant-loop-envelope l =
    map plain_envelope l.to.items ≡ map plain_envelope l.fn.to.items ++ map plain_envelope (take l.envelope-index l.envelopes)
