use Rattle.std.proofs.Common.{map, take}
use Rattle.wire_msg.specs.Words.{plain_envelope}
use Rattle.weave.specs.ByStamp.{kept_in}
use Rattle.weave.specs.Wanted.{HasNoWanted}
use Rattle.weave.proofs.untaken.first_sent.Given as goal

-- none so far is sought
abbrev pub invariant-loop-envelope : goal.invariant-loop-envelope
invariant-loop-envelope l = HasNoWanted (kept_in l.taken) l.receiver (map plain_envelope (take l.envelope-index l.sent))
