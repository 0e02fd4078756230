use Rattle.std.proofs.Common.{All, Contains, map, take}
use Rattle.wire_msg.specs.Words.{plain_envelope}
use Rattle.weave.specs.ByStamp.{kept_in}
use Rattle.weave.proofs.reading.are_taken.Given as goal

-- those so far are among them
abbrev pub invariant-loop-envelope : goal.invariant-loop-envelope
invariant-loop-envelope l = All (Contains (kept_in l.taken)) (map plain_envelope (take l.envelope-index l.sent))
