use Rattle.std.proofs.Common.{◌++◌, List, map, take}
use Rattle.wire_msg.specs.Words.{Envelope, plain_envelope}
use Rattle.weave.specs.Table.{IsTableOf}
use Rattle.weave.proofs.starts.Starts.add_all.Given as goal

-- it is the table of those before, and of the first of these
abbrev pub invariant-loop-envelope : goal.invariant-loop-envelope
invariant-loop-envelope l = (vs : List Envelope) → IsTableOf l.fn.self vs → IsTableOf l.self (vs ++ map plain_envelope (take l.envelope-index l.envelopes))
