use Rattle.std.proofs.Common.{take}
use Rattle.weave.specs.ByStamp.{envelopes_at}
use Rattle.weave.specs.Table.{IsTableOf}
use Rattle.weave.proofs.starts.starts_of.Given as goal

-- it is the table of the first of these
abbrev pub invariant-loop-envelope : goal.invariant-loop-envelope
invariant-loop-envelope l = IsTableOf l.starts (envelopes_at (take l.envelope-index l.envelopes))
