-- What a joiner sends and becomes once members were learnt: probes, or requests for leases, or nothing as long as others are awaited.
use Rattle.std.specs.Prelude.{List, []}
use Rattle.ring_math.specs.Names.{Id, Attempt}
use Rattle.ring_math.specs.Sides.{learn_all}
use Rattle.wire_msg.specs.Words.{Probe, LeaseRequest}
use Rattle.overlay_rules.specs.State.{State}
use Rattle.overlay_rules.specs.Outcome.{Outcome, nothing, becomes, to_each, to_both}
use Rattle.join_core.specs.declared.joiner.Joiner.{Joiner}
use Rattle.join_core.specs.Joining.{attempt_of}
use Rattle.node_parts.specs.Seats.{phase_to, heard_phase}

-- the joiner goes on to this, and has learnt these
abbrev pub gone_on : State → Joiner → List Id → State
gone_on s j heard = record s { phase = phase_to j s.phase; known = learn_all s.me s.known heard }

abbrev pub probes_sent : State → Joiner → List Id → List Id → Outcome
probes_sent s j heard probes = becomes (gone_on s j heard) (to_each probes (Probe (attempt_of j))) []

abbrev pub leases_asked : State → Joiner → List Id → Attempt → Id → Id → Outcome
leases_asked s j heard a l r = becomes (gone_on s j heard) (to_both l r (LeaseRequest a l r)) []

-- this one has answered, and the joiner has learnt these
abbrev pub heard_from : State → Id → List Id → Outcome
heard_from s from heard = nothing (record s { phase = heard_phase from s.phase; known = learn_all s.me s.known heard })
