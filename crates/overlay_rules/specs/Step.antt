-- One step of a node: the whole table of rules.
use Rattle.std.specs.Prelude.{[], ◌∷◌, ◌++◌}
use Rattle.ring_math.specs.Names.{Id, Number}
use Rattle.ring_math.specs.Sides.{learn}
use Rattle.wire_msg.specs.declared.command.Command.{Command as NodeCommand}
use Rattle.wire_msg.specs.declared.command.Command.TheVariants as command
use Rattle.wire_msg.specs.Words.{Message, Lookup, LookupReply, Insert, InsertReply, Fetch, FetchReply, JoinRequest, JoinReply, JoinRefuse, Probe, ProbeReply}
use Rattle.wire_msg.specs.Words.{LeaseRequest, Grant, Deny, Handover, Release, Confirm, Announce, Replicate, ReplicaAck, Reclaim, ReclaimReply}
use Rattle.overlay_rules.specs.State.{State}
use Rattle.overlay_rules.specs.Outcome.{Outcome, Input, Command, Comes, Noise, nothing, becomes}
use Rattle.overlay_rules.specs.Routed.{on_lookup, on_join_request}
use Rattle.overlay_rules.specs.Roots.{on_insert, on_fetch, on_reclaim}
use Rattle.overlay_rules.specs.Replicas.{on_replicate, on_replica_ack, on_handover, on_reply}
use Rattle.overlay_rules.specs.Joining.{on_join, on_give_up, on_join_refuse, on_join_reply, on_probe_reply, on_deny, on_grant}
use Rattle.overlay_rules.specs.Gates.{asked_for}
use Rattle.overlay_rules.specs.Gatekeeper.{on_probe, on_lease_request, on_release, on_confirm}

-- the command's number waits for its reply
abbrev pub waits_for : State → Number → State
waits_for s number = record s { waiting = s.waiting ++ number ∷ [] }

-- a request is routed by its own node first, with no hop yet
abbrev pub on_command : State → Number → NodeCommand → Outcome
on_command s n (command.Join via) = on_join s n via
on_command s n (command.Lookup key) = on_lookup (waits_for s n) s.me n key 0
on_command s n (command.Insert file copies bytes) = on_insert (waits_for s n) s.me n 0 file copies bytes
on_command s n (command.Fetch file) = on_fetch (waits_for s n) s.me n 0 file
on_command s n command.GiveUp = on_give_up s n
on_command s n (command.Reclaim file) = on_reclaim (waits_for s n) s.me n 0 file

abbrev pub on_announce : State → Id → Outcome
on_announce s from = becomes (record s { known = learn s.me s.known from }) [] []

abbrev pub on_message : State → Id → Message → Outcome
on_message s from (Lookup origin number key hops) = on_lookup s origin number key hops
on_message s from (LookupReply number r) = on_reply s number r
on_message s from (Insert origin number hops file copies bytes) = on_insert s origin number hops file copies bytes
on_message s from (InsertReply number r) = on_reply s number r
on_message s from (Fetch origin number hops file) = on_fetch s origin number hops file
on_message s from (FetchReply number r) = on_reply s number r
on_message s from (JoinRequest joiner a hops) = on_join_request s joiner a hops
on_message s from (JoinReply a members) = on_join_reply s a members
on_message s from (JoinRefuse a w) = on_join_refuse s from a w
on_message s from (Probe a) = on_probe s from a
on_message s from (ProbeReply a members) = on_probe_reply s from a members
on_message s from (LeaseRequest a l r) = on_lease_request s (asked_for from a l r)
on_message s from (Grant a manifest tombs) = on_grant s from a (record { manifest = manifest; tombs = tombs })
on_message s from (Deny a w) = on_deny s from a w
on_message s from (Handover file bytes) = on_handover s file bytes
on_message s from (Release a) = on_release s from a
on_message s from (Confirm a) = on_confirm s from a
on_message s from Announce = on_announce s from
on_message s from (Replicate origin number file bytes) = on_replicate s from origin number file bytes
on_message s from (ReplicaAck origin number file) = on_replica_ack s from origin number file
on_message s from (Reclaim origin number hops file) = on_reclaim s origin number hops file
on_message s from (ReclaimReply number r) = on_reply s number r

-- the step of a node in a state, at an input
abbrev pub step : State → Input → Outcome
step s (Command number command) = on_command s number command
step s (Comes from message) = on_message s from message
step s Noise = nothing s
