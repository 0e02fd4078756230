-- What comes to a node, as the rules see it, and what its types say of it.
use Rattle.std.specs.Prelude.{◌<◌, ◌≤◌, ◌^◌, Contains}
use Rattle.ring_math.specs.Names.{Id}
use Rattle.ring_math.specs.Members.{InRing}
use Rattle.wire_msg.specs.Words.{Message, plain, JoinReply, ProbeReply, LeaseRequest, Deny, Lookup, LookupReply, Insert, InsertReply, Fetch, FetchReply}
use Rattle.wire_msg.specs.Words.{JoinRequest, JoinRefuse, Probe, Grant, Handover, Release, Confirm, Announce, Replicate, ReplicaAck, Reclaim, ReclaimReply}
use Rattle.wire_msg.specs.declared.limits.TheConstants.{MOST_COPIES}
use Rattle.wire_msg.specs.declared.command.Command.{Command as NodeCommand}
use Rattle.wire_msg.specs.declared.command.Command.TheVariants as command
use Rattle.wire_msg.specs.declared.reply.Why.{Why}
use Rattle.wire_msg.specs.declared.reply.Why.TheVariants as why
use Rattle.overlay_rules.specs.Outcome.{Input, Command, Comes, Noise}
use Rattle.node_core.specs.declared.input.Input.{Input as CodeInput}
use Rattle.node_core.specs.declared.input.Input.TheVariants as code

abbrev pub plain_input : CodeInput → Input
plain_input (code.Command n c) = Command n c.now
plain_input (code.Message from m) = Comes from (plain m.now)
plain_input code.Noise = Noise

abbrev pub IsId : Id → Type 0
IsId y = y < 2 ^ 128

abbrev pub WhyIsInRange : Why → Type 0
WhyIsInRange (why.Moved l r) = IsId l × IsId r
WhyIsInRange (why.Busy j) = Unit {0}
WhyIsInRange why.NotReady = Unit {0}

-- what a message teaches are identifiers, and an insert asks for no more copies than there can be
abbrev pub IsInRange : Message → Type 0
IsInRange (JoinReply a heard) = InRing (Contains heard)
IsInRange (ProbeReply a heard) = InRing (Contains heard)
IsInRange (LeaseRequest a l r) = IsId l × IsId r
IsInRange (Deny a w) = WhyIsInRange w
IsInRange (Lookup origin number key hops) = Unit {0}
IsInRange (LookupReply number r) = Unit {0}
IsInRange (Insert origin number hops file copies bytes) = copies ≤ MOST_COPIES
IsInRange (InsertReply number r) = Unit {0}
IsInRange (Fetch origin number hops file) = Unit {0}
IsInRange (FetchReply number r) = Unit {0}
IsInRange (JoinRequest joiner a hops) = Unit {0}
IsInRange (JoinRefuse a w) = Unit {0}
IsInRange (Probe a) = Unit {0}
IsInRange (Grant a manifest tombs) = Unit {0}
IsInRange (Handover file bytes) = Unit {0}
IsInRange (Release a) = Unit {0}
IsInRange (Confirm a) = Unit {0}
IsInRange Announce = Unit {0}
IsInRange (Replicate origin number file bytes) = Unit {0}
IsInRange (ReplicaAck origin number file) = Unit {0}
IsInRange (Reclaim origin number hops file) = Unit {0}
IsInRange (ReclaimReply number r) = Unit {0}

abbrev pub CommandIsInRange : NodeCommand → Type 0
CommandIsInRange (command.Insert file copies bytes) = copies ≤ MOST_COPIES
CommandIsInRange (command.Join via) = Unit {0}
CommandIsInRange (command.Lookup key) = Unit {0}
CommandIsInRange (command.Fetch file) = Unit {0}
CommandIsInRange command.GiveUp = Unit {0}
CommandIsInRange (command.Reclaim file) = Unit {0}

abbrev pub InputIsInRange : Input → Type 0
InputIsInRange (Comes from m) = IsId from × IsInRange m
InputIsInRange (Command n c) = CommandIsInRange c
InputIsInRange Noise = Unit {0}
