-- The messages as rules, frames and records see them: those of the code, with each kind's parts in the order in which one reads them.
use Rattle.std.specs.Prelude.{ℕ, List}
use Rattle.ring_math.specs.Names.{Id, Key, FileId, Content, Attempt, Number, Hops, Stamp}
use Rattle.wire_msg.specs.declared.reply.Reply.{Reply}
use Rattle.wire_msg.specs.declared.reply.Why.{Why}
use Rattle.wire_msg.specs.declared.message.Message.{Message as CodeMessage}
use Rattle.wire_msg.specs.declared.message.Message.TheVariants as code
use Rattle.wire_msg.specs.declared.message.Outgoing.{Outgoing}
use Rattle.wire_msg.specs.declared.message.Envelope.{Envelope as CodeEnvelope}

pub data Message : Type 0 where
  Lookup : (origin : Id) (number : Number) (key : Key) (hops : Hops) → Message
  LookupReply : (number : Number) (reply : Reply) → Message
  Insert : (origin : Id) (number : Number) (hops : Hops) (file : FileId) (copies : ℕ) (bytes : Content) → Message
  InsertReply : (number : Number) (reply : Reply) → Message
  Fetch : (origin : Id) (number : Number) (hops : Hops) (file : FileId) → Message
  FetchReply : (number : Number) (reply : Reply) → Message
  JoinRequest : (joiner : Id) (attempt : Attempt) (hops : Hops) → Message
  JoinReply : (attempt : Attempt) (members : List Id) → Message
  JoinRefuse : (attempt : Attempt) (why : Why) → Message
  Probe : (attempt : Attempt) → Message
  ProbeReply : (attempt : Attempt) (members : List Id) → Message
  LeaseRequest : (attempt : Attempt) (left right : Id) → Message
  Grant : (attempt : Attempt) (manifest tombs : List FileId) → Message
  Deny : (attempt : Attempt) (why : Why) → Message
  Handover : (file : FileId) (bytes : Content) → Message
  Release : (attempt : Attempt) → Message
  Confirm : (attempt : Attempt) → Message
  Announce : Message
  Replicate : (origin : Id) (number : Number) (file : FileId) (bytes : Content) → Message
  ReplicaAck : (origin : Id) (number : Number) (file : FileId) → Message
  Reclaim : (origin : Id) (number : Number) (hops : Hops) (file : FileId) → Message
  ReclaimReply : (number : Number) (reply : Reply) → Message

-- the code's order of parts saves memory, and means nothing
abbrev pub plain : CodeMessage → Message
plain (code.Lookup hops number origin key) = Lookup origin number key hops
plain (code.LookupReply number reply) = LookupReply number reply
plain (code.Insert file copies hops number origin bytes) = Insert origin number hops file copies bytes
plain (code.InsertReply number reply) = InsertReply number reply
plain (code.Fetch hops number origin file) = Fetch origin number hops file
plain (code.FetchReply number reply) = FetchReply number reply
plain (code.JoinRequest hops attempt joiner) = JoinRequest joiner attempt hops
plain (code.JoinReply attempt members) = JoinReply attempt members
plain (code.JoinRefuse attempt why) = JoinRefuse attempt why
plain (code.Probe attempt) = Probe attempt
plain (code.ProbeReply attempt members) = ProbeReply attempt members
plain (code.LeaseRequest attempt left right) = LeaseRequest attempt left right
plain (code.Grant attempt manifest tombs) = Grant attempt manifest tombs
plain (code.Deny attempt why) = Deny attempt why
plain (code.Handover file bytes) = Handover file bytes
plain (code.Release attempt) = Release attempt
plain (code.Confirm attempt) = Confirm attempt
plain code.Announce = Announce
plain (code.Replicate file number origin bytes) = Replicate origin number file bytes
plain (code.ReplicaAck number origin file) = ReplicaAck origin number file
plain (code.Reclaim hops number origin file) = Reclaim origin number hops file
plain (code.ReclaimReply number reply) = ReclaimReply number reply

-- a message to a node
pub record Sent : Type 0 where
  pub receiver : Id
  pub message : Message

abbrev pub plain_sent : Outgoing → Sent
plain_sent o = record { receiver = o.receiver; message = plain o.message }

-- a message on its way, with the stamp of the entry that sent it
pub record Envelope : Type 0 where
  pub sender : Id
  pub receiver : Id
  pub stamp : Stamp
  pub message : Message

abbrev pub plain_envelope : CodeEnvelope → Envelope
plain_envelope e = record { sender = e.sender; receiver = e.receiver; stamp = e.stamp; message = plain e.message }
