-- The kinds of frames: the number and the version of each, and the kind and the fields of each message.
use Rattle.std.specs.Prelude.{ℕ, nat_lt, if◌then◌else◌, List, [], ◌∷◌}
use Rattle.ring_math.specs.Names.{FileId}
use Rattle.wire_msg.specs.declared.reply.Reply.{Reply}
use Rattle.wire_msg.specs.declared.reply.Reply.TheVariants as reply
use Rattle.wire_msg.specs.declared.reply.Why.{Why}
use Rattle.wire_msg.specs.declared.reply.Why.TheVariants as why
use Rattle.wire_msg.specs.Words.{Message}
use Rattle.wire_codec.specs.declared.kind.Kind.{Kind}
use Rattle.wire_codec.specs.declared.kind.Kind.TheVariants as kind
use Rattle.wire_codec.specs.declared.kind.Version.{Version}
use Rattle.wire_codec.specs.declared.kind.Version.TheVariants.{One, Two}
use Rattle.wire_codec.specs.Fields.{Field}

abbrev pub number_of : Kind → ℕ
number_of kind.Lookup = 1
number_of (kind.LookupReply v) = 2
number_of kind.Insert = 3
number_of (kind.InsertReply v) = 4
number_of kind.Fetch = 5
number_of (kind.FetchReply v) = 6
number_of kind.JoinRequest = 7
number_of kind.JoinReply = 8
number_of kind.JoinRefuse = 9
number_of kind.Probe = 10
number_of kind.ProbeReply = 11
number_of kind.LeaseRequest = 12
number_of (kind.Grant v) = 13
number_of kind.Deny = 14
number_of kind.Handover = 15
number_of kind.Release = 16
number_of kind.Confirm = 17
number_of kind.Announce = 18
number_of kind.Replicate = 19
number_of kind.ReplicaAck = 20
number_of kind.Reclaim = 21
number_of kind.ReclaimReply = 22

-- the version of the frames of a kind
abbrev pub version_of : Kind → Version
version_of (kind.LookupReply v) = v
version_of (kind.InsertReply v) = v
version_of (kind.FetchReply v) = v
version_of (kind.Grant v) = v
version_of kind.Reclaim = Two
version_of kind.ReclaimReply = Two
version_of _ = One

abbrev pub fields_of_why : Why → List Field
fields_of_why (why.Busy joiner) = Field.Tag 1 ∷ Field.Id joiner ∷ []
fields_of_why (why.Moved left right) = Field.Tag 2 ∷ Field.Id left ∷ Field.Id right ∷ []
fields_of_why why.NotReady = Field.Tag 3 ∷ []

abbrev pub tag_of_reply : Reply → ℕ
tag_of_reply (reply.Delivered node hops) = 1
tag_of_reply (reply.Stored holders) = 2
tag_of_reply (reply.Found node bytes) = 3
tag_of_reply (reply.NotFound node) = 4
tag_of_reply (reply.Collision node) = 5
tag_of_reply (reply.TooFew node known) = 6
tag_of_reply (reply.Busy node joiner) = 7
tag_of_reply (reply.NotReady node) = 8
tag_of_reply (reply.Full node) = 9
tag_of_reply (reply.Gone node) = 10
tag_of_reply (reply.Reclaimed node) = 11

abbrev pub fields_of_reply : Reply → List Field
fields_of_reply (reply.Delivered node hops) = Field.Tag 1 ∷ Field.Id node ∷ Field.Hops hops ∷ []
fields_of_reply (reply.Stored holders) = Field.Tag 2 ∷ Field.Ids holders ∷ []
fields_of_reply (reply.Found node bytes) = Field.Tag 3 ∷ Field.Id node ∷ Field.Bytes bytes ∷ []
fields_of_reply (reply.NotFound node) = Field.Tag 4 ∷ Field.Id node ∷ []
fields_of_reply (reply.Collision node) = Field.Tag 5 ∷ Field.Id node ∷ []
fields_of_reply (reply.TooFew node known) = Field.Tag 6 ∷ Field.Id node ∷ Field.Hops known ∷ []
fields_of_reply (reply.Busy node joiner) = Field.Tag 7 ∷ Field.Id node ∷ Field.Id joiner ∷ []
fields_of_reply (reply.NotReady node) = Field.Tag 8 ∷ Field.Id node ∷ []
fields_of_reply (reply.Full node) = Field.Tag 9 ∷ Field.Id node ∷ []
fields_of_reply (reply.Gone node) = Field.Tag 10 ∷ Field.Id node ∷ []
fields_of_reply (reply.Reclaimed node) = Field.Tag 11 ∷ Field.Id node ∷ []

-- a Grant without tombs has no field for them
abbrev pub fields_of_tombs : List FileId → List Field
fields_of_tombs [] = []
fields_of_tombs (tomb ∷ tombs) = Field.Tombs (tomb ∷ tombs) ∷ []

abbrev pub fields_of : Message → List Field
fields_of (Message.Lookup origin number key hops) = Field.Id origin ∷ Field.Number number ∷ Field.Id key ∷ Field.Hops hops ∷ []
fields_of (Message.LookupReply number reply) = Field.Number number ∷ fields_of_reply reply
fields_of (Message.Insert origin number hops file copies bytes) =
    Field.Id origin ∷ Field.Number number ∷ Field.Hops hops ∷ Field.File file ∷ Field.Copies copies ∷ Field.Bytes bytes ∷ []
fields_of (Message.InsertReply number reply) = Field.Number number ∷ fields_of_reply reply
fields_of (Message.Fetch origin number hops file) = Field.Id origin ∷ Field.Number number ∷ Field.Hops hops ∷ Field.File file ∷ []
fields_of (Message.FetchReply number reply) = Field.Number number ∷ fields_of_reply reply
fields_of (Message.JoinRequest joiner attempt hops) = Field.Id joiner ∷ Field.Attempt attempt ∷ Field.Hops hops ∷ []
fields_of (Message.JoinReply attempt members) = Field.Attempt attempt ∷ Field.Ids members ∷ []
fields_of (Message.JoinRefuse attempt why) = Field.Attempt attempt ∷ fields_of_why why
fields_of (Message.Probe attempt) = Field.Attempt attempt ∷ []
fields_of (Message.ProbeReply attempt members) = Field.Attempt attempt ∷ Field.Ids members ∷ []
fields_of (Message.LeaseRequest attempt left right) = Field.Attempt attempt ∷ Field.Id left ∷ Field.Id right ∷ []
fields_of (Message.Grant attempt manifest tombs) = Field.Attempt attempt ∷ Field.Files manifest ∷ fields_of_tombs tombs
fields_of (Message.Deny attempt why) = Field.Attempt attempt ∷ fields_of_why why
fields_of (Message.Handover file bytes) = Field.File file ∷ Field.Bytes bytes ∷ []
fields_of (Message.Release attempt) = Field.Attempt attempt ∷ []
fields_of (Message.Confirm attempt) = Field.Attempt attempt ∷ []
fields_of Message.Announce = []
fields_of (Message.Replicate origin number file bytes) = Field.Id origin ∷ Field.Number number ∷ Field.File file ∷ Field.Bytes bytes ∷ []
fields_of (Message.ReplicaAck origin number file) = Field.Id origin ∷ Field.Number number ∷ Field.File file ∷ []
fields_of (Message.Reclaim origin number hops file) = Field.Id origin ∷ Field.Number number ∷ Field.Hops hops ∷ Field.File file ∷ []
fields_of (Message.ReclaimReply number reply) = Field.Number number ∷ fields_of_reply reply

-- the version of a reply to a lookup, an insert or a fetch
abbrev pub version_of_reply : Reply → Version
version_of_reply r = if nat_lt (tag_of_reply r) 10 then One else Two

abbrev pub version_of_tombs : List FileId → Version
version_of_tombs [] = One
version_of_tombs (tomb ∷ tombs) = Two

abbrev pub kind_of : Message → Kind
kind_of (Message.Lookup origin number key hops) = kind.Lookup
kind_of (Message.LookupReply number reply) = kind.LookupReply (version_of_reply reply)
kind_of (Message.Insert origin number hops file copies bytes) = kind.Insert
kind_of (Message.InsertReply number reply) = kind.InsertReply (version_of_reply reply)
kind_of (Message.Fetch origin number hops file) = kind.Fetch
kind_of (Message.FetchReply number reply) = kind.FetchReply (version_of_reply reply)
kind_of (Message.JoinRequest joiner attempt hops) = kind.JoinRequest
kind_of (Message.JoinReply attempt members) = kind.JoinReply
kind_of (Message.JoinRefuse attempt why) = kind.JoinRefuse
kind_of (Message.Probe attempt) = kind.Probe
kind_of (Message.ProbeReply attempt members) = kind.ProbeReply
kind_of (Message.LeaseRequest attempt left right) = kind.LeaseRequest
kind_of (Message.Grant attempt manifest tombs) = kind.Grant (version_of_tombs tombs)
kind_of (Message.Deny attempt why) = kind.Deny
kind_of (Message.Handover file bytes) = kind.Handover
kind_of (Message.Release attempt) = kind.Release
kind_of (Message.Confirm attempt) = kind.Confirm
kind_of Message.Announce = kind.Announce
kind_of (Message.Replicate origin number file bytes) = kind.Replicate
kind_of (Message.ReplicaAck origin number file) = kind.ReplicaAck
kind_of (Message.Reclaim origin number hops file) = kind.Reclaim
kind_of (Message.ReclaimReply number reply) = kind.ReclaimReply
