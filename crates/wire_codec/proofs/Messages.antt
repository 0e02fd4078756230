-- The fields of each message match the layout of its kind, are few, and with the kind give the message back.
use Rattle.std.proofs.Common.{◌≡◌, ℕ, ◌*◌, ◌≤◌, cond, eqb, List, [], ◌∷◌, length, get_or, drop, refl, sym, ap, ◌∙◌, arith, lit≤}
use Rattle.std.specs.List.{AllByRecursion}
use Rattle.wire_msg.specs.declared.reply.Reply.{Reply}
use Rattle.wire_msg.specs.declared.reply.Reply.TheVariants as reply
use Rattle.wire_msg.specs.declared.reply.Why.{Why}
use Rattle.wire_msg.specs.declared.reply.Why.TheVariants as why
use Rattle.wire_msg.specs.Words.{Message, Envelope}
use Rattle.wire_codec.specs.declared.kind.Kind.{Kind}
use Rattle.wire_codec.specs.declared.kind.Kind.TheVariants as kind
use Rattle.wire_codec.specs.Fields.{Field, Fits}
use Rattle.wire_codec.specs.Sizes.{size_of, size_of_all}
use Rattle.wire_codec.specs.Layouts as layouts
use Rattle.wire_codec.specs.Kinds.{kind_of, fields_of, fields_of_why, fields_of_reply, fields_of_tombs, version_of_reply, version_of_tombs}
use Rattle.wire_codec.specs.Spelling.{Contents, contents_of}
use Rattle.wire_codec.proofs.Matching.{Matches}

-- ---- they match the layout

pub why_matches : (w : Why) → Matches layouts.why (fields_of_why w)
why_matches (why.Busy joiner) = ((lit≤ tt, lit≤ tt), (refl, tt))
why_matches (why.Moved left right) = ((lit≤ tt, lit≤ tt), (refl, (refl, tt)))
why_matches why.NotReady = ((lit≤ tt, lit≤ tt), tt)

reply_matches : (r : Reply) → Matches (layouts.reply (version_of_reply r)) (fields_of_reply r)
reply_matches (reply.Delivered node hops) = ((lit≤ tt, lit≤ tt), (refl, (refl, tt)))
reply_matches (reply.Stored holders) = ((lit≤ tt, lit≤ tt), (refl, tt))
reply_matches (reply.Found node bytes) = ((lit≤ tt, lit≤ tt), (refl, (refl, tt)))
reply_matches (reply.NotFound node) = ((lit≤ tt, lit≤ tt), (refl, tt))
reply_matches (reply.Collision node) = ((lit≤ tt, lit≤ tt), (refl, tt))
reply_matches (reply.TooFew node known) = ((lit≤ tt, lit≤ tt), (refl, (refl, tt)))
reply_matches (reply.Busy node joiner) = ((lit≤ tt, lit≤ tt), (refl, (refl, tt)))
reply_matches (reply.NotReady node) = ((lit≤ tt, lit≤ tt), (refl, tt))
reply_matches (reply.Full node) = ((lit≤ tt, lit≤ tt), (refl, tt))
reply_matches (reply.Gone node) = ((lit≤ tt, lit≤ tt), (refl, tt))
reply_matches (reply.Reclaimed node) = ((lit≤ tt, lit≤ tt), (refl, tt))

pub any_reply_matches : (r : Reply) → Matches (layouts.tagged 1 11 layouts.behind_reply) (fields_of_reply r)
any_reply_matches (reply.Delivered node hops) = ((lit≤ tt, lit≤ tt), (refl, (refl, tt)))
any_reply_matches (reply.Stored holders) = ((lit≤ tt, lit≤ tt), (refl, tt))
any_reply_matches (reply.Found node bytes) = ((lit≤ tt, lit≤ tt), (refl, (refl, tt)))
any_reply_matches (reply.NotFound node) = ((lit≤ tt, lit≤ tt), (refl, tt))
any_reply_matches (reply.Collision node) = ((lit≤ tt, lit≤ tt), (refl, tt))
any_reply_matches (reply.TooFew node known) = ((lit≤ tt, lit≤ tt), (refl, (refl, tt)))
any_reply_matches (reply.Busy node joiner) = ((lit≤ tt, lit≤ tt), (refl, (refl, tt)))
any_reply_matches (reply.NotReady node) = ((lit≤ tt, lit≤ tt), (refl, tt))
any_reply_matches (reply.Full node) = ((lit≤ tt, lit≤ tt), (refl, tt))
any_reply_matches (reply.Gone node) = ((lit≤ tt, lit≤ tt), (refl, tt))
any_reply_matches (reply.Reclaimed node) = ((lit≤ tt, lit≤ tt), (refl, tt))

tombs_match : (tombs : List (List ℕ)) → Matches (layouts.tombs (version_of_tombs tombs)) (fields_of_tombs tombs)
tombs_match [] = tt
tombs_match (tomb ∷ tombs) = (refl, tt)

pub message_matches : (m : Message) → Matches (layouts.layout (kind_of m)) (fields_of m)
message_matches (Message.Lookup origin number key hops) = (refl, (refl, (refl, (refl, tt))))
message_matches (Message.LookupReply number reply) = (refl, reply_matches reply)
message_matches (Message.Insert origin number hops file copies bytes) = (refl, (refl, (refl, (refl, (refl, (refl, tt))))))
message_matches (Message.InsertReply number reply) = (refl, reply_matches reply)
message_matches (Message.Fetch origin number hops file) = (refl, (refl, (refl, (refl, tt))))
message_matches (Message.FetchReply number reply) = (refl, reply_matches reply)
message_matches (Message.JoinRequest joiner attempt hops) = (refl, (refl, (refl, tt)))
message_matches (Message.JoinReply attempt members) = (refl, (refl, tt))
message_matches (Message.JoinRefuse attempt why) = (refl, why_matches why)
message_matches (Message.Probe attempt) = (refl, tt)
message_matches (Message.ProbeReply attempt members) = (refl, (refl, tt))
message_matches (Message.LeaseRequest attempt left right) = (refl, (refl, (refl, tt)))
message_matches (Message.Grant attempt manifest tombs) = (refl, (refl, tombs_match tombs))
message_matches (Message.Deny attempt why) = (refl, why_matches why)
message_matches (Message.Handover file bytes) = (refl, (refl, tt))
message_matches (Message.Release attempt) = (refl, tt)
message_matches (Message.Confirm attempt) = (refl, tt)
message_matches Message.Announce = tt
message_matches (Message.Replicate origin number file bytes) = (refl, (refl, (refl, (refl, tt))))
message_matches (Message.ReplicaAck origin number file) = (refl, (refl, (refl, tt)))
message_matches (Message.Reclaim origin number hops file) = (refl, (refl, (refl, (refl, tt))))
message_matches (Message.ReclaimReply number reply) = (refl, any_reply_matches reply)

-- ---- they are few

few_of_why : (w : Why) → length (fields_of_why w) ≤ 3
few_of_why (why.Busy joiner) = lit≤ tt
few_of_why (why.Moved left right) = lit≤ tt
few_of_why why.NotReady = lit≤ tt

few_of_reply : (r : Reply) → length (fields_of_reply r) ≤ 3
few_of_reply (reply.Delivered node hops) = lit≤ tt
few_of_reply (reply.Stored holders) = lit≤ tt
few_of_reply (reply.Found node bytes) = lit≤ tt
few_of_reply (reply.NotFound node) = lit≤ tt
few_of_reply (reply.Collision node) = lit≤ tt
few_of_reply (reply.TooFew node known) = lit≤ tt
few_of_reply (reply.Busy node joiner) = lit≤ tt
few_of_reply (reply.NotReady node) = lit≤ tt
few_of_reply (reply.Full node) = lit≤ tt
few_of_reply (reply.Gone node) = lit≤ tt
few_of_reply (reply.Reclaimed node) = lit≤ tt

few_of_tombs : (tombs : List (List ℕ)) → length (fields_of_tombs tombs) ≤ 1
few_of_tombs [] = lit≤ tt
few_of_tombs (tomb ∷ tombs) = lit≤ tt

few_fields : (m : Message) → length (fields_of m) ≤ 6
few_fields (Message.Lookup origin number key hops) = lit≤ tt
few_fields (Message.LookupReply number reply) = omega (arith, few_of_reply reply)
few_fields (Message.Insert origin number hops file copies bytes) = lit≤ tt
few_fields (Message.InsertReply number reply) = omega (arith, few_of_reply reply)
few_fields (Message.Fetch origin number hops file) = lit≤ tt
few_fields (Message.FetchReply number reply) = omega (arith, few_of_reply reply)
few_fields (Message.JoinRequest joiner attempt hops) = lit≤ tt
few_fields (Message.JoinReply attempt members) = lit≤ tt
few_fields (Message.JoinRefuse attempt why) = omega (arith, few_of_why why)
few_fields (Message.Probe attempt) = lit≤ tt
few_fields (Message.ProbeReply attempt members) = lit≤ tt
few_fields (Message.LeaseRequest attempt left right) = lit≤ tt
few_fields (Message.Grant attempt manifest tombs) = omega (arith, few_of_tombs tombs)
few_fields (Message.Deny attempt why) = omega (arith, few_of_why why)
few_fields (Message.Handover file bytes) = lit≤ tt
few_fields (Message.Release attempt) = lit≤ tt
few_fields (Message.Confirm attempt) = lit≤ tt
few_fields Message.Announce = lit≤ tt
few_fields (Message.Replicate origin number file bytes) = lit≤ tt
few_fields (Message.ReplicaAck origin number file) = lit≤ tt
few_fields (Message.Reclaim origin number hops file) = lit≤ tt
few_fields (Message.ReclaimReply number reply) = omega (arith, few_of_reply reply)

size_limit : (field : Field) → Fits field → size_of field ≤ 81922
size_limit (Field.Id id) fits = lit≤ tt
size_limit (Field.File file) fits = lit≤ tt
size_limit (Field.Number number) fits = lit≤ tt
size_limit (Field.Attempt attempt) fits = lit≤ tt
size_limit (Field.Hops hops) fits = lit≤ tt
size_limit (Field.Copies copies) fits = lit≤ tt
size_limit (Field.Bytes bytes) fits = omega (arith, fits.0)
size_limit (Field.Ids ids) fits = omega (arith, fits.0)
size_limit (Field.Files files) fits = omega (arith, fits.1)
size_limit (Field.Tombs tombs) fits = omega (arith, fits.1)
size_limit (Field.Tag tag) fits = lit≤ tt

sizes_limit : (fields : List Field) → AllByRecursion Fits fields → size_of_all fields ≤ 81922 * length fields
sizes_limit [] fits = lit≤ tt
sizes_limit (field ∷ fields) fits = omega (arith, size_limit field fits.0, sizes_limit fields fits.1)

-- the length of a frame fits its four bytes
pub size_small : (e : Envelope) → AllByRecursion Fits (contents_of e).fields → size_of_all (contents_of e).fields ≤ 1000000
size_small e fits = omega (arith, few_fields e.message, sizes_limit (contents_of e).fields fits)

-- ---- they give the message back

abbrev pub number_in : Field → ℕ
number_in (Field.Id id) = id
number_in (Field.Number number) = number
number_in (Field.Attempt attempt) = attempt
number_in (Field.Hops hops) = hops
number_in (Field.Copies copies) = copies
number_in (Field.Tag tag) = tag
number_in _ = 0

abbrev pub list_in : Field → List ℕ
list_in (Field.File file) = file
list_in (Field.Bytes bytes) = bytes
list_in (Field.Ids ids) = ids
list_in _ = []

abbrev files_in : Field → List (List ℕ)
files_in (Field.Files files) = files
files_in (Field.Tombs tombs) = tombs
files_in _ = []

abbrev pub number_at : List Field → ℕ → ℕ
number_at fields i = number_in (get_or fields i (Field.Tag 0))

abbrev pub list_at : List Field → ℕ → List ℕ
list_at fields i = list_in (get_or fields i (Field.Tag 0))

abbrev files_at : List Field → ℕ → List (List ℕ)
files_at fields i = files_in (get_or fields i (Field.Tag 0))

abbrev pub why_in : List Field → Why
why_in fields =
    cond (eqb (number_at fields 0) 1) (why.Busy (number_at fields 1))
    (cond (eqb (number_at fields 0) 2) (why.Moved (number_at fields 1) (number_at fields 2)) why.NotReady)

abbrev pub reply_in : List Field → Reply
reply_in fields =
    cond (eqb (number_at fields 0) 1) (reply.Delivered (number_at fields 1) (number_at fields 2))
    (cond (eqb (number_at fields 0) 2) (reply.Stored (list_at fields 1))
    (cond (eqb (number_at fields 0) 3) (reply.Found (number_at fields 1) (list_at fields 2))
    (cond (eqb (number_at fields 0) 4) (reply.NotFound (number_at fields 1))
    (cond (eqb (number_at fields 0) 5) (reply.Collision (number_at fields 1))
    (cond (eqb (number_at fields 0) 6) (reply.TooFew (number_at fields 1) (number_at fields 2))
    (cond (eqb (number_at fields 0) 7) (reply.Busy (number_at fields 1) (number_at fields 2))
    (cond (eqb (number_at fields 0) 8) (reply.NotReady (number_at fields 1))
    (cond (eqb (number_at fields 0) 9) (reply.Full (number_at fields 1))
    (cond (eqb (number_at fields 0) 10) (reply.Gone (number_at fields 1))
    (reply.Reclaimed (number_at fields 1)))))))))))

abbrev message_in : Kind → List Field → Message
message_in kind.Lookup fields = Message.Lookup (number_at fields 0) (number_at fields 1) (number_at fields 2) (number_at fields 3)
message_in (kind.LookupReply v) fields = Message.LookupReply (number_at fields 0) (reply_in (drop 1 fields))
message_in kind.Insert fields = Message.Insert (number_at fields 0) (number_at fields 1) (number_at fields 2) (list_at fields 3) (number_at fields 4)
    (list_at fields 5)
message_in (kind.InsertReply v) fields = Message.InsertReply (number_at fields 0) (reply_in (drop 1 fields))
message_in kind.Fetch fields = Message.Fetch (number_at fields 0) (number_at fields 1) (number_at fields 2) (list_at fields 3)
message_in (kind.FetchReply v) fields = Message.FetchReply (number_at fields 0) (reply_in (drop 1 fields))
message_in kind.JoinRequest fields = Message.JoinRequest (number_at fields 0) (number_at fields 1) (number_at fields 2)
message_in kind.JoinReply fields = Message.JoinReply (number_at fields 0) (list_at fields 1)
message_in kind.JoinRefuse fields = Message.JoinRefuse (number_at fields 0) (why_in (drop 1 fields))
message_in kind.Probe fields = Message.Probe (number_at fields 0)
message_in kind.ProbeReply fields = Message.ProbeReply (number_at fields 0) (list_at fields 1)
message_in kind.LeaseRequest fields = Message.LeaseRequest (number_at fields 0) (number_at fields 1) (number_at fields 2)
message_in (kind.Grant v) fields = Message.Grant (number_at fields 0) (files_at fields 1) (files_at fields 2)
message_in kind.Deny fields = Message.Deny (number_at fields 0) (why_in (drop 1 fields))
message_in kind.Handover fields = Message.Handover (list_at fields 0) (list_at fields 1)
message_in kind.Release fields = Message.Release (number_at fields 0)
message_in kind.Confirm fields = Message.Confirm (number_at fields 0)
message_in kind.Announce fields = Message.Announce
message_in kind.Replicate fields = Message.Replicate (number_at fields 0) (number_at fields 1) (list_at fields 2) (list_at fields 3)
message_in kind.ReplicaAck fields = Message.ReplicaAck (number_at fields 0) (number_at fields 1) (list_at fields 2)
message_in kind.Reclaim fields = Message.Reclaim (number_at fields 0) (number_at fields 1) (number_at fields 2) (list_at fields 3)
message_in kind.ReclaimReply fields = Message.ReclaimReply (number_at fields 0) (reply_in (drop 1 fields))

pub why_back : (w : Why) → why_in (fields_of_why w) ≡ w
why_back (why.Busy joiner) = refl
why_back (why.Moved left right) = refl
why_back why.NotReady = refl

pub reply_back : (r : Reply) → reply_in (fields_of_reply r) ≡ r
reply_back (reply.Delivered node hops) = refl
reply_back (reply.Stored holders) = refl
reply_back (reply.Found node bytes) = refl
reply_back (reply.NotFound node) = refl
reply_back (reply.Collision node) = refl
reply_back (reply.TooFew node known) = refl
reply_back (reply.Busy node joiner) = refl
reply_back (reply.NotReady node) = refl
reply_back (reply.Full node) = refl
reply_back (reply.Gone node) = refl
reply_back (reply.Reclaimed node) = refl

tombs_back : (tombs : List (List ℕ)) → files_at (fields_of_tombs tombs) 0 ≡ tombs
tombs_back [] = refl
tombs_back (tomb ∷ tombs) = refl

message_back : (m : Message) → message_in (kind_of m) (fields_of m) ≡ m
message_back (Message.Lookup origin number key hops) = refl
message_back (Message.LookupReply number reply) = ap (Message.LookupReply number) (reply_back reply)
message_back (Message.Insert origin number hops file copies bytes) = refl
message_back (Message.InsertReply number reply) = ap (Message.InsertReply number) (reply_back reply)
message_back (Message.Fetch origin number hops file) = refl
message_back (Message.FetchReply number reply) = ap (Message.FetchReply number) (reply_back reply)
message_back (Message.JoinRequest joiner attempt hops) = refl
message_back (Message.JoinReply attempt members) = refl
message_back (Message.JoinRefuse attempt why) = ap (Message.JoinRefuse attempt) (why_back why)
message_back (Message.Probe attempt) = refl
message_back (Message.ProbeReply attempt members) = refl
message_back (Message.LeaseRequest attempt left right) = refl
message_back (Message.Grant attempt manifest tombs) = ap (Message.Grant attempt manifest) (tombs_back tombs)
message_back (Message.Deny attempt why) = ap (Message.Deny attempt) (why_back why)
message_back (Message.Handover file bytes) = refl
message_back (Message.Release attempt) = refl
message_back (Message.Confirm attempt) = refl
message_back Message.Announce = refl
message_back (Message.Replicate origin number file bytes) = refl
message_back (Message.ReplicaAck origin number file) = refl
message_back (Message.Reclaim origin number hops file) = refl
message_back (Message.ReclaimReply number reply) = ap (Message.ReclaimReply number) (reply_back reply)

abbrev envelope_in : Contents → Envelope
envelope_in c = record {
  sender = number_at c.fields 0;
  receiver = number_at c.fields 1;
  stamp = number_at c.fields 2;
  message = message_in c.kind (drop 3 c.fields);
}

envelope_back : (e : Envelope) → envelope_in (contents_of e) ≡ e
envelope_back e = ap (λ (m : Message). record e { message = m }) (message_back e.message)

-- what a frame says tells its envelope
pub contents_tell : (e f : Envelope) → contents_of e ≡ contents_of f → e ≡ f
contents_tell e f same = sym (envelope_back e) ∙ ap envelope_in same ∙ envelope_back f
