-- What was read of a layout has its shape, and so is what some message says.
use Rattle.std.proofs.Common.{◌≡◌, ℕ, zero, suc, ◌+◌, ◌*◌, ◌≤◌, Bool, true, false, cond, eqb, ltb, List, [], ◌∷◌, length, take, drop, Ok, Err, refl}
use Rattle.std.proofs.Common.{sym, ap, ◌∙◌, arith}
use Rattle.std.specs.Prelude.{nat_le, ◌&&◌}
use Rattle.std.specs.Simd.{first_chunks}
use Rattle.std.specs.Int.{Width, w8, w16, w32, w64, w128}
use Rattle.std.proofs.lemmas.Bool.{lt-ltb, le-ltb}
use Rattle.ring_math.specs.declared.limits.TheConstants.{MOST_BYTES, MOST_ENTRIES, MOST_MEMBERS}
use Rattle.wire_msg.specs.declared.limits.TheConstants.{MOST_COPIES}
use Rattle.wire_msg.specs.declared.reply.Reply.{Reply}
use Rattle.wire_msg.specs.declared.reply.Reply.TheVariants as reply
use Rattle.wire_msg.specs.declared.reply.Why.{Why}
use Rattle.wire_msg.specs.declared.reply.Why.TheVariants as why
use Rattle.wire_msg.specs.Words.{Message, Envelope}
use Rattle.wire_codec.specs.declared.fault.FrameFault.TheVariants as fault
use Rattle.wire_codec.specs.declared.kind.Kind.{Kind}
use Rattle.wire_codec.specs.declared.kind.Kind.TheVariants as kind
use Rattle.wire_codec.specs.declared.kind.Version.{Version}
use Rattle.wire_codec.specs.declared.kind.Version.TheVariants.{One, Two}
use Rattle.wire_codec.specs.Fields.{Field}
use Rattle.wire_codec.specs.Layouts.{Form, Layout, end, ◌▸◌, tagged, layout}
use Rattle.wire_codec.specs.Layouts as layouts
use Rattle.wire_codec.specs.Kinds.{kind_of, fields_of, fields_of_why, fields_of_reply, tag_of_reply, version_of_reply}
use Rattle.wire_codec.specs.Spelling.{Contents, contents_of}
use Rattle.wire_codec.specs.Reading.{◌>>=◌, Reading, part_at, number_at, number_within, field_at, header_of}
use Rattle.wire_codec.proofs.Spans.{fields_at, reading, whole_layout, says}
use Rattle.wire_codec.proofs.Places.{bind_ok, ok_is, refused_if_not, in_range}
use Rattle.wire_codec.proofs.Chunks.{ids_of}

-- ---- the shape of one field

abbrev HasForm : Form → Field → Type 0
HasForm Form.Id field = (n : ℕ) × (field ≡ Field.Id n)
HasForm Form.File field = (file : List ℕ) × (field ≡ Field.File file)
HasForm Form.Number field = (n : ℕ) × (field ≡ Field.Number n)
HasForm Form.Attempt field = (n : ℕ) × (field ≡ Field.Attempt n)
HasForm Form.Hops field = (n : ℕ) × (field ≡ Field.Hops n)
HasForm Form.Copies field = (n : ℕ) × (field ≡ Field.Copies n)
HasForm Form.Bytes field = (bytes : List ℕ) × (field ≡ Field.Bytes bytes)
HasForm Form.Ids field = (ids : List ℕ) × (field ≡ Field.Ids ids)
HasForm Form.Files field = (files : List (List ℕ)) × (field ≡ Field.Files files)
HasForm Form.Tombs field = (tomb : List ℕ) × (tombs : List (List ℕ)) × (field ≡ Field.Tombs (tomb ∷ tombs))

abbrev done : Field → ℕ → Reading (Field × ℕ)
done field next = Ok (field, next)

field_is : (field : Field) (next : ℕ) (x : Field × ℕ) → done field next ≡ Ok x → x.0 ≡ field
field_is field next x e =
    let made : Field × ℕ = (field, next) in
    sym (ap (λ (p : Field × ℕ). p.0) (ok_is made x e))

within_range : (bytes : List ℕ) (w : Width) (lowest highest place n : ℕ) → number_within bytes w lowest highest place ≡ Ok n → (lowest ≤ n) × (n ≤ highest)
within_range bytes w lowest highest place n e =
    let kept : ℕ → Reading ℕ = λ k. Ok k in
    let b = bind_ok (number_at bytes w place) (λ k. cond (nat_le lowest k && nat_le k highest) (kept k) (Err (fault.Range place))) n e in
    let test = refused_if_not (nat_le lowest b.0 && nat_le b.0 highest) (fault.Range place) b.0 n b.2 in
    let range = in_range lowest b.0 highest test.0 in
    (omega (arith, range.0, test.1), omega (arith, range.1, test.1))

cut_some : (n : ℕ) (part : List ℕ) → 1 ≤ n → (tomb : List ℕ) × (tombs : List (List ℕ)) × (first_chunks 20 n part ≡ tomb ∷ tombs)
cut_some zero part some = absurd (omega arith)
cut_some (suc n) part some = (take 20 part, first_chunks 20 n (drop 20 part), refl)

has_form : (bytes : List ℕ) (form : Form) (place : ℕ) (x : Field × ℕ) → field_at bytes form place ≡ Ok x → HasForm form x.0
has_form bytes Form.Id place x e =
    let b = bind_ok (number_at bytes w128 place) (λ n. done (Field.Id n) (place + 16)) x e in
    (b.0, field_is (Field.Id b.0) (place + 16) x b.2)
has_form bytes Form.File place x e =
    let b = bind_ok (part_at bytes place 20) (λ file. done (Field.File file) (place + 20)) x e in
    (b.0, field_is (Field.File b.0) (place + 20) x b.2)
has_form bytes Form.Number place x e =
    let b = bind_ok (number_at bytes w64 place) (λ n. done (Field.Number n) (place + 8)) x e in
    (b.0, field_is (Field.Number b.0) (place + 8) x b.2)
has_form bytes Form.Attempt place x e =
    let b = bind_ok (number_at bytes w32 place) (λ n. done (Field.Attempt n) (place + 4)) x e in
    (b.0, field_is (Field.Attempt b.0) (place + 4) x b.2)
has_form bytes Form.Hops place x e =
    let b = bind_ok (number_at bytes w16 place) (λ n. done (Field.Hops n) (place + 2)) x e in
    (b.0, field_is (Field.Hops b.0) (place + 2) x b.2)
has_form bytes Form.Copies place x e =
    let b = bind_ok (number_within bytes w8 1 MOST_COPIES place) (λ n. done (Field.Copies n) (place + 1)) x e in
    (b.0, field_is (Field.Copies b.0) (place + 1) x b.2)
has_form bytes Form.Bytes place x e =
    let b = bind_ok (number_within bytes w16 0 MOST_BYTES place) (λ n. part_at bytes (place + 2) n >>= λ part. done (Field.Bytes part) (place + 2 + n)) x e in
    let d = bind_ok (part_at bytes (place + 2) b.0) (λ part. done (Field.Bytes part) (place + 2 + b.0)) x b.2 in
    (d.0, field_is (Field.Bytes d.0) (place + 2 + b.0) x d.2)
has_form bytes Form.Ids place x e =
    let b = bind_ok (number_within bytes w8 0 MOST_MEMBERS place)
    (λ n. part_at bytes (place + 1) (16 * n) >>= λ part. done (Field.Ids (ids_of n part)) (place + 1 + 16 * n)) x e in
    let d = bind_ok (part_at bytes (place + 1) (16 * b.0)) (λ part. done (Field.Ids (ids_of b.0 part)) (place + 1 + 16 * b.0)) x b.2 in
    (ids_of b.0 d.0, field_is (Field.Ids (ids_of b.0 d.0)) (place + 1 + 16 * b.0) x d.2)
has_form bytes Form.Files place x e =
    let b = bind_ok (number_within bytes w16 0 MOST_ENTRIES place)
    (λ n. part_at bytes (place + 2) (20 * n) >>= λ part. done (Field.Files (first_chunks 20 n part)) (place + 2 + 20 * n)) x e in
    let d = bind_ok (part_at bytes (place + 2) (20 * b.0)) (λ part. done (Field.Files (first_chunks 20 b.0 part)) (place + 2 + 20 * b.0)) x b.2 in
    (first_chunks 20 b.0 d.0, field_is (Field.Files (first_chunks 20 b.0 d.0)) (place + 2 + 20 * b.0) x d.2)
has_form bytes Form.Tombs place x e =
    let b = bind_ok (number_within bytes w16 1 MOST_ENTRIES place)
    (λ n. part_at bytes (place + 2) (20 * n) >>= λ part. done (Field.Tombs (first_chunks 20 n part)) (place + 2 + 20 * n)) x e in
    let d = bind_ok (part_at bytes (place + 2) (20 * b.0)) (λ part. done (Field.Tombs (first_chunks 20 b.0 part)) (place + 2 + 20 * b.0)) x b.2 in
    let some = cut_some b.0 d.0 (within_range bytes w16 1 MOST_ENTRIES place b.0 b.1).0 in
    (some.0, some.1, field_is (Field.Tombs (first_chunks 20 b.0 d.0)) (place + 2 + 20 * b.0) x d.2 ∙ ap (λ (t : List (List ℕ)). Field.Tombs t) some.2)

-- ---- the shape of all fields

abbrev Shaped : Layout → List Field → Type 0
Shaped end fields = fields ≡ []
Shaped (form ▸ more) fields = (field : Field) × (rest : List Field) × (fields ≡ field ∷ rest) × HasForm form field × Shaped more rest
Shaped (tagged lowest highest behind) fields = (tag : ℕ) × (rest : List Field) × (fields ≡ Field.Tag tag ∷ rest) × (lowest ≤ tag) × (tag ≤ highest) × Shaped
    (behind tag) rest

abbrev all_done : List Field → ℕ → Reading (List Field × ℕ)
all_done fields next = Ok (fields, next)

fields_are : (fields : List Field) (next : ℕ) (x : List Field × ℕ) → all_done fields next ≡ Ok x → x.0 ≡ fields
fields_are fields next x e =
    let made : List Field × ℕ = (fields, next) in
    sym (ap (λ (p : List Field × ℕ). p.0) (ok_is made x e))

shaped : (bytes : List ℕ) (l : Layout) (place : ℕ) (x : List Field × ℕ) → fields_at bytes l place ≡ Ok x → Shaped l x.0
shaped bytes end place x e = fields_are [] place x e
shaped bytes (form ▸ more) place x e =
    let b = bind_ok (field_at bytes form place) (λ field. fields_at bytes more field.1 >>= λ others. all_done (field.0 ∷ others.0) others.1) x e in
    let d = bind_ok (fields_at bytes more b.0.1) (λ others. all_done (b.0.0 ∷ others.0) others.1) x b.2 in
    (b.0.0, d.0.0, fields_are (b.0.0 ∷ d.0.0) d.0.1 x d.2, has_form bytes form place b.0 b.1, shaped bytes more b.0.1 d.0 d.1)
shaped bytes (tagged lowest highest behind) place x e =
    let b = bind_ok (number_within bytes w8 lowest highest place)
    (λ tag. fields_at bytes (behind tag) (place + 1) >>= λ others. all_done (Field.Tag tag ∷ others.0) others.1) x e in
    let d = bind_ok (fields_at bytes (behind b.0) (place + 1)) (λ others. all_done (Field.Tag b.0 ∷ others.0) others.1) x b.2 in
    let range = within_range bytes w8 lowest highest place b.0 b.1 in
    (b.0, d.0.0, fields_are (Field.Tag b.0 ∷ d.0.0) d.0.1 x d.2, range.0, range.1, shaped bytes (behind b.0) (place + 1) d.0 d.1)

-- ---- some message says it

pub record Says (k : Kind) (fields : List Field) : Type 0 where
  pub message : Message
  pub kind_is : kind_of message ≡ k
  pub fields_are : fields_of message ≡ fields

record IsWhy (fields : List Field) : Type 0 where
  why_is : Why
  fields_are : fields_of_why why_is ≡ fields

record IsReply (tag : ℕ) (fields : List Field) : Type 0 where
  reply_is : Reply
  tag_is : tag_of_reply reply_is ≡ tag
  fields_are : fields_of_reply reply_is ≡ fields

why_behind : (tag : ℕ) (rest : List Field) → 1 ≤ tag → tag ≤ 3 → Shaped (layouts.behind_why tag) rest → IsWhy (Field.Tag tag ∷ rest)
why_behind zero rest low high s = absurd (omega arith)
why_behind (suc zero) rest low high s = record { why_is = why.Busy s.3.0; fields_are = cc (s.2, s.3.1, s.4) }
why_behind (suc (suc zero)) rest low high s = record { why_is = why.Moved s.3.0 s.4.3.0; fields_are = cc (s.2, s.3.1, s.4.2, s.4.3.1, s.4.4) }
why_behind (suc (suc (suc zero))) rest low high s = record { why_is = why.NotReady; fields_are = cc (s) }
why_behind (suc (suc (suc (suc tag)))) rest low high s = absurd (omega arith)

is_why : (fields : List Field) → Shaped layouts.why fields → IsWhy fields
is_why fields s =
    let found = why_behind s.0 s.1 s.3 s.4 s.5 in
    record { why_is = found.why_is; fields_are = found.fields_are ∙ sym s.2 }

reply_behind : (tag : ℕ) (rest : List Field) → 1 ≤ tag → tag ≤ 11 → Shaped (layouts.behind_reply tag) rest → IsReply tag (Field.Tag tag ∷ rest)
reply_behind zero rest low high s = absurd (omega arith)
reply_behind (suc zero) rest low high s = record {
  reply_is = reply.Delivered s.3.0 s.4.3.0;
  tag_is = refl;
  fields_are = cc (s.2, s.3.1, s.4.2, s.4.3.1, s.4.4);
}
reply_behind (suc (suc zero)) rest low high s = record { reply_is = reply.Stored s.3.0; tag_is = refl; fields_are = cc (s.2, s.3.1, s.4) }
reply_behind (suc (suc (suc zero))) rest low high s = record
    { reply_is = reply.Found s.3.0 s.4.3.0; tag_is = refl; fields_are = cc (s.2, s.3.1, s.4.2, s.4.3.1, s.4.4) }
reply_behind (suc (suc (suc (suc zero)))) rest low high s = record { reply_is = reply.NotFound s.3.0; tag_is = refl; fields_are = cc (s.2, s.3.1, s.4) }
reply_behind (suc (suc (suc (suc (suc zero))))) rest low high s = record { reply_is = reply.Collision s.3.0; tag_is = refl; fields_are = cc (s.2, s.3.1, s.4) }
reply_behind (suc (suc (suc (suc (suc (suc zero)))))) rest low high s =
    record { reply_is = reply.TooFew s.3.0 s.4.3.0; tag_is = refl; fields_are = cc (s.2, s.3.1, s.4.2, s.4.3.1, s.4.4) }
reply_behind (suc (suc (suc (suc (suc (suc (suc zero))))))) rest low high s =
    record { reply_is = reply.Busy s.3.0 s.4.3.0; tag_is = refl; fields_are = cc (s.2, s.3.1, s.4.2, s.4.3.1, s.4.4) }
reply_behind (suc (suc (suc (suc (suc (suc (suc (suc zero)))))))) rest low high s =
    record { reply_is = reply.NotReady s.3.0; tag_is = refl; fields_are = cc (s.2, s.3.1, s.4) }
reply_behind (suc (suc (suc (suc (suc (suc (suc (suc (suc zero))))))))) rest low high s =
    record { reply_is = reply.Full s.3.0; tag_is = refl; fields_are = cc (s.2, s.3.1, s.4) }
reply_behind (suc (suc (suc (suc (suc (suc (suc (suc (suc (suc zero)))))))))) rest low high s =
    record { reply_is = reply.Gone s.3.0; tag_is = refl; fields_are = cc (s.2, s.3.1, s.4) }
reply_behind (suc (suc (suc (suc (suc (suc (suc (suc (suc (suc (suc zero))))))))))) rest low high s =
    record { reply_is = reply.Reclaimed s.3.0; tag_is = refl; fields_are = cc (s.2, s.3.1, s.4) }
reply_behind (suc (suc (suc (suc (suc (suc (suc (suc (suc (suc (suc (suc tag)))))))))))) rest low high s = absurd (omega arith)

is_reply : (lowest highest : ℕ) (fields : List Field) → 1 ≤ lowest → highest ≤ 11 → Shaped (tagged lowest highest layouts.behind_reply) fields
    → (tag : ℕ) × (lowest ≤ tag) × (tag ≤ highest) × IsReply tag fields
is_reply lowest highest fields low high s =
    let found = reply_behind s.0 s.1 (omega (arith, s.3)) (omega (arith, s.4)) s.5 in
    (s.0, s.3, s.4, record { reply_is = found.reply_is; tag_is = found.tag_is; fields_are = found.fields_are ∙ sym s.2 })

version_is : (r : Reply) (v : Version) (b : Bool) → ltb (tag_of_reply r) 10 ≡ b → cond b One Two ≡ v → version_of_reply r ≡ v
version_is r v b test is = ap (λ (x : Bool). cond x One Two) test ∙ is

record IsReplyIn (v : Version) (fields : List Field) : Type 0 where
  reply_is : Reply
  version : version_of_reply reply_is ≡ v
  fields_are : fields_of_reply reply_is ≡ fields

is_reply_in : (v : Version) (fields : List Field) → Shaped (layouts.reply v) fields → IsReplyIn v fields
is_reply_in One fields s =
    let found = is_reply 1 9 fields (omega arith) (omega arith) s in
    record {
      reply_is = found.3.reply_is;
      version = version_is found.3.reply_is One true (lt-ltb _ _ (omega (arith, found.2, found.3.tag_is))) refl;
      fields_are = found.3.fields_are;
    }
is_reply_in Two fields s =
    let found = is_reply 10 11 fields (omega arith) (omega arith) s in
    record {
      reply_is = found.3.reply_is;
      version = version_is found.3.reply_is Two false (le-ltb _ _ (omega (arith, found.1, found.3.tag_is))) refl;
      fields_are = found.3.fields_are;
    }

pub message_said : (k : Kind) (fields : List Field) → Shaped (layout k) fields → Says k fields
message_said kind.Lookup fields s = record {
  message = Message.Lookup s.3.0 s.4.3.0 s.4.4.3.0 s.4.4.4.3.0;
  kind_is = refl;
  fields_are = cc (s.2, s.3.1, s.4.2, s.4.3.1, s.4.4.2, s.4.4.3.1, s.4.4.4.2, s.4.4.4.3.1, s.4.4.4.4);
}
message_said (kind.LookupReply v) fields s =
    let found = is_reply_in v s.1 s.4 in
    let same = found.fields_are in
    record {
      message = Message.LookupReply s.3.0 found.reply_is;
      kind_is = ap (λ (x : Version). kind.LookupReply x) found.version;
      fields_are = cc (s.2, s.3.1, same);
    }
message_said kind.Insert fields s = record {
  message = Message.Insert s.3.0 s.4.3.0 s.4.4.3.0 s.4.4.4.3.0 s.4.4.4.4.3.0 s.4.4.4.4.4.3.0;
  kind_is = refl;
  fields_are = cc (
    s.2,
    s.3.1,
    s.4.2,
    s.4.3.1,
    s.4.4.2,
    s.4.4.3.1,
    s.4.4.4.2,
    s.4.4.4.3.1,
    s.4.4.4.4.2,
    s.4.4.4.4.3.1,
    s.4.4.4.4.4.2,
    s.4.4.4.4.4.3.1,
    s.4.4.4.4.4.4,
  );
}
message_said (kind.InsertReply v) fields s =
    let found = is_reply_in v s.1 s.4 in
    let same = found.fields_are in
    record {
      message = Message.InsertReply s.3.0 found.reply_is;
      kind_is = ap (λ (x : Version). kind.InsertReply x) found.version;
      fields_are = cc (s.2, s.3.1, same);
    }
message_said kind.Fetch fields s = record {
  message = Message.Fetch s.3.0 s.4.3.0 s.4.4.3.0 s.4.4.4.3.0;
  kind_is = refl;
  fields_are = cc (s.2, s.3.1, s.4.2, s.4.3.1, s.4.4.2, s.4.4.3.1, s.4.4.4.2, s.4.4.4.3.1, s.4.4.4.4);
}
message_said (kind.FetchReply v) fields s =
    let found = is_reply_in v s.1 s.4 in
    let same = found.fields_are in
    record {
      message = Message.FetchReply s.3.0 found.reply_is;
      kind_is = ap (λ (x : Version). kind.FetchReply x) found.version;
      fields_are = cc (s.2, s.3.1, same);
    }
message_said kind.JoinRequest fields s = record {
  message = Message.JoinRequest s.3.0 s.4.3.0 s.4.4.3.0;
  kind_is = refl;
  fields_are = cc (s.2, s.3.1, s.4.2, s.4.3.1, s.4.4.2, s.4.4.3.1, s.4.4.4);
}
message_said kind.JoinReply fields s = record { message = Message.JoinReply s.3.0 s.4.3.0; kind_is = refl; fields_are = cc (s.2, s.3.1, s.4.2, s.4.3.1, s.4.4) }
message_said kind.JoinRefuse fields s =
    let found = is_why s.1 s.4 in
    let same = found.fields_are in
    record { message = Message.JoinRefuse s.3.0 found.why_is; kind_is = refl; fields_are = cc (s.2, s.3.1, same) }
message_said kind.Probe fields s = record { message = Message.Probe s.3.0; kind_is = refl; fields_are = cc (s.2, s.3.1, s.4) }
message_said kind.ProbeReply fields s = record {
  message = Message.ProbeReply s.3.0 s.4.3.0;
  kind_is = refl;
  fields_are = cc (s.2, s.3.1, s.4.2, s.4.3.1, s.4.4);
}
message_said kind.LeaseRequest fields s = record {
  message = Message.LeaseRequest s.3.0 s.4.3.0 s.4.4.3.0;
  kind_is = refl;
  fields_are = cc (s.2, s.3.1, s.4.2, s.4.3.1, s.4.4.2, s.4.4.3.1, s.4.4.4);
}
message_said (kind.Grant One) fields s = record {
  message = Message.Grant s.3.0 s.4.3.0 [];
  kind_is = refl;
  fields_are = cc (s.2, s.3.1, s.4.2, s.4.3.1, s.4.4);
}
message_said (kind.Grant Two) fields s =
    record {
      message = Message.Grant s.3.0 s.4.3.0 (s.4.4.3.0 ∷ s.4.4.3.1);
      kind_is = refl;
      fields_are = cc (s.2, s.3.1, s.4.2, s.4.3.1, s.4.4.2, s.4.4.3.2, s.4.4.4);
    }
message_said kind.Deny fields s =
    let found = is_why s.1 s.4 in
    let same = found.fields_are in
    record { message = Message.Deny s.3.0 found.why_is; kind_is = refl; fields_are = cc (s.2, s.3.1, same) }
message_said kind.Handover fields s = record { message = Message.Handover s.3.0 s.4.3.0; kind_is = refl; fields_are = cc (s.2, s.3.1, s.4.2, s.4.3.1, s.4.4) }
message_said kind.Release fields s = record { message = Message.Release s.3.0; kind_is = refl; fields_are = cc (s.2, s.3.1, s.4) }
message_said kind.Confirm fields s = record { message = Message.Confirm s.3.0; kind_is = refl; fields_are = cc (s.2, s.3.1, s.4) }
message_said kind.Announce fields s = record { message = Message.Announce; kind_is = refl; fields_are = sym s }
message_said kind.Replicate fields s = record {
  message = Message.Replicate s.3.0 s.4.3.0 s.4.4.3.0 s.4.4.4.3.0;
  kind_is = refl;
  fields_are = cc (s.2, s.3.1, s.4.2, s.4.3.1, s.4.4.2, s.4.4.3.1, s.4.4.4.2, s.4.4.4.3.1, s.4.4.4.4);
}
message_said kind.ReplicaAck fields s = record {
  message = Message.ReplicaAck s.3.0 s.4.3.0 s.4.4.3.0;
  kind_is = refl;
  fields_are = cc (s.2, s.3.1, s.4.2, s.4.3.1, s.4.4.2, s.4.4.3.1, s.4.4.4);
}
message_said kind.Reclaim fields s = record {
  message = Message.Reclaim s.3.0 s.4.3.0 s.4.4.3.0 s.4.4.4.3.0;
  kind_is = refl;
  fields_are = cc (s.2, s.3.1, s.4.2, s.4.3.1, s.4.4.2, s.4.4.3.1, s.4.4.4.2, s.4.4.4.3.1, s.4.4.4.4);
}
message_said kind.ReclaimReply fields s =
    let found = is_reply 1 11 s.1 (omega arith) (omega arith) s.4 in
    let same = found.3.fields_are in
    record { message = Message.ReclaimReply s.3.0 found.3.reply_is; kind_is = refl; fields_are = cc (s.2, s.3.1, same) }

pub record IsSaid (c : Contents) : Type 0 where
  pub envelope : Envelope
  pub says : contents_of envelope ≡ c

said : (k : Kind) (fields : List Field) (c : Contents) → Shaped (whole_layout k) fields → (record { kind = k; fields = fields }) ≡ c → IsSaid c
said k fields c s is =
    let found = message_said k s.4.4.1 s.4.4.4 in
    let e : Envelope = record { sender = s.3.0; receiver = s.4.3.0; stamp = s.4.4.3.0; message = found.message } in
    let kind_is = found.kind_is in
    let rest_is = found.fields_are in
    let fields_are : (contents_of e).fields ≡ fields = cc (s.2, s.3.1, s.4.2, s.4.3.1, s.4.4.2, s.4.4.3.1, rest_is) in
    let whole : contents_of e ≡ record { kind = k; fields = fields } = rw (kind_is, fields_are) refl in
    record { envelope = e; says = whole ∙ is }

-- what a frame says, some envelope says
pub reading_said : (bytes : List ℕ) (c : Contents) → reading bytes ≡ Ok c → IsSaid c
reading_said bytes c e =
    let b = bind_ok (header_of bytes) (λ k. fields_at bytes (whole_layout k) 6 >>= says bytes k) c e in
    let d = bind_ok (fields_at bytes (whole_layout b.0) 6) (says bytes b.0) c b.2 in
    let made : Contents = record { kind = b.0; fields = d.0.0 } in
    let test = refused_if_not (eqb d.0.1 (length bytes)) (fault.Range d.0.1) made c d.2 in
    said b.0 d.0.0 c (shaped bytes (whole_layout b.0) 6 d.0 d.1) test.1
