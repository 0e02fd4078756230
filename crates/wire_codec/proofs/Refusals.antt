-- Reading refuses bytes for what they are, and never for want of memory.
use Rattle.std.proofs.Common.{◌≡◌, ℕ, ◌+◌, ◌-◌, ◌*◌, Bool, true, false, cond, eqb, ltb, List, ◌∷◌, length, take, drop, get_or, Option, Some, None, Ok}
use Rattle.std.proofs.Common.{Err, refl, ap, sym, subst, ◌∙◌, ◌≢◌}
use Rattle.std.specs.Prelude.{nat_le, ◌&&◌}
use Rattle.std.specs.Int.{Width, w8, w16, w32, w64, w128, byte_len, from_be_bytes}
use Rattle.ring_math.specs.declared.limits.TheConstants.{MOST_BYTES, MOST_ENTRIES, MOST_MEMBERS}
use Rattle.wire_msg.specs.declared.limits.TheConstants.{MOST_COPIES}
use Rattle.wire_msg.specs.Words.{Envelope}
use Rattle.wire_codec.specs.declared.fault.FrameFault.{FrameFault}
use Rattle.wire_codec.specs.declared.fault.FrameFault.TheVariants as fault
use Rattle.wire_codec.specs.declared.kind.Kind.{Kind}
use Rattle.wire_codec.specs.declared.kind.Version.TheVariants.{One, Two}
use Rattle.wire_codec.specs.Fields.{Field, AreBytes}
use Rattle.wire_codec.specs.Kinds.{kind_of}
use Rattle.wire_codec.specs.Layouts.{Form, Layout, end, ◌▸◌, tagged, layout}
use Rattle.wire_codec.specs.Spelling.{Contents, contents_of, Spells}
use Rattle.wire_codec.specs.Reading.{◌>>=◌, Reading, part_at, number_at, number_within, field_at, walk, version_from, numbered, kind_or, kind_from}
use Rattle.wire_codec.specs.Reading.{header_of, framing, refusal_in, refusal, IsDue}
use Rattle.wire_codec.specs.Values.{values_at, envelope_at}
use Rattle.wire_codec.proofs.Spans.{fields_at, reading, whole_layout, says, values_is, framing_is}
use Rattle.wire_codec.proofs.Places.{bind_ok, ok_is, refused_if_not}
use Rattle.wire_codec.proofs.Frames.{reading_again, spells_read}
use Rattle.wire_codec.proofs.Shapes.{reading_said}

abbrev pub IsOfBytes : FrameFault → Type 0
IsOfBytes fault.OutOfMemory = ⊥
IsOfBytes _ = Unit {0}

abbrev pub RefusesBytes : {A : Type 0} → Reading A → Type 0
RefusesBytes (Ok x) = Unit {0}
RefusesBytes (Err e) = IsOfBytes e

then_refuses : {A B : Type 0} (r : Reading A) (f : A → Reading B) → RefusesBytes r → ((x : A) → RefusesBytes (f x)) → RefusesBytes (r >>= f)
then_refuses (Ok x) f first then = then x
then_refuses (Err e) f first then = first

choice_refuses : {A : Type 0} (b : Bool) (x y : Reading A) → RefusesBytes x → RefusesBytes y → RefusesBytes (cond b x y)
choice_refuses true x y first second = first
choice_refuses false x y first second = second

part_refuses : (bytes : List ℕ) (place n : ℕ) → RefusesBytes (part_at bytes place n)
part_refuses bytes place n = choice_refuses (ltb (length bytes) (place + n)) (Err (fault.Short (place + n))) (Ok (take n (drop place bytes))) tt tt

number_refuses : (bytes : List ℕ) (w : Width) (place : ℕ) → RefusesBytes (number_at bytes w place)
number_refuses bytes w place = then_refuses (part_at bytes place (byte_len w)) (λ part. Ok (from_be_bytes w part)) (part_refuses bytes place (byte_len w))
    (λ part. tt)

within_refuses : (bytes : List ℕ) (w : Width) (lowest highest place : ℕ) → RefusesBytes (number_within bytes w lowest highest place)
within_refuses bytes w lowest highest place =
    then_refuses (number_at bytes w place) (λ n. cond (nat_le lowest n && nat_le n highest) (Ok n) (Err (fault.Range place))) (number_refuses bytes w place)
    (λ n. choice_refuses (nat_le lowest n && nat_le n highest) (Ok n) (Err (fault.Range place)) tt tt)

field_refuses : (bytes : List ℕ) (form : Form) (place : ℕ) → RefusesBytes (field_at bytes form place)
field_refuses bytes Form.Id place = then_refuses (number_at bytes w128 place) _ (number_refuses bytes w128 place) (λ n. tt)
field_refuses bytes Form.File place = then_refuses (part_at bytes place 20) _ (part_refuses bytes place 20) (λ part. tt)
field_refuses bytes Form.Number place = then_refuses (number_at bytes w64 place) _ (number_refuses bytes w64 place) (λ n. tt)
field_refuses bytes Form.Attempt place = then_refuses (number_at bytes w32 place) _ (number_refuses bytes w32 place) (λ n. tt)
field_refuses bytes Form.Hops place = then_refuses (number_at bytes w16 place) _ (number_refuses bytes w16 place) (λ n. tt)
field_refuses bytes Form.Copies place = then_refuses (number_within bytes w8 1 MOST_COPIES place) _ (within_refuses bytes w8 1 MOST_COPIES place) (λ n. tt)
field_refuses bytes Form.Bytes place =
    then_refuses (number_within bytes w16 0 MOST_BYTES place) _ (within_refuses bytes w16 0 MOST_BYTES place)
    (λ n. then_refuses (part_at bytes (place + 2) n) _ (part_refuses bytes (place + 2) n) (λ part. tt))
field_refuses bytes Form.Ids place =
    then_refuses (number_within bytes w8 0 MOST_MEMBERS place) _ (within_refuses bytes w8 0 MOST_MEMBERS place)
    (λ n. then_refuses (part_at bytes (place + 1) (16 * n)) _ (part_refuses bytes (place + 1) (16 * n)) (λ part. tt))
field_refuses bytes Form.Files place =
    then_refuses (number_within bytes w16 0 MOST_ENTRIES place) _ (within_refuses bytes w16 0 MOST_ENTRIES place)
    (λ n. then_refuses (part_at bytes (place + 2) (20 * n)) _ (part_refuses bytes (place + 2) (20 * n)) (λ part. tt))
field_refuses bytes Form.Tombs place =
    then_refuses (number_within bytes w16 1 MOST_ENTRIES place) _ (within_refuses bytes w16 1 MOST_ENTRIES place)
    (λ n. then_refuses (part_at bytes (place + 2) (20 * n)) _ (part_refuses bytes (place + 2) (20 * n)) (λ part. tt))

pub walk_refuses : (bytes : List ℕ) (l : Layout) (place : ℕ) → RefusesBytes (walk bytes l place)
walk_refuses bytes end place = choice_refuses (eqb place (length bytes)) (Ok tt) (Err (fault.Range place)) tt tt
walk_refuses bytes (form ▸ more) place = then_refuses (field_at bytes form place) _ (field_refuses bytes form place) (λ field. walk_refuses bytes more field.1)
walk_refuses bytes (tagged lowest highest behind) place =
    then_refuses (number_within bytes w8 lowest highest place) _ (within_refuses bytes w8 lowest highest place)
    (λ tag. walk_refuses bytes (behind tag) (place + 1))

version_refuses : (byte : ℕ) → RefusesBytes (version_from byte)
version_refuses byte =
    choice_refuses (eqb byte 1) (Ok One) (cond (eqb byte 2) (Ok Two) (Err (fault.Version byte))) tt
    (choice_refuses (eqb byte 2) (Ok Two) (Err (fault.Version byte)) tt tt)

named_refuses : (byte : ℕ) (o : Option Kind) → RefusesBytes (kind_or (fault.Kind byte) o)
named_refuses byte None = tt
named_refuses byte (Some k) = tt

header_refuses : (bytes : List ℕ) → RefusesBytes (header_of bytes)
header_refuses bytes =
    choice_refuses (ltb (length bytes) 6) (Err (fault.Short 6)) _ tt
    (then_refuses (version_from (get_or bytes 0 0)) _ (version_refuses (get_or bytes 0 0))
    (λ v. then_refuses (kind_from v (get_or bytes 1 0)) _ (named_refuses (get_or bytes 1 0) (numbered v (get_or bytes 1 0)))
    (λ k. then_refuses (number_at bytes w32 2) _ (number_refuses bytes w32 2)
    (λ stated. choice_refuses (eqb stated (length bytes - 6)) (Ok k) (Err (fault.Length stated (length bytes - 6))) tt tt))))

framing_refuses : (bytes : List ℕ) → RefusesBytes (framing bytes)
framing_refuses bytes =
    then_refuses (header_of bytes) _ (header_refuses bytes)
    (λ k. then_refuses (walk bytes (whole_layout k) 6) _ (walk_refuses bytes (whole_layout k) 6) (λ ended. tt))

pub due : (e : FrameFault) → IsOfBytes e → IsDue e (Some e)
due fault.OutOfMemory of_bytes = absurd of_bytes
due (fault.Short need) of_bytes = refl
due (fault.Version found) of_bytes = refl
due (fault.Kind found) of_bytes = refl
due (fault.Length stated found) of_bytes = refl
due (fault.Range place) of_bytes = refl

-- what the walk refuses is due
pub refused_is_due : (bytes : List ℕ) (e : FrameFault) → framing bytes ≡ Err e → IsDue e (refusal bytes)
refused_is_due bytes e refused =
    let of_bytes : IsOfBytes e = subst (λ (r : Reading Kind). RefusesBytes r) refused (framing_refuses bytes) in
    subst (λ (r : Reading Kind). IsDue e (refusal_in r)) (sym refused) (due e of_bytes)

-- what spells an envelope has its kind
pub framing_again : (bytes : List ℕ) (e : Envelope) → Spells bytes e → framing bytes ≡ Ok (kind_of e.message)
framing_again bytes e spells = framing_is bytes ∙ ap (λ (r : Reading Contents). r >>= λ (c : Contents). Ok c.kind) (reading_again bytes e spells)

pub never_refused : (bytes : List ℕ) (e : Envelope) → Spells bytes e → refusal bytes ≡ None
never_refused bytes e spells = ap refusal_in (framing_again bytes e spells)

-- what is refused spells nothing
pub refused_spells_none : (bytes : List ℕ) (f : FrameFault) (e : Envelope) → framing bytes ≡ Err f → Spells bytes e → ⊥
refused_spells_none bytes f e refused spells =
    let read = framing_again bytes e spells in
    cc

-- ---- what the walk lets pass is a frame

-- the bytes are a frame of this kind, which says this
pub record IsRead (bytes : List ℕ) (k : Kind) : Type 0 where
  pub contents : Contents
  pub kind_is : contents.kind ≡ k
  pub read : reading bytes ≡ Ok contents

pub passed : (bytes : List ℕ) (k : Kind) → framing bytes ≡ Ok k → IsRead bytes k
passed bytes k e =
    let said : Contents → Reading Kind = λ c. Ok c.kind in
    let b = bind_ok (reading bytes) said k (sym (framing_is bytes) ∙ e) in
    record { contents = b.0; kind_is = ok_is b.0.kind k b.2; read = b.1 }

-- some envelope is spelled by it
pub passed_spells : (bytes : List ℕ) (k : Kind) → AreBytes bytes → framing bytes ≡ Ok k → (e : Envelope) × Spells bytes e
passed_spells bytes k fits e =
    let frame = passed bytes k e in
    let said = reading_said bytes frame.contents frame.read in
    (said.envelope, spells_read bytes said.envelope fits (frame.read ∙ ap (λ (c : Contents). Ok c) (sym said.says)))

-- ---- what is read of it

envelope_read : (bytes : List ℕ) (k : Kind) (c : Contents) (found : List Field × ℕ) → fields_at bytes (whole_layout k) 6 ≡ Ok found
    → (record { kind = k; fields = found.0 }) ≡ c → envelope_at bytes k ≡ Ok c
envelope_read bytes k c found e is =
    let rest_of : Field → List Field × ℕ → Reading (List Field × ℕ) = λ field others. Ok (field ∷ others.0, others.1) in
    let a = bind_ok (field_at bytes Form.Id 6) (λ f. fields_at bytes (Form.Id ▸ Form.Number ▸ layout k) f.1 >>= rest_of f.0) found e in
    let x = bind_ok (fields_at bytes (Form.Id ▸ Form.Number ▸ layout k) a.0.1) (rest_of a.0.0) found a.2 in
    let b = bind_ok (field_at bytes Form.Id a.0.1) (λ f. fields_at bytes (Form.Number ▸ layout k) f.1 >>= rest_of f.0) x.0 x.1 in
    let y = bind_ok (fields_at bytes (Form.Number ▸ layout k) b.0.1) (rest_of b.0.0) x.0 b.2 in
    let d = bind_ok (field_at bytes Form.Number b.0.1) (λ f. fields_at bytes (layout k) f.1 >>= rest_of f.0) y.0 y.1 in
    let z = bind_ok (fields_at bytes (layout k) d.0.1) (rest_of d.0.0) y.0 d.2 in
    let values : values_at bytes (layout k) d.0.1 ≡ Ok z.0.0 = values_is bytes (layout k) d.0.1
    ∙ ap (λ (r : Reading (List Field × ℕ)). r >>= λ (o : List Field × ℕ). Ok o.0) z.1 in
    let whole : a.0.0 ∷ b.0.0 ∷ d.0.0 ∷ z.0.0 ≡ found.0 =
    ap (λ (o : List Field × ℕ). a.0.0 ∷ b.0.0 ∷ o.0) (ok_is (d.0.0 ∷ z.0.0, z.0.1) y.0 z.2)
    ∙ ap (λ (o : List Field × ℕ). a.0.0 ∷ o.0) (ok_is (b.0.0 ∷ y.0.0, y.0.1) x.0 y.2)
    ∙ ap (λ (o : List Field × ℕ). o.0) (ok_is (a.0.0 ∷ x.0.0, x.0.1) found x.2)
    in
    let first = a.1 in
    let second = b.1 in
    let third = d.1 in
    rw (first, second, third, values) (ap (λ (fields : List Field). Ok (record { kind = k; fields = fields })) whole ∙ ap (λ (c : Contents). Ok c) is)

reading_gives : (bytes : List ℕ) (c : Contents) → reading bytes ≡ Ok c → envelope_at bytes c.kind ≡ Ok c
reading_gives bytes c e =
    let b = bind_ok (header_of bytes) (λ k. fields_at bytes (whole_layout k) 6 >>= says bytes k) c e in
    let d = bind_ok (fields_at bytes (whole_layout b.0) 6) (says bytes b.0) c b.2 in
    let made : Contents = record { kind = b.0; fields = d.0.0 } in
    let test = refused_if_not (eqb d.0.1 (length bytes)) (fault.Range d.0.1) made c d.2 in
    let whole = envelope_read bytes b.0 c d.0 d.1 test.1 in
    subst (λ (k : Kind). envelope_at bytes k ≡ Ok c) (ap (λ (x : Contents). x.kind) test.1) whole

passed_gives : (bytes : List ℕ) (k : Kind) (frame : IsRead bytes k) → envelope_at bytes k ≡ Ok frame.contents
passed_gives bytes k frame = subst (λ (j : Kind). envelope_at bytes j ≡ Ok frame.contents) frame.kind_is (reading_gives bytes frame.contents frame.read)

-- an envelope that was read of it is spelled by it
pub given_spells : (bytes : List ℕ) (k : Kind) (e : Envelope) → AreBytes bytes → framing bytes ≡ Ok k → envelope_at bytes k ≡ Ok (contents_of e) →
    Spells bytes e
given_spells bytes k e fits pass given =
    let frame = passed bytes k pass in
    let same : frame.contents ≡ contents_of e = ok_is frame.contents (contents_of e) (sym (passed_gives bytes k frame) ∙ given) in
    spells_read bytes e fits (frame.read ∙ ap (λ (c : Contents). Ok c) same)

-- it is read, unless memory is refused
pub given_or_memory : (bytes : List ℕ) (k : Kind) (f : FrameFault) → framing bytes ≡ Ok k → (f ≢ fault.OutOfMemory → envelope_at bytes k ≡ Err f) →
    f ≡ fault.OutOfMemory
given_or_memory bytes k fault.OutOfMemory pass given = refl
given_or_memory bytes k f pass given =
    let frame = passed bytes k pass in
    let read = passed_gives bytes k frame in
    let refused = given (λ same. absurd cc) in
    absurd cc
