-- A whole frame, both ways: what spells an envelope is read as it, and what is read as an envelope spells it.
use Rattle.std.proofs.Common.{◌≡◌, ℕ, ◌+◌, ◌-◌, ◌<◌, ◌≤◌, ◌^◌, Bool, true, false, cond, eqb, ltb, List, [], ◌∷◌, ◌++◌, length, get_or, take, drop}
use Rattle.std.proofs.Common.{Option, Some, None, Ok, Err, refl, sym, ap, subst, ◌∙◌, arith, eq-eqb}
use Rattle.std.specs.Prelude.{find}
use Rattle.std.specs.List.{flat_map, AllByRecursion}
use Rattle.std.specs.Int.{w32, from_be_bytes, to_be_bytes}
use Rattle.std.proofs.lemmas.Bool.{eqb-true, ltb-false, le-ltb}
use Rattle.std.proofs.lemmas.List.{append-nil, nil_from_length, length-append, length-drop}
use Rattle.wire_msg.specs.Words.{Envelope}
use Rattle.wire_codec.specs.declared.fault.FrameFault.{FrameFault}
use Rattle.wire_codec.specs.declared.fault.FrameFault.TheVariants as fault
use Rattle.wire_codec.specs.declared.kind.Kind.{Kind}
use Rattle.wire_codec.specs.declared.kind.Kind.TheVariants as kind
use Rattle.wire_codec.specs.declared.kind.Version.{Version}
use Rattle.wire_codec.specs.declared.kind.Version.TheVariants.{One, Two}
use Rattle.wire_codec.specs.Fields.{Field, AreBytes, spelled, Fits}
use Rattle.wire_codec.specs.Sizes.{size_of_all}
use Rattle.wire_codec.specs.Layouts.{Form, ◌▸◌, layout}
use Rattle.wire_codec.specs.Kinds.{number_of, version_of}
use Rattle.wire_codec.specs.Spelling.{Contents, contents_of, version_number, spelling_of, spelling, Spells}
use Rattle.wire_codec.specs.Reading.{◌>>=◌, Reading, number_at, version_from, kinds, numbered, kind_or, kind_from, header_of}
use Rattle.wire_codec.proofs.Spans.{fields_at, reading}
use Rattle.wire_codec.proofs.Numbers.{wide32}
use Rattle.wire_codec.proofs.Places.{At, bind_ok, ok_is, refused_if_not, number_again, number_takes}
use Rattle.wire_codec.proofs.Sized.{length-fields}
use Rattle.wire_codec.proofs.FieldsAgain.{fields_again}
use Rattle.wire_codec.proofs.FieldsTaken.{fields_taken}
use Rattle.wire_codec.proofs.Messages.{message_matches, size_small, contents_tell}

abbrev done : {A : Type 0} → A → Reading A
done x = Ok x

-- ---- versions and kinds

version_again : (v : Version) → version_from (version_number v) ≡ Ok v
version_again One = refl
version_again Two = refl

version_taken : (byte : ℕ) (v : Version) → version_from byte ≡ Ok v → byte ≡ version_number v
version_taken byte v e = version_by (eqb byte 1) (eqb byte 2) refl refl e where
  version_by : (one two : Bool) → eqb byte 1 ≡ one → eqb byte 2 ≡ two → cond one (done One) (cond two (done Two) (Err (fault.Version byte))) ≡ Ok v →
      byte ≡ version_number v
  version_by true two is_one is_two found = eqb-true byte 1 is_one ∙ ap version_number (ok_is One v found)
  version_by false true is_one is_two found = eqb-true byte 2 is_two ∙ ap version_number (ok_is Two v found)
  version_by false false is_one is_two found = absurd cc

kind_again : (k : Kind) → kind_from (version_of k) (number_of k) ≡ Ok k
kind_again kind.Lookup = refl
kind_again (kind.LookupReply One) = refl
kind_again (kind.LookupReply Two) = refl
kind_again kind.Insert = refl
kind_again (kind.InsertReply One) = refl
kind_again (kind.InsertReply Two) = refl
kind_again kind.Fetch = refl
kind_again (kind.FetchReply One) = refl
kind_again (kind.FetchReply Two) = refl
kind_again kind.JoinRequest = refl
kind_again kind.JoinReply = refl
kind_again kind.JoinRefuse = refl
kind_again kind.Probe = refl
kind_again kind.ProbeReply = refl
kind_again kind.LeaseRequest = refl
kind_again (kind.Grant One) = refl
kind_again (kind.Grant Two) = refl
kind_again kind.Deny = refl
kind_again kind.Handover = refl
kind_again kind.Release = refl
kind_again kind.Confirm = refl
kind_again kind.Announce = refl
kind_again kind.Replicate = refl
kind_again kind.ReplicaAck = refl
kind_again kind.Reclaim = refl
kind_again kind.ReclaimReply = refl

found_by : {X : Type 0} (P : X → Type 0) (test : X → Bool) (y x : X) (b : Bool) (rest : Option X) → test y ≡ b → P y
    → (rest ≡ Some x → (test x ≡ true) × P x) → cond b (Some y) rest ≡ Some x → (test x ≡ true) × P x
found_by {X} P test y x true rest is here later e = let same : y ≡ x = cc in subst (λ (z : X). (test z ≡ true) × P z) same (is, here)
found_by P test y x false rest is here later e = later e

-- what a search finds passes the test, and has what all the items have
found_in : {X : Type 0} (P : X → Type 0) (test : X → Bool) (xs : List X) (x : X) → AllByRecursion P xs → find test xs ≡ Some x → (test x ≡ true) × P x
found_in P test [] x all e = absurd cc
found_in P test (y ∷ ys) x all e = found_by P test y x (test y) (find test ys) refl all.0 (found_in P test ys x all.1) e

kinds_in : (v : Version) → AllByRecursion (λ k. v ≡ version_of k) (kinds v)
kinds_in One = (
  refl,
  (
    refl,
    (
      refl,
      (
        refl,
        (
          refl,
          (
            refl,
            (
              refl,
              (refl, (refl, (refl, (refl, (refl, (refl, (refl, (refl, (refl, (refl, (refl, (refl, (refl, tt))))))))))))),
            ),
          ),
        ),
      ),
    ),
  ),
)
kinds_in Two = (refl, (refl, (refl, (refl, (refl, (refl, tt))))))

named : (v : Version) (byte : ℕ) (k : Kind) (o : Option Kind) → kind_or (fault.Kind byte) o ≡ Ok k → o ≡ Some k
named v byte k None e = absurd cc
named v byte k (Some j) e = ap (λ (i : Kind). Some i) (ok_is j k e)

kind_taken : (v : Version) (byte : ℕ) (k : Kind) → kind_from v byte ≡ Ok k → (byte ≡ number_of k) × (v ≡ version_of k)
kind_taken v byte k e =
    let found = found_in (λ (j : Kind). v ≡ version_of j) (λ (j : Kind). eqb (number_of j) byte) (kinds v) k (kinds_in v)
    (named v byte k (numbered v byte) e) in
    (sym (eqb-true (number_of k) byte found.0), found.1)

-- ---- the header

-- the front of a frame: version, kind and the length of the rest
abbrev front : Kind → ℕ → List ℕ
front k n = version_number (version_of k) ∷ number_of k ∷ to_be_bytes w32 n

header_again : (k : Kind) (rest : List ℕ) → length rest < 2 ^ 32 → header_of (front k (length rest) ++ rest) ≡ Ok k
header_again k rest fits =
    let bytes = front k (length rest) ++ rest in
    let long : ltb (length bytes) 6 ≡ false = le-ltb _ _ (omega arith) in
    let version = version_again (version_of k) in
    let the_kind = kind_again k in
    let at : At bytes 2 (to_be_bytes w32 (length rest) ++ rest) = record { left_is = refl; length_is = omega arith } in
    let stated = number_again w32 (2 ^ 32) wide32 bytes 2 (length rest) rest fits at in
    let right : eqb (length rest) (length bytes - 6) ≡ true = eq-eqb (length rest) (length bytes - 6) (omega arith) in
    rw (stated, long, version, the_kind, right) refl

-- ---- a whole frame is read again

pub reading_again : (bytes : List ℕ) (e : Envelope) → Spells bytes e → reading bytes ≡ Ok (contents_of e)
reading_again bytes e spells =
    let c = contents_of e in
    let rest = flat_map spelled c.fields in
    let size : length rest ≡ size_of_all c.fields = length-fields c.fields spells.fits in
    let small : length rest < 2 ^ 32 = omega (arith, size_small e spells.fits) in
    let whole = front c.kind (length rest) ++ rest in
    let header = header_again c.kind rest small in
    let at : At whole 6 (rest ++ []) = record { left_is = sym (append-nil rest); length_is = omega (arith, ap length (append-nil rest)) } in
    let matches = message_matches e.message in
    let fields = fields_again whole 6 (Form.Id ▸ Form.Id ▸ Form.Number ▸ layout c.kind) c.fields [] (refl, (refl, (refl, matches))) spells.fits at in
    let ended : eqb (6 + size_of_all c.fields) (length whole) ≡ true = eq-eqb _ _ (omega arith) in
    ap reading spells.bytes_are ∙ rw (header, fields, ended) refl

-- ---- what is read was spelled

not_refused : {A : Type 0} (b : Bool) (d : FrameFault) (r : Reading A) (y : A) → cond b (Err d) r ≡ Ok y → (b ≡ false) × (r ≡ Ok y)
not_refused true d r y e = absurd cc
not_refused false d r y e = (refl, e)

record IsHeaded (bytes : List ℕ) (k : Kind) : Type 0 where
  long : 6 ≤ length bytes
  version : get_or bytes 0 0 ≡ version_number (version_of k)
  number : get_or bytes 1 0 ≡ number_of k
  stated : number_at bytes w32 2 ≡ Ok (length bytes - 6)

header_taken : (bytes : List ℕ) (k : Kind) → header_of bytes ≡ Ok k → IsHeaded bytes k
header_taken bytes k e =
    let ends : ℕ → Kind → Reading Kind = λ stated j. cond (eqb stated (length bytes - 6)) (done j) (Err (fault.Length stated (length bytes - 6))) in
    let kinded : Kind → Reading Kind = λ j. number_at bytes w32 2 >>= λ stated. ends stated j in
    let versioned : Version → Reading Kind = λ v. kind_from v (get_or bytes 1 0) >>= kinded in
    let a = not_refused (ltb (length bytes) 6) (fault.Short 6) (version_from (get_or bytes 0 0) >>= versioned) k e in
    let b = bind_ok (version_from (get_or bytes 0 0)) versioned k a.1 in
    let c = bind_ok (kind_from b.0 (get_or bytes 1 0)) kinded k b.2 in
    let d = bind_ok (number_at bytes w32 2) (λ stated. ends stated c.0) k c.2 in
    let t = refused_if_not (eqb d.0 (length bytes - 6)) (fault.Length d.0 (length bytes - 6)) c.0 k d.2 in
    let the_version = version_taken (get_or bytes 0 0) b.0 b.1 in
    let the_kind = kind_taken b.0 (get_or bytes 1 0) c.0 c.1 in
    record {
      long = ltb-false _ _ a.0;
      version = the_version ∙ ap version_number (the_kind.1 ∙ ap version_of t.1);
      number = the_kind.0 ∙ ap number_of t.1;
      stated = d.1 ∙ ap (λ (n : ℕ). Ok n) (eqb-true _ _ t.0);
    }

front_two : (bytes : List ℕ) → 2 ≤ length bytes → bytes ≡ get_or bytes 0 0 ∷ get_or bytes 1 0 ∷ drop 2 bytes
front_two [] long = absurd (omega arith)
front_two (a ∷ []) long = absurd (omega arith)
front_two (a ∷ b ∷ more) long = refl

pub record IsFrameOf (bytes : List ℕ) (c : Contents) : Type 0 where
  pub bytes_are : bytes ≡ spelling_of c
  pub fits : AllByRecursion Fits c.fields

pub reading_taken : (bytes : List ℕ) (c : Contents) → AreBytes bytes → reading bytes ≡ Ok c → IsFrameOf bytes c
reading_taken bytes c fits e =
    let ended : Kind → List Field × ℕ → Reading Contents = λ k found. cond (eqb found.1 (length bytes)) (done (record { kind = k; fields = found.0 }))
    (Err (fault.Range found.1)) in
    let read : Kind → Reading (List Field × ℕ) = λ k. fields_at bytes (Form.Id ▸ Form.Id ▸ Form.Number ▸ layout k) 6 in
    let b = bind_ok (header_of bytes) (λ k. read k >>= ended k) c e in
    let k = b.0 in
    let d = bind_ok (read k) (ended k) c b.2 in
    let fields = d.0.0 in
    let made : Contents = record { kind = k; fields = fields } in
    let t = refused_if_not (eqb d.0.1 (length bytes)) (fault.Range d.0.1) made c d.2 in
    let h = header_taken bytes k b.1 in
    let found = fields_taken bytes 6 (Form.Id ▸ Form.Id ▸ Form.Number ▸ layout k) d.0 fits h.long d.1 in
    let nothing : drop d.0.1 bytes ≡ [] = nil_from_length (drop d.0.1 bytes) (omega (arith, length-drop d.0.1 bytes, eqb-true _ _ t.0)) in
    let rest : drop 6 bytes ≡ flat_map spelled fields = found.takes.parts ∙ ap (λ (r : List ℕ). flat_map spelled fields ++ r) nothing
    ∙ append-nil (flat_map spelled fields) in
    let stated = (number_takes w32 (2 ^ 32) wide32 bytes 2 (length bytes - 6) fits h.stated).0 in
    let size : length bytes - 6 ≡ length (flat_map spelled fields) = sym (length-drop 6 bytes) ∙ ap length rest in
    let tail : drop 2 bytes ≡ to_be_bytes w32 (length (flat_map spelled fields)) ++ flat_map spelled fields =
    stated.parts ∙ ap (λ (r : List ℕ). to_be_bytes w32 (length bytes - 6) ++ r) rest ∙ ap (λ (n : ℕ). to_be_bytes w32 n ++ flat_map spelled fields) size
    in
    let whole : bytes ≡ spelling_of made =
    front_two bytes (omega (arith, h.long))
    ∙ ap (λ (a : ℕ). a ∷ get_or bytes 1 0 ∷ drop 2 bytes) h.version
    ∙ ap (λ (a : ℕ). version_number (version_of k) ∷ a ∷ drop 2 bytes) h.number
    ∙ ap (λ (r : List ℕ). version_number (version_of k) ∷ number_of k ∷ r) tail
    in
    subst (IsFrameOf bytes) t.1 (record { bytes_are = whole; fits = found.fit })

-- ---- the laws

pub one_envelope : (bytes : List ℕ) (e f : Envelope) → Spells bytes e → Spells bytes f → e ≡ f
one_envelope bytes e f one two = contents_tell e f (ok_is (contents_of e) (contents_of f) (sym (reading_again bytes e one) ∙ reading_again bytes f two))

-- the four bytes of a length tell it
length_told : (m n : ℕ) (x y : List ℕ) → m < 2 ^ 32 → n < 2 ^ 32 → to_be_bytes w32 m ++ x ≡ to_be_bytes w32 n ++ y → m ≡ n
length_told m n x y m_fits n_fits e =
    let same : to_be_bytes w32 m ≡ to_be_bytes w32 n = ap (take 4) e in
    sym (wide32.again m m_fits) ∙ ap (from_be_bytes w32) same ∙ wide32.again n n_fits

size_fits : (e : Envelope) → AllByRecursion Fits (contents_of e).fields → length (flat_map spelled (contents_of e).fields) < 2 ^ 32
size_fits e fits = omega (arith, length-fields (contents_of e).fields fits, size_small e fits)

pub prefix_free : (a b rest : List ℕ) (e f : Envelope) → Spells a e → Spells b f → b ≡ a ++ rest → rest ≡ []
prefix_free a b rest e f one two longer =
    let x = flat_map spelled (contents_of e).fields in
    let y = flat_map spelled (contents_of f).fields in
    let whole : spelling f ≡ spelling e ++ rest = sym two.bytes_are ∙ longer ∙ ap (λ (t : List ℕ). t ++ rest) one.bytes_are in
    let tails : to_be_bytes w32 (length y) ++ y ≡ to_be_bytes w32 (length x) ++ (x ++ rest) = ap (drop 2) whole in
    let same = length_told (length y) (length x) y (x ++ rest) (size_fits f two.fits) (size_fits e one.fits) tails in
    nil_from_length rest (omega (arith, ap length tails, same, length-append x rest))

-- what is read as an envelope spells it
pub spells_read : (bytes : List ℕ) (e : Envelope) → AreBytes bytes → reading bytes ≡ Ok (contents_of e) → Spells bytes e
spells_read bytes e fits read =
    let frame = reading_taken bytes (contents_of e) fits read in
    record { bytes_are = frame.bytes_are; fits = frame.fits }
