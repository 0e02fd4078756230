-- What is spelled of fields that fit is bytes.
use Rattle.std.proofs.Common.{ℕ, zero, suc, ◌/◌, ◌%◌, ◌^◌, ◌<◌, List, [], ◌∷◌, ◌++◌, length, arith}
use Rattle.std.specs.Int.{w16, w32, w64, w128, to_be_bytes, bytes_high_first, byte_at}
use Rattle.std.specs.List.{flat_map, AllByRecursion}
use Rattle.wire_msg.specs.Words.{Envelope}
use Rattle.wire_codec.specs.Fields.{Field, spelled, AreBytes, IsFile, Fits}
use Rattle.wire_codec.specs.Spelling.{contents_of, spelling, version_number}
use Rattle.wire_codec.specs.Kinds.{number_of, version_of, kind_of}
use Rattle.wire_codec.specs.declared.kind.Kind.{Kind}
use Rattle.wire_codec.specs.declared.kind.Kind.TheVariants as kind
use Rattle.wire_codec.specs.declared.kind.Version.{Version}
use Rattle.wire_codec.specs.declared.kind.Version.TheVariants.{One, Two}

-- ---- lists of bytes

pub AreBytes-none : AreBytes []
AreBytes-none i = omega arith

pub AreBytes-more : (b : ℕ) (bytes : List ℕ) → b < 256 → AreBytes bytes → AreBytes (b ∷ bytes)
AreBytes-more b bytes small fit zero = small
AreBytes-more b bytes small fit (suc i) = fit i

pub AreBytes-append : (a b : List ℕ) → AreBytes a → AreBytes b → AreBytes (a ++ b)
AreBytes-append [] b fit fit_too = fit_too
AreBytes-append (x ∷ a) b fit fit_too = AreBytes-more x (a ++ b) (fit 0) (AreBytes-append a b (λ i. fit (suc i)) fit_too)

byte_small : (m : ℕ) → m % 256 < 256
byte_small m = omega arith

byte_at_small : (k n : ℕ) → byte_at k n < 256
byte_at_small zero n = byte_small n
byte_at_small (suc k) n = byte_small (n / 256 ^ suc k)

high_first : (k n : ℕ) → AreBytes (bytes_high_first k n)
high_first zero n = AreBytes-none
high_first (suc k) n = AreBytes-more (byte_at k n) (bytes_high_first k n) (byte_at_small k n) (high_first k n)

pub id_bytes : (n : ℕ) → AreBytes (to_be_bytes w128 n)
id_bytes n = high_first 16 n

number_bytes : (n : ℕ) → AreBytes (to_be_bytes w64 n)
number_bytes n = high_first 8 n

attempt_bytes : (n : ℕ) → AreBytes (to_be_bytes w32 n)
attempt_bytes n = high_first 4 n

hops_bytes : (n : ℕ) → AreBytes (to_be_bytes w16 n)
hops_bytes n = high_first 2 n

ids_bytes : (ids : List ℕ) → AreBytes (flat_map (to_be_bytes w128) ids)
ids_bytes [] = AreBytes-none
ids_bytes (id ∷ ids) = AreBytes-append (to_be_bytes w128 id) (flat_map (to_be_bytes w128) ids) (id_bytes id) (ids_bytes ids)

files_bytes : (files : List (List ℕ)) → AllByRecursion IsFile files → AreBytes (flat_map (λ (file : List ℕ). file) files)
files_bytes [] fit = AreBytes-none
files_bytes (file ∷ files) fit = AreBytes-append file (flat_map (λ (f : List ℕ). f) files) fit.0.1 (files_bytes files fit.1)

-- ---- fields

field_bytes : (field : Field) → Fits field → AreBytes (spelled field)
field_bytes (Field.Id id) fit = id_bytes id
field_bytes (Field.File file) fit = fit.1
field_bytes (Field.Number number) fit = number_bytes number
field_bytes (Field.Attempt attempt) fit = attempt_bytes attempt
field_bytes (Field.Hops hops) fit = hops_bytes hops
field_bytes (Field.Copies copies) fit = AreBytes-more copies [] (omega (arith, fit.1)) AreBytes-none
field_bytes (Field.Bytes bytes) fit = AreBytes-append (to_be_bytes w16 (length bytes)) bytes (hops_bytes (length bytes)) fit.1
field_bytes (Field.Ids ids) fit = AreBytes-more (length ids) (flat_map (to_be_bytes w128) ids) (omega (arith, fit.0)) (ids_bytes ids)
field_bytes (Field.Files files) fit =
    AreBytes-append (to_be_bytes w16 (length files)) (flat_map (λ (file : List ℕ). file) files) (hops_bytes (length files)) (files_bytes files fit.2)
field_bytes (Field.Tombs tombs) fit =
    AreBytes-append (to_be_bytes w16 (length tombs)) (flat_map (λ (tomb : List ℕ). tomb) tombs) (hops_bytes (length tombs)) (files_bytes tombs fit.2)
field_bytes (Field.Tag tag) fit = AreBytes-more tag [] fit AreBytes-none

pub fields_bytes : (fields : List Field) → AllByRecursion Fits fields → AreBytes (flat_map spelled fields)
fields_bytes [] fit = AreBytes-none
fields_bytes (field ∷ fields) fit = AreBytes-append (spelled field) (flat_map spelled fields) (field_bytes field fit.0) (fields_bytes fields fit.1)

-- ---- frames

version_small : (v : Version) → version_number v < 256
version_small One = omega arith
version_small Two = omega arith

kind_small : (k : Kind) → number_of k < 256
kind_small kind.Lookup = omega arith
kind_small (kind.LookupReply v) = omega arith
kind_small kind.Insert = omega arith
kind_small (kind.InsertReply v) = omega arith
kind_small kind.Fetch = omega arith
kind_small (kind.FetchReply v) = omega arith
kind_small kind.JoinRequest = omega arith
kind_small kind.JoinReply = omega arith
kind_small kind.JoinRefuse = omega arith
kind_small kind.Probe = omega arith
kind_small kind.ProbeReply = omega arith
kind_small kind.LeaseRequest = omega arith
kind_small (kind.Grant v) = omega arith
kind_small kind.Deny = omega arith
kind_small kind.Handover = omega arith
kind_small kind.Release = omega arith
kind_small kind.Confirm = omega arith
kind_small kind.Announce = omega arith
kind_small kind.Replicate = omega arith
kind_small kind.ReplicaAck = omega arith
kind_small kind.Reclaim = omega arith
kind_small kind.ReclaimReply = omega arith

pub frame_bytes : (e : Envelope) → AllByRecursion Fits (contents_of e).fields → AreBytes (spelling e)
frame_bytes e fit =
    let rest = flat_map spelled (contents_of e).fields in
    let tail = AreBytes-append (to_be_bytes w32 (length rest)) rest (attempt_bytes (length rest)) (fields_bytes (contents_of e).fields fit) in
    AreBytes-more (version_number (version_of (kind_of e.message))) (number_of (kind_of e.message) ∷ to_be_bytes w32 (length rest) ++ rest)
    (version_small (version_of (kind_of e.message)))
    (AreBytes-more (number_of (kind_of e.message)) (to_be_bytes w32 (length rest) ++ rest) (kind_small (kind_of e.message)) tail)
