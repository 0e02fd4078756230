-- Fields that were read stand in the bytes, and fit.
use Rattle.std.proofs.Common.{◌≡◌, ℕ, ◌+◌, ◌*◌, ◌≤◌, ◌^◌, List, [], ◌∷◌, ◌++◌, length, Ok, refl, sym, subst, arith}
use Rattle.std.specs.List.{flat_map, AllByRecursion}
use Rattle.std.specs.Simd.{first_chunks}
use Rattle.std.specs.Int.{w8, w16, w32, w64, w128, to_be_bytes}
use Rattle.ring_math.specs.declared.limits.TheConstants.{MOST_BYTES, MOST_ENTRIES, MOST_MEMBERS}
use Rattle.wire_msg.specs.declared.limits.TheConstants.{MOST_COPIES}
use Rattle.wire_codec.specs.Fields.{Field, AreBytes, spelled, Fits}
use Rattle.wire_codec.specs.Layouts.{Form, Layout, end, ◌▸◌, tagged}
use Rattle.wire_codec.specs.Reading.{◌>>=◌, Reading, part_at, number_at, number_within, field_at}
use Rattle.wire_codec.proofs.Spans.{fields_at}
use Rattle.wire_codec.proofs.Numbers.{byte_spelled, wide8, wide16, wide32, wide64, wide128}
use Rattle.wire_codec.proofs.Places.{Takes, Takes-then, IsPart, bind_ok, ok_is, part_takes, number_takes, within_takes}
use Rattle.wire_codec.proofs.Chunks.{ids_of, ids_taken, files_taken}

-- ---- one field

-- a field was read from the place on to the next
pub record IsRead (bytes : List ℕ) (place : ℕ) (found : Field × ℕ) : Type 0 where
  pub takes : Takes bytes place (spelled found.0) found.1
  pub fits : Fits found.0

abbrev done : Field → ℕ → Reading (Field × ℕ)
done field next = Ok (field, next)

was : (bytes : List ℕ) (place : ℕ) (field : Field) (next : ℕ) (found : Field × ℕ) → IsRead bytes place (field, next) → done field next ≡ Ok found →
    IsRead bytes place found
was bytes place field next found read e =
    let made : Field × ℕ = (field, next) in
    subst (IsRead bytes place) (ok_is made found e) read

-- behind a count of two bytes
counted : (bytes : List ℕ) (place n size : ℕ) (part : List ℕ) → Takes bytes place (to_be_bytes w16 n) (place + 2) → IsPart bytes (place + 2) size part
    → Takes bytes place (to_be_bytes w16 n ++ part) (place + 2 + size)
counted bytes place n size part count rest = Takes-then count rest.takes

pub field_taken : (bytes : List ℕ) (place : ℕ) (form : Form) (found : Field × ℕ) → AreBytes bytes → field_at bytes form place ≡ Ok found →
    IsRead bytes place found
field_taken bytes place Form.Id found fits e =
    let b = bind_ok (number_at bytes w128 place) (λ n. done (Field.Id n) (place + 16)) found e in
    let taken = number_takes w128 (2 ^ 128) wide128 bytes place b.0 fits b.1 in
    was bytes place (Field.Id b.0) (place + 16) found (record { takes = taken.0; fits = taken.1 }) b.2
field_taken bytes place Form.File found fits e =
    let b = bind_ok (part_at bytes place 20) (λ file. done (Field.File file) (place + 20)) found e in
    let part = part_takes bytes place 20 b.0 fits b.1 in
    was bytes place (Field.File b.0) (place + 20) found (record { takes = part.takes; fits = (part.len, part.are_bytes) }) b.2
field_taken bytes place Form.Number found fits e =
    let b = bind_ok (number_at bytes w64 place) (λ n. done (Field.Number n) (place + 8)) found e in
    let taken = number_takes w64 (2 ^ 64) wide64 bytes place b.0 fits b.1 in
    was bytes place (Field.Number b.0) (place + 8) found (record { takes = taken.0; fits = taken.1 }) b.2
field_taken bytes place Form.Attempt found fits e =
    let b = bind_ok (number_at bytes w32 place) (λ n. done (Field.Attempt n) (place + 4)) found e in
    let taken = number_takes w32 (2 ^ 32) wide32 bytes place b.0 fits b.1 in
    was bytes place (Field.Attempt b.0) (place + 4) found (record { takes = taken.0; fits = taken.1 }) b.2
field_taken bytes place Form.Hops found fits e =
    let b = bind_ok (number_at bytes w16 place) (λ n. done (Field.Hops n) (place + 2)) found e in
    let taken = number_takes w16 (2 ^ 16) wide16 bytes place b.0 fits b.1 in
    was bytes place (Field.Hops b.0) (place + 2) found (record { takes = taken.0; fits = taken.1 }) b.2
field_taken bytes place Form.Copies found fits e =
    let b = bind_ok (number_within bytes w8 1 MOST_COPIES place) (λ n. done (Field.Copies n) (place + 1)) found e in
    let taken = within_takes w8 (2 ^ 8) wide8 bytes 1 MOST_COPIES place b.0 fits b.1 in
    let text = subst (λ (t : List ℕ). Takes bytes place t (place + 1)) (byte_spelled b.0 taken.1) taken.0 in
    was bytes place (Field.Copies b.0) (place + 1) found (record { takes = text; fits = (taken.2, taken.3) }) b.2
field_taken bytes place Form.Bytes found fits e =
    let b = bind_ok (number_within bytes w16 0 MOST_BYTES place)
    (λ n. part_at bytes (place + 2) n >>= λ part. done (Field.Bytes part) (place + 2 + n)) found e in
    let d = bind_ok (part_at bytes (place + 2) b.0) (λ part. done (Field.Bytes part) (place + 2 + b.0)) found b.2 in
    let count = within_takes w16 (2 ^ 16) wide16 bytes 0 MOST_BYTES place b.0 fits b.1 in
    let part = part_takes bytes (place + 2) b.0 d.0 fits d.1 in
    let text = subst (λ (n : ℕ). Takes bytes place (to_be_bytes w16 n ++ d.0) (place + 2 + b.0)) (sym part.len)
    (counted bytes place b.0 b.0 d.0 count.0 part) in
    was bytes place (Field.Bytes d.0) (place + 2 + b.0) found (record { takes = text; fits = (omega (arith, part.len, count.3), part.are_bytes) }) d.2
field_taken bytes place Form.Ids found fits e =
    let b = bind_ok (number_within bytes w8 0 MOST_MEMBERS place)
    (λ n. part_at bytes (place + 1) (16 * n) >>= λ part. done (Field.Ids (ids_of n part)) (place + 1 + 16 * n)) found e in
    let d = bind_ok (part_at bytes (place + 1) (16 * b.0)) (λ part. done (Field.Ids (ids_of b.0 part)) (place + 1 + 16 * b.0)) found b.2 in
    let count = within_takes w8 (2 ^ 8) wide8 bytes 0 MOST_MEMBERS place b.0 fits b.1 in
    let part = part_takes bytes (place + 1) (16 * b.0) d.0 fits d.1 in
    let ids = ids_taken b.0 d.0 part.len part.are_bytes in
    let raw = Takes-then count.0 part.takes in
    let counted : Takes bytes place (b.0 ∷ d.0) (place + 1 + 16 * b.0) =
    subst (λ (t : List ℕ). Takes bytes place (t ++ d.0) (place + 1 + 16 * b.0)) (byte_spelled b.0 count.1) raw in
    let text = subst (λ (p : List ℕ). Takes bytes place (b.0 ∷ p) (place + 1 + 16 * b.0)) (sym ids.spelled) counted in
    let long = subst (λ (n : ℕ). Takes bytes place (n ∷ flat_map (to_be_bytes w128) (ids_of b.0 d.0)) (place + 1 + 16 * b.0)) (sym ids.len) text in
    was bytes place (Field.Ids (ids_of b.0 d.0)) (place + 1 + 16 * b.0) found (record { takes = long; fits = (omega (arith, ids.len, count.3), ids.fit) }) d.2
field_taken bytes place Form.Files found fits e =
    let b = bind_ok (number_within bytes w16 0 MOST_ENTRIES place)
    (λ n. part_at bytes (place + 2) (20 * n) >>= λ part. done (Field.Files (first_chunks 20 n part)) (place + 2 + 20 * n)) found e in
    let d = bind_ok (part_at bytes (place + 2) (20 * b.0)) (λ part. done (Field.Files (first_chunks 20 b.0 part)) (place + 2 + 20 * b.0)) found b.2 in
    let count = within_takes w16 (2 ^ 16) wide16 bytes 0 MOST_ENTRIES place b.0 fits b.1 in
    let part = part_takes bytes (place + 2) (20 * b.0) d.0 fits d.1 in
    let files = files_taken b.0 d.0 part.len part.are_bytes in
    let raw = counted bytes place b.0 (20 * b.0) d.0 count.0 part in
    let text = subst (λ (p : List ℕ). Takes bytes place (to_be_bytes w16 b.0 ++ p) (place + 2 + 20 * b.0)) (sym files.spelled) raw in
    let long = subst (λ (n : ℕ). Takes bytes place (to_be_bytes w16 n ++ flat_map (λ (file : List ℕ). file) (first_chunks 20 b.0 d.0))
    (place + 2 + 20 * b.0)) (sym files.len) text in
    was bytes place (Field.Files (first_chunks 20 b.0 d.0)) (place + 2 + 20 * b.0) found
    (record { takes = long; fits = (omega arith, omega (arith, files.len, count.3), files.fit) }) d.2
field_taken bytes place Form.Tombs found fits e =
    let b = bind_ok (number_within bytes w16 1 MOST_ENTRIES place)
    (λ n. part_at bytes (place + 2) (20 * n) >>= λ part. done (Field.Tombs (first_chunks 20 n part)) (place + 2 + 20 * n)) found e in
    let d = bind_ok (part_at bytes (place + 2) (20 * b.0)) (λ part. done (Field.Tombs (first_chunks 20 b.0 part)) (place + 2 + 20 * b.0)) found b.2 in
    let count = within_takes w16 (2 ^ 16) wide16 bytes 1 MOST_ENTRIES place b.0 fits b.1 in
    let part = part_takes bytes (place + 2) (20 * b.0) d.0 fits d.1 in
    let files = files_taken b.0 d.0 part.len part.are_bytes in
    let raw = counted bytes place b.0 (20 * b.0) d.0 count.0 part in
    let text = subst (λ (p : List ℕ). Takes bytes place (to_be_bytes w16 b.0 ++ p) (place + 2 + 20 * b.0)) (sym files.spelled) raw in
    let long = subst (λ (n : ℕ). Takes bytes place (to_be_bytes w16 n ++ flat_map (λ (file : List ℕ). file) (first_chunks 20 b.0 d.0))
    (place + 2 + 20 * b.0)) (sym files.len) text in
    was bytes place (Field.Tombs (first_chunks 20 b.0 d.0)) (place + 2 + 20 * b.0) found
    (record { takes = long; fits = (omega (arith, files.len, count.2), omega (arith, files.len, count.3), files.fit) }) d.2

-- ---- all fields

-- fields were read from the place on to the next
pub record AreRead (bytes : List ℕ) (place : ℕ) (found : List Field × ℕ) : Type 0 where
  pub takes : Takes bytes place (flat_map spelled found.0) found.1
  pub fit : AllByRecursion Fits found.0

abbrev all_done : List Field → ℕ → Reading (List Field × ℕ)
all_done fields next = Ok (fields, next)

were : (bytes : List ℕ) (place : ℕ) (fields : List Field) (next : ℕ) (found : List Field × ℕ) → AreRead bytes place (fields, next) →
    all_done fields next ≡ Ok found → AreRead bytes place found
were bytes place fields next found read e =
    let made : List Field × ℕ = (fields, next) in
    subst (AreRead bytes place) (ok_is made found e) read

pub fields_taken : (bytes : List ℕ) (place : ℕ) (l : Layout) (found : List Field × ℕ) → AreBytes bytes → place ≤ length bytes →
    fields_at bytes l place ≡ Ok found
    → AreRead bytes place found
fields_taken bytes place end found fits within e = were bytes place [] place found (record { takes = record { parts = refl; within = within }; fit = tt }) e
fields_taken bytes place (form ▸ more) found fits within e =
    let b = bind_ok (field_at bytes form place) (λ field. fields_at bytes more field.1 >>= λ others. all_done (field.0 ∷ others.0) others.1) found e in
    let d = bind_ok (fields_at bytes more b.0.1) (λ others. all_done (b.0.0 ∷ others.0) others.1) found b.2 in
    let first = field_taken bytes place form b.0 fits b.1 in
    let others = fields_taken bytes b.0.1 more d.0 fits first.takes.within d.1 in
    were bytes place (b.0.0 ∷ d.0.0) d.0.1 found (record { takes = Takes-then first.takes others.takes; fit = (first.fits, others.fit) }) d.2
fields_taken bytes place (tagged lowest highest behind) found fits within e =
    let b = bind_ok (number_within bytes w8 lowest highest place)
    (λ tag. fields_at bytes (behind tag) (place + 1) >>= λ others. all_done (Field.Tag tag ∷ others.0) others.1) found e in
    let d = bind_ok (fields_at bytes (behind b.0) (place + 1)) (λ others. all_done (Field.Tag b.0 ∷ others.0) others.1) found b.2 in
    let tag = within_takes w8 (2 ^ 8) wide8 bytes lowest highest place b.0 fits b.1 in
    let text = subst (λ (t : List ℕ). Takes bytes place t (place + 1)) (byte_spelled b.0 tag.1) tag.0 in
    let others = fields_taken bytes (place + 1) (behind b.0) d.0 fits text.within d.1 in
    were bytes place (Field.Tag b.0 ∷ d.0.0) d.0.1 found (record { takes = Takes-then text others.takes; fit = (tag.1, others.fit) }) d.2
