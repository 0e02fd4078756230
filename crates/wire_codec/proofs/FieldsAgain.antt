-- Fields that stand in the bytes are read again.
use Rattle.std.proofs.Common.{◌≡◌, ℕ, ◌+◌, ◌*◌, ◌<◌, ◌^◌, List, [], ◌∷◌, ◌++◌, length, Option, Some, None, Ok, refl, sym, ap, subst, append_assoc, arith}
use Rattle.std.specs.List.{flat_map, AllByRecursion}
use Rattle.std.specs.Int.{w8, w16, w32, w64, w128, to_be_bytes}
use Rattle.ring_math.specs.declared.limits.TheConstants.{MOST_BYTES, MOST_ENTRIES, MOST_MEMBERS}
use Rattle.wire_msg.specs.declared.limits.TheConstants.{MOST_COPIES}
use Rattle.wire_codec.specs.Fields.{Field, spelled, Fits}
use Rattle.wire_codec.specs.Sizes.{size_of, size_of_all}
use Rattle.wire_codec.specs.Layouts.{Form, Layout, end, ◌▸◌, tagged}
use Rattle.wire_codec.specs.Reading.{field_at}
use Rattle.wire_codec.proofs.Spans.{fields_at}
use Rattle.wire_codec.proofs.Sized.{length-ids, length-files, length-spelled}
use Rattle.wire_codec.proofs.Numbers.{byte_spelled, wide8, wide16, wide32, wide64, wide128}
use Rattle.wire_codec.proofs.Places.{At, At-then, part_again, number_again, within_again}
use Rattle.wire_codec.proofs.Chunks.{ids_again, files_again}
use Rattle.wire_codec.proofs.Matching.{form_of, Matches}

-- ---- one field

abbrev IsReadAgain : List ℕ → ℕ → Field → Option Form → Type 0
IsReadAgain bytes place field None = Unit {0}
IsReadAgain bytes place field (Some form) = field_at bytes form place ≡ Ok (field, place + size_of field)

-- a byte in front is spelled as a number of one byte
At-byte : (bytes : List ℕ) (place n : ℕ) (rest : List ℕ) → n < 256 → At bytes place (n ∷ rest) → At bytes place (to_be_bytes w8 n ++ rest)
At-byte bytes place n rest fits at = subst (λ (t : List ℕ). At bytes place (t ++ rest)) (sym (byte_spelled n fits)) at

At-grouped : (bytes : List ℕ) (place : ℕ) (a b rest : List ℕ) → At bytes place ((a ++ b) ++ rest) → At bytes place (a ++ (b ++ rest))
At-grouped bytes place a b rest at = subst (At bytes place) (append_assoc a b rest) at

again : (bytes : List ℕ) (place : ℕ) (field : Field) (rest : List ℕ) → Fits field → At bytes place (spelled field ++ rest)
    → IsReadAgain bytes place field (form_of field)
again bytes place (Field.Id id) rest fits at =
    let number = number_again w128 (2 ^ 128) wide128 bytes place id rest fits at in
    rw number refl
again bytes place (Field.File file) rest fits at =
    let part = part_again bytes place 20 file rest fits.0 at in
    rw part refl
again bytes place (Field.Number number) rest fits at =
    let read = number_again w64 (2 ^ 64) wide64 bytes place number rest fits at in
    rw read refl
again bytes place (Field.Attempt attempt) rest fits at =
    let read = number_again w32 (2 ^ 32) wide32 bytes place attempt rest fits at in
    rw read refl
again bytes place (Field.Hops hops) rest fits at =
    let read = number_again w16 (2 ^ 16) wide16 bytes place hops rest fits at in
    rw read refl
again bytes place (Field.Copies copies) rest fits at =
    let small : copies < 256 = omega (arith, fits.1) in
    let read = within_again w8 (2 ^ 8) wide8 bytes 1 MOST_COPIES place copies rest small fits.0 fits.1 (At-byte bytes place copies rest small at) in
    rw read refl
again bytes place (Field.Bytes text) rest fits at =
    let n = length text in
    let small : n < 2 ^ 16 = omega (arith, fits.0) in
    let front = At-grouped bytes place (to_be_bytes w16 n) text rest at in
    let read = within_again w16 (2 ^ 16) wide16 bytes 0 MOST_BYTES place n (text ++ rest) small (omega arith) fits.0 front in
    let part = part_again bytes (place + 2) n text rest refl (At-then bytes place 2 (to_be_bytes w16 n) (text ++ rest) refl front) in
    let behind : place + 2 + n ≡ place + (2 + n) = omega arith in
    rw (read, part) (ap (λ (next : ℕ). Ok (Field.Bytes text, next)) behind)
again bytes place (Field.Ids ids) rest fits at =
    let n = length ids in
    let text = flat_map (to_be_bytes w128) ids in
    let small : n < 256 = omega (arith, fits.0) in
    let front = At-byte bytes place n (text ++ rest) small at in
    let read = within_again w8 (2 ^ 8) wide8 bytes 0 MOST_MEMBERS place n (text ++ rest) small (omega arith) fits.0 front in
    let part = part_again bytes (place + 1) (16 * n) text rest (length-ids ids) (At-then bytes place 1 (to_be_bytes w8 n) (text ++ rest) refl front) in
    let behind : place + 1 + 16 * n ≡ place + (1 + 16 * n) = omega arith in
    let cut = ids_again ids fits.1 in
    rw (read, part, cut) (ap (λ (next : ℕ). Ok (Field.Ids ids, next)) behind)
again bytes place (Field.Files files) rest fits at =
    let n = length files in
    let text = flat_map (λ (file : List ℕ). file) files in
    let small : n < 2 ^ 16 = omega (arith, fits.1) in
    let front = At-grouped bytes place (to_be_bytes w16 n) text rest at in
    let read = within_again w16 (2 ^ 16) wide16 bytes 0 MOST_ENTRIES place n (text ++ rest) small fits.0 fits.1 front in
    let part = part_again bytes (place + 2) (20 * n) text rest (length-files files fits.2)
    (At-then bytes place 2 (to_be_bytes w16 n) (text ++ rest) refl front) in
    let behind : place + 2 + 20 * n ≡ place + (2 + 20 * n) = omega arith in
    let cut = files_again files fits.2 in
    rw (read, part, cut) (ap (λ (next : ℕ). Ok (Field.Files files, next)) behind)
again bytes place (Field.Tombs tombs) rest fits at =
    let n = length tombs in
    let text = flat_map (λ (file : List ℕ). file) tombs in
    let small : n < 2 ^ 16 = omega (arith, fits.1) in
    let front = At-grouped bytes place (to_be_bytes w16 n) text rest at in
    let read = within_again w16 (2 ^ 16) wide16 bytes 1 MOST_ENTRIES place n (text ++ rest) small fits.0 fits.1 front in
    let part = part_again bytes (place + 2) (20 * n) text rest (length-files tombs fits.2)
    (At-then bytes place 2 (to_be_bytes w16 n) (text ++ rest) refl front) in
    let behind : place + 2 + 20 * n ≡ place + (2 + 20 * n) = omega arith in
    let cut = files_again tombs fits.2 in
    rw (read, part, cut) (ap (λ (next : ℕ). Ok (Field.Tombs tombs, next)) behind)
again bytes place (Field.Tag tag) rest fits at = tt

pub field_again : (bytes : List ℕ) (place : ℕ) (form : Form) (field : Field) (rest : List ℕ) → form_of field ≡ Some form → Fits field
    → At bytes place (spelled field ++ rest) → field_at bytes form place ≡ Ok (field, place + size_of field)
field_again bytes place form field rest is fits at = subst (IsReadAgain bytes place field) is (again bytes place field rest fits at)

-- ---- all fields

At-field : (bytes : List ℕ) (place : ℕ) (field : Field) (rest : List ℕ) → Fits field → At bytes place (spelled field ++ rest) →
    At bytes (place + size_of field) rest
At-field bytes place field rest fits at = At-then bytes place (size_of field) (spelled field) rest (length-spelled field fits) at

pub fields_again : (bytes : List ℕ) (place : ℕ) (l : Layout) (fields : List Field) (rest : List ℕ) → Matches l fields → AllByRecursion Fits fields
    → At bytes place (flat_map spelled fields ++ rest) → fields_at bytes l place ≡ Ok (fields, place + size_of_all fields)
fields_again bytes place end [] rest matches fits at = let same : place ≡ place + 0 = omega arith in ap (λ (next : ℕ). Ok ([], next)) same
fields_again bytes place end (field ∷ fields) rest matches fits at = absurd matches
fields_again bytes place (form ▸ more) [] rest matches fits at = absurd matches
fields_again bytes place (form ▸ more) (field ∷ fields) rest matches fits at =
    let front = At-grouped bytes place (spelled field) (flat_map spelled fields) rest at in
    let first = field_again bytes place form field (flat_map spelled fields ++ rest) matches.0 fits.0 front in
    let others = fields_again bytes (place + size_of field) more fields rest matches.1 fits.1
    (At-field bytes place field (flat_map spelled fields ++ rest) fits.0 front) in
    let behind : place + size_of field + size_of_all fields ≡ place + (size_of field + size_of_all fields) = omega arith in
    rw (first, others) (ap (λ (next : ℕ). Ok (field ∷ fields, next)) behind)
fields_again bytes place (tagged lowest highest behind) [] rest matches fits at = absurd matches
fields_again bytes place (tagged lowest highest behind) (Field.Tag tag ∷ fields) rest matches fits at =
    let front = At-byte bytes place tag (flat_map spelled fields ++ rest) fits.0 at in
    let first = within_again w8 (2 ^ 8) wide8 bytes lowest highest place tag (flat_map spelled fields ++ rest) fits.0 matches.0.0 matches.0.1 front in
    let others = fields_again bytes (place + 1) (behind tag) fields rest matches.1 fits.1
    (At-field bytes place (Field.Tag tag) (flat_map spelled fields ++ rest) fits.0 at) in
    let next_is : place + 1 + size_of_all fields ≡ place + (1 + size_of_all fields) = omega arith in
    rw (first, others) (ap (λ (next : ℕ). Ok (Field.Tag tag ∷ fields, next)) next_is)
fields_again bytes place (tagged lowest highest behind) (field ∷ fields) rest matches fits at = absurd matches.0
