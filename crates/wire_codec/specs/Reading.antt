-- Reading a frame from its front to its end, field by field, up to the first refusal that applies.
use Rattle.std.specs.Prelude.{◌≡◌, ℕ, ◌+◌, ◌-◌, ◌*◌, ◌==◌, nat_lt, nat_le, ◌&&◌, if◌then◌else◌, List, [], ◌∷◌, length}
use Rattle.std.specs.Prelude.{take, drop, map, slice_index, find, Option, Some, None, Result, Ok, Err}
use Rattle.std.specs.Simd.{first_chunks}
use Rattle.std.specs.Int.{Width, w8, w16, w32, w64, w128, byte_len, from_be_bytes}
use Rattle.ring_math.specs.declared.limits.TheConstants.{MOST_BYTES, MOST_ENTRIES, MOST_MEMBERS}
use Rattle.wire_msg.specs.declared.limits.TheConstants.{MOST_COPIES}
use Rattle.wire_codec.specs.declared.fault.FrameFault.{FrameFault}
use Rattle.wire_codec.specs.declared.fault.FrameFault.TheVariants as fault
use Rattle.wire_codec.specs.declared.kind.Kind.{Kind}
use Rattle.wire_codec.specs.declared.kind.Kind.TheVariants as kind
use Rattle.wire_codec.specs.declared.kind.Version.{Version}
use Rattle.wire_codec.specs.declared.kind.Version.TheVariants.{One, Two}
use Rattle.wire_codec.specs.Fields.{Field}
use Rattle.wire_codec.specs.Layouts.{Form, Layout, ◌▸◌, end, tagged, layout}
use Rattle.wire_codec.specs.Kinds.{number_of}

-- what is read, or the first refusal
abbrev pub Reading : Type 0 → Type 0
Reading A = Result A FrameFault

infixl 10 ◌>>=◌
abbrev pub ◌>>=◌ : {A B : Type 0} → Reading A → (A → Reading B) → Reading B
(Ok x) >>= f = f x
(Err e) >>= f = Err e

-- n bytes from the place on: the bytes may not end before
abbrev pub part_at : List ℕ → ℕ → ℕ → Reading (List ℕ)
part_at bytes place n = if nat_lt (length bytes) (place + n) then Err (fault.Short (place + n)) else Ok (take n (drop place bytes))

abbrev pub number_at : List ℕ → Width → ℕ → Reading ℕ
number_at bytes w place = part_at bytes place (byte_len w) >>= λ part. Ok (from_be_bytes w part)

-- a tag, a count, a length or copies at the place, of so many bytes: it may not be out of its range
abbrev pub number_within : List ℕ → Width → (lowest highest place : ℕ) → Reading ℕ
number_within bytes w lowest highest place = do
  n ← number_at bytes w place
  if nat_le lowest n && nat_le n highest then Ok n else Err (fault.Range place)

-- a field in this form from the place on, and the place behind it
abbrev pub field_at : List ℕ → Form → ℕ → Reading (Field × ℕ)
field_at bytes Form.Id place = number_at bytes w128 place >>= λ n. Ok (Field.Id n, place + 16)
field_at bytes Form.File place = part_at bytes place 20 >>= λ file. Ok (Field.File file, place + 20)
field_at bytes Form.Number place = number_at bytes w64 place >>= λ n. Ok (Field.Number n, place + 8)
field_at bytes Form.Attempt place = number_at bytes w32 place >>= λ n. Ok (Field.Attempt n, place + 4)
field_at bytes Form.Hops place = number_at bytes w16 place >>= λ n. Ok (Field.Hops n, place + 2)
field_at bytes Form.Copies place = number_within bytes w8 1 MOST_COPIES place >>= λ n. Ok (Field.Copies n, place + 1)
field_at bytes Form.Bytes place = do
  n ← number_within bytes w16 0 MOST_BYTES place
  part ← part_at bytes (place + 2) n
  Ok (Field.Bytes part, place + 2 + n)
field_at bytes Form.Ids place = do
  n ← number_within bytes w8 0 MOST_MEMBERS place
  part ← part_at bytes (place + 1) (16 * n)
  Ok (Field.Ids (map (from_be_bytes w128) (first_chunks 16 n part)), place + 1 + 16 * n)
field_at bytes Form.Files place = do
  n ← number_within bytes w16 0 MOST_ENTRIES place
  part ← part_at bytes (place + 2) (20 * n)
  Ok (Field.Files (first_chunks 20 n part), place + 2 + 20 * n)
field_at bytes Form.Tombs place = do
  n ← number_within bytes w16 1 MOST_ENTRIES place
  part ← part_at bytes (place + 2) (20 * n)
  Ok (Field.Tombs (first_chunks 20 n part), place + 2 + 20 * n)

-- the fields from the place on are to end where the bytes end
abbrev pub walk : List ℕ → Layout → ℕ → Reading (Unit {0})
walk bytes end place = if place == length bytes then Ok tt else Err (fault.Range place)
walk bytes (form ▸ more) place = field_at bytes form place >>= λ field. walk bytes more field.1
walk bytes (tagged lowest highest behind) place = number_within bytes w8 lowest highest place >>= λ tag. walk bytes (behind tag) (place + 1)

abbrev pub version_from : ℕ → Reading Version
version_from byte = if byte == 1 then Ok One else (if byte == 2 then Ok Two else Err (fault.Version byte))

-- the kinds of each version
abbrev pub kinds : Version → List Kind
kinds One =
    kind.Lookup ∷ kind.LookupReply One ∷ kind.Insert ∷ kind.InsertReply One ∷ kind.Fetch ∷ kind.FetchReply One ∷ kind.JoinRequest
    ∷ kind.JoinReply ∷ kind.JoinRefuse ∷ kind.Probe ∷ kind.ProbeReply ∷ kind.LeaseRequest ∷ kind.Grant One ∷ kind.Deny
    ∷ kind.Handover ∷ kind.Release ∷ kind.Confirm ∷ kind.Announce ∷ kind.Replicate ∷ kind.ReplicaAck ∷ []
kinds Two =
    kind.LookupReply Two ∷ kind.InsertReply Two ∷ kind.FetchReply Two ∷ kind.Grant Two ∷ kind.Reclaim ∷ kind.ReclaimReply ∷ []

abbrev pub numbered : Version → ℕ → Option Kind
numbered v byte = find (λ k. number_of k == byte) (kinds v)

abbrev pub kind_or : FrameFault → Option Kind → Reading Kind
kind_or e None = Err e
kind_or e (Some k) = Ok k

abbrev pub kind_from : Version → ℕ → Reading Kind
kind_from v byte = kind_or (fault.Kind byte) (numbered v byte)

-- The kind of a frame, or the refusal of its header: fewer than 6 bytes, no version, no kind of the version, or another
-- length than the stated one.
abbrev pub header_of : List ℕ → Reading Kind
header_of bytes =
    if nat_lt (length bytes) 6 then Err (fault.Short 6)
    else (do
      v ← version_from (slice_index bytes 0)
      k ← kind_from v (slice_index bytes 1)
      stated ← number_at bytes w32 2
      if stated == length bytes - 6 then Ok k else Err (fault.Length stated (length bytes - 6)))

-- the kind of a frame: behind the header stand sender, receiver and stamp, and the fields of its kind
abbrev pub framing : List ℕ → Reading Kind
framing bytes = do
  k ← header_of bytes
  ended ← walk bytes (Form.Id ▸ Form.Id ▸ Form.Number ▸ layout k) 6
  Ok k

abbrev pub refusal_in : Reading Kind → Option FrameFault
refusal_in (Ok k) = None
refusal_in (Err e) = Some e

-- the first refusal that applies, of bytes that are no frame
abbrev pub refusal : List ℕ → Option FrameFault
refusal bytes = refusal_in (framing bytes)

-- the fault is the refusal that is due, or memory was refused where none is due
abbrev pub IsDue : FrameFault → Option FrameFault → Type 0
IsDue fault.OutOfMemory due = due ≡ None
IsDue e due = due ≡ Some e

-- The function read what the definition reads, or refused as it does.
abbrev pub Reads : {X Y : Type 0} → (X → Y) → Result X FrameFault → Reading Y → Type 0
Reads view (Ok x) read = read ≡ Ok (view x)
Reads view (Err e) read = read ≡ Err e
