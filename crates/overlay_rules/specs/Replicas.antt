-- Replicas, their acknowledgements, files handed over, and replies that come back to their origin.
use Rattle.std.specs.Prelude.{ℕ, suc, Bool, not, ◌&&◌, ◌==◌, if◌then◌else◌, Option, Some, None, List, [], ◌∷◌, ◌++◌, take, drop, filter, position, slice_get}
use Rattle.ring_math.specs.Names.{Id, Number, FileId, Content}
use Rattle.ring_math.specs.Bytewise.{same_bytes}
use Rattle.ring_math.specs.Sides.{is_in}
use Rattle.ring_math.specs.Files.{Slot, slot_of, with_slot, has_room}
use Rattle.wire_msg.specs.declared.note.Note.TheVariants as note
use Rattle.wire_msg.specs.declared.reply.Answer.TheVariants as answer
use Rattle.wire_msg.specs.declared.reply.Reply.{Reply}
use Rattle.wire_msg.specs.declared.reply.Reply.TheVariants as reply
use Rattle.wire_msg.specs.Words.{ReplicaAck}
use Rattle.overlay_rules.specs.declared.request.Asked.TheVariants as asked
use Rattle.overlay_rules.specs.declared.request.Pending.{Pending}
use Rattle.overlay_rules.specs.State.{State}
use Rattle.overlay_rules.specs.Outcome.{Outcome, nothing, becomes, sent, replied}
use Rattle.overlay_rules.specs.Roots.{is_ask}
use Rattle.overlay_rules.specs.ReadyTest.{ready_test}

abbrev pub holding : State → FileId → Content → State
holding s file bytes = record s { files = with_slot s.files file (Some bytes) }

abbrev pub acknowledged : State → Id → Id → Number → FileId → Outcome
acknowledged s from origin number file = becomes s (sent from (ReplicaAck origin number file) ∷ []) []

-- Replicate, by what stands for the file
abbrev pub replicate_at : State → Id → Id → Number → FileId → Content → Option Slot → Outcome
replicate_at s from origin number file bytes None =
    if has_room s.files then acknowledged (holding s file bytes) from origin number file else nothing s
replicate_at s from origin number file bytes (Some None) = nothing s
replicate_at s from origin number file bytes (Some (Some held)) =
    if same_bytes held bytes then acknowledged s from origin number file else nothing s

abbrev pub on_replicate : State → Id → Id → Number → FileId → Content → Outcome
on_replicate s from origin number file bytes = replicate_at s from origin number file bytes (slot_of s.files file)

-- the pending insert is of this command and file, and awaits the sender
abbrev pub awaits : Id → Id → Number → FileId → Pending → Bool
awaits from origin number file p = is_ask origin number p && (same_bytes p.file file && is_in p.awaited from)

-- the pending insert at this place no longer awaits one; it is stored where none is awaited now
abbrev pub ack_taken : State → ℕ → Pending → List Id → Outcome
ack_taken s place p [] =
    replied (record s { pending = take place s.pending ++ drop (suc place) s.pending })
    asked.Insert p.origin p.number (reply.Stored (s.me ∷ p.targets))
ack_taken s place p (y ∷ ys) =
    becomes (record s { pending = take place s.pending ++ record p { awaited = y ∷ ys } ∷ drop (suc place) s.pending }) [] []

abbrev pub ack_of : State → Id → ℕ → Option Pending → Outcome
ack_of s from place None = nothing s
ack_of s from place (Some p) = ack_taken s place p (filter (λ y. not (y == from)) p.awaited)

abbrev pub ack_at : State → Id → Option ℕ → Outcome
ack_at s from None = nothing s
ack_at s from (Some place) = ack_of s from place (slice_get s.pending place)

abbrev pub on_replica_ack : State → Id → Id → Number → FileId → Outcome
on_replica_ack s from origin number file = ack_at s from (position (awaits from origin number file) s.pending)

-- Handover, by what stands for the file
abbrev pub handover_at : State → FileId → Content → Option Slot → Outcome
handover_at s file bytes None = if has_room s.files then ready_test (holding s file bytes) else nothing s
handover_at s file bytes (Some slot) = nothing s

abbrev pub on_handover : State → FileId → Content → Outcome
on_handover s file bytes = handover_at s file bytes (slot_of s.files file)

-- a reply closes its number, if it waits
abbrev pub on_reply : State → Number → Reply → Outcome
on_reply s number r =
    if is_in s.waiting number
    then becomes (record s { waiting = filter (λ n. not (n == number)) s.waiting }) [] (note.Closed number (answer.Reply r) ∷ [])
    else nothing s
