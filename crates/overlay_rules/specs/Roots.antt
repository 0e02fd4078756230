-- Fetch, Insert and Reclaim: what the root of a file does.
use Rattle.std.specs.Prelude.{ℕ, ◌-◌, not, ◌&&◌, nat_lt, ◌==◌, if◌then◌else◌, Bool, Option, Some, None, List, [], ◌∷◌, ◌++◌, length, take, filter}
use Rattle.ring_math.specs.Names.{Id, Key, Number, Hops, FileId, Content}
use Rattle.ring_math.specs.Ring.{is_nearer}
use Rattle.ring_math.specs.Bytewise.{same_bytes}
use Rattle.ring_math.specs.Keys.{key_of}
use Rattle.ring_math.specs.Sides.{leaves}
use Rattle.ring_math.specs.Files.{Slot, slot_of, with_slot, has_room}
use Rattle.wire_msg.specs.declared.note.Note.TheVariants as note
use Rattle.wire_msg.specs.declared.reply.Reply.{Reply}
use Rattle.wire_msg.specs.declared.reply.Reply.TheVariants as reply
use Rattle.wire_msg.specs.Words.{Insert, InsertReply, Fetch, Reclaim, Replicate}
use Rattle.overlay_rules.specs.declared.request.Asked.TheVariants as asked
use Rattle.overlay_rules.specs.declared.request.Pending.{Pending}
use Rattle.overlay_rules.specs.State.{State}
use Rattle.overlay_rules.specs.Outcome.{Outcome, nothing, becomes, sent, before, to_each, replied}
use Rattle.overlay_rules.specs.Routed.{one_more, way_of, served}

-- Fetch, by what stands for the file
abbrev pub fetched : State → Option Slot → Reply
fetched s None = reply.NotFound s.me
fetched s (Some None) = reply.Gone s.me
fetched s (Some (Some bytes)) = reply.Found s.me bytes

abbrev pub on_fetch : State → Id → Number → Hops → FileId → Outcome
on_fetch s origin number hops file =
    served s asked.Fetch origin number (way_of s (key_of file)) (Fetch origin number (one_more hops) file)
    (replied s asked.Fetch origin number (fetched s (slot_of s.files file)))

-- x placed among these, which are nearest first
abbrev pub placed_near : Key → Id → List Id → List Id
placed_near key x [] = x ∷ []
placed_near key x (y ∷ ys) = if is_nearer x y key then x ∷ (y ∷ ys) else y ∷ placed_near key x ys

abbrev pub nearest_to : Key → List Id → List Id
nearest_to key [] = []
nearest_to key (x ∷ xs) = placed_near key x (nearest_to key xs)

-- the copies - 1 leaves that are nearest to the key, nearest first
abbrev pub targets_of : State → FileId → ℕ → List Id
targets_of s file copies = take (copies - 1) (nearest_to (key_of file) (leaves s.me s.known))

abbrev pub is_ask : Id → Number → Pending → Bool
is_ask origin number p = (p.origin == origin) && (p.number == number)

-- without any other ask of this command, and with this one
abbrev pub with_ask : List Pending → Pending → List Pending
with_ask ps p = filter (λ q. not (is_ask p.origin p.number q)) ps ++ p ∷ []

-- the file is held: it is stored, or replicas are asked for
abbrev pub replicated : State → Id → Number → FileId → Content → List Id → Outcome
replicated s origin number file bytes [] = replied s asked.Insert origin number (reply.Stored (s.me ∷ []))
replicated s origin number file bytes (t ∷ ts) =
    becomes
    (record s {
      pending = with_ask s.pending (record { origin = origin; number = number; file = file; targets = t ∷ ts; awaited = t ∷ ts });
    })
    (to_each (t ∷ ts) (Replicate origin number file bytes)) []

-- fewer leaves than the copies beside the root's own
abbrev pub has_too_few : State → ℕ → Bool
has_too_few s copies = nat_lt (length (leaves s.me s.known)) (copies - 1)

abbrev pub too_few : State → Id → Number → Outcome
too_few s origin number = replied s asked.Insert origin number (reply.TooFew s.me (length (leaves s.me s.known)))

-- the file is put, if there is room
abbrev pub accepted : State → Id → Number → FileId → ℕ → Content → Outcome
accepted s origin number file copies bytes =
    if has_room s.files
    then before [] (note.Accepted file bytes ∷ [])
    (replicated (record s { files = with_slot s.files file (Some bytes) }) origin number file bytes (targets_of s file copies))
    else replied s asked.Insert origin number (reply.Full s.me)

-- Insert, by what stands for the file
abbrev pub inserted : State → Id → Number → FileId → ℕ → Content → Option Slot → Outcome
inserted s origin number file copies bytes (Some None) = replied s asked.Insert origin number (reply.Gone s.me)
inserted s origin number file copies bytes (Some (Some held)) =
    if not (same_bytes held bytes) then replied s asked.Insert origin number (reply.Collision s.me)
    else (if has_too_few s copies then too_few s origin number
    else replicated s origin number file bytes (targets_of s file copies))
inserted s origin number file copies bytes None =
    if has_too_few s copies then too_few s origin number else accepted s origin number file copies bytes

abbrev pub on_insert : State → Id → Number → Hops → FileId → ℕ → Content → Outcome
on_insert s origin number hops file copies bytes =
    served s asked.Insert origin number (way_of s (key_of file)) (Insert origin number (one_more hops) file copies bytes)
    (inserted s origin number file copies bytes (slot_of s.files file))

abbrev pub is_of : FileId → Pending → Bool
is_of file p = same_bytes p.file file

-- each of these pending inserts is replied
abbrev pub replied_each : State → Reply → List Pending → Outcome
replied_each s r [] = nothing s
replied_each s r (p ∷ ps) =
    before (sent p.origin (InsertReply p.number r) ∷ []) (note.Answered p.origin p.number r ∷ []) (replied_each s r ps)

-- the bytes become a tombstone, and pending inserts of the file are over
abbrev pub emptied : State → FileId → State
emptied s file = record s { files = with_slot s.files file None; pending = filter (λ p. not (is_of file p)) s.pending }

-- Reclaim, by what stands for the file
abbrev pub reclaimed : State → Id → Number → FileId → Option Slot → Outcome
reclaimed s origin number file None = replied s asked.Reclaim origin number (reply.NotFound s.me)
reclaimed s origin number file (Some None) = replied s asked.Reclaim origin number (reply.Reclaimed s.me)
reclaimed s origin number file (Some (Some bytes)) =
    let ended : Outcome = replied_each (emptied s file) (reply.Gone s.me) (filter (is_of file) s.pending) in
    before ended.sends (note.Reclaimed file ∷ ended.notes) (replied (emptied s file) asked.Reclaim origin number (reply.Reclaimed s.me))

abbrev pub on_reclaim : State → Id → Number → Hops → FileId → Outcome
on_reclaim s origin number hops file =
    served s asked.Reclaim origin number (way_of s (key_of file)) (Reclaim origin number (one_more hops) file)
    (reclaimed s origin number file (slot_of s.files file))
