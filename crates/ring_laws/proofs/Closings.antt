-- How a step closes commands: by the reply that came, or by what became of a join. Each note Closed of a step is one of these.
use Rattle.std.proofs.Common.{◌≡◌, ℕ, true, false, not, ◌&&◌, ◌==◌, Option, Some, None, List, [], ◌∷◌, ◌++◌, filter, position, slice_get, refl, sym, subst, ap}
use Rattle.std.proofs.Common.{rules}
use Rattle.std.proofs.lemmas.Bool.{cond_both}
use Rattle.ring_math.specs.Names.{Id, Key, FileId, Content, Attempt, Number, Hops}
use Rattle.ring_math.specs.Bytewise.{same_bytes}
use Rattle.ring_math.specs.Keys.{key_of}
use Rattle.ring_math.specs.Sides.{is_in}
use Rattle.ring_math.specs.Files.{Slot, slot_of, with_slot, has_room}
use Rattle.coverage.specs.GapFiles.{Lists}
use Rattle.wire_msg.specs.declared.command.Command.TheVariants as command
use Rattle.wire_msg.specs.declared.note.Note.{Note}
use Rattle.wire_msg.specs.declared.note.Note.TheVariants as note
use Rattle.wire_msg.specs.declared.reply.Answer.{Answer}
use Rattle.wire_msg.specs.declared.reply.Answer.TheVariants as answer
use Rattle.wire_msg.specs.declared.reply.Own.{Own}
use Rattle.wire_msg.specs.declared.reply.Own.TheVariants as own
use Rattle.wire_msg.specs.declared.reply.Reply.{Reply}
use Rattle.wire_msg.specs.declared.reply.Reply.TheVariants as reply
use Rattle.wire_msg.specs.declared.reply.Why.{Why}
use Rattle.wire_msg.specs.Words.{Message, Lookup, LookupReply, Insert, InsertReply, Fetch, FetchReply, JoinRequest, JoinReply, JoinRefuse, Probe, ProbeReply}
use Rattle.wire_msg.specs.Words.{LeaseRequest, Grant, Deny, Handover, Release, Confirm, Announce, Replicate, ReplicaAck, Reclaim, ReclaimReply}
use Rattle.overlay_rules.specs.declared.request.Asked.{Asked}
use Rattle.overlay_rules.specs.declared.request.Asked.TheVariants as asked
use Rattle.overlay_rules.specs.declared.request.Pending.{Pending}
use Rattle.overlay_rules.specs.declared.request.Way.{Way}
use Rattle.overlay_rules.specs.declared.request.Way.TheVariants as way
use Rattle.overlay_rules.specs.State.{State, Phase, Waiting, Asking, Probing, Leasing, Ready, is_joining}
use Rattle.overlay_rules.specs.Outcome.{Outcome, Input, Command, Comes, Noise, nothing, before}
use Rattle.overlay_rules.specs.Routed.{way_of, served, on_lookup}
use Rattle.overlay_rules.specs.Roots.{targets_of, replicated, has_too_few, accepted, inserted, on_insert, is_of, replied_each, emptied, reclaimed, on_reclaim}
use Rattle.overlay_rules.specs.Roots.{on_fetch}
use Rattle.overlay_rules.specs.Replicas.{holding, replicate_at, ack_taken, ack_of, ack_at, awaits, handover_at, on_reply}
use Rattle.overlay_rules.specs.ReadyTest.{ready_test_in, has_all}
use Rattle.overlay_rules.specs.Gates.{asked_for}
use Rattle.overlay_rules.specs.Gatekeeper.{cleared, is_left_to, gated_reach}
use Rattle.overlay_rules.specs.Step.{step, waits_for}
use Rattle.overlay_rules.proofs.Each.{Each, Each-append, Each-both}
use Rattle.overlay_rules.proofs.Seat.{Seat, IsServiceInput, IsServiceNote, IsReply, StopCause}
use Rattle.overlay_rules.proofs.Seat as rule

-- the command of a phase
abbrev pub IsJoinOf : Phase → Number → Type 0
IsJoinOf (Asking a n) m = n ≡ m
IsJoinOf (Probing a n probed) m = n ≡ m
IsJoinOf (Leasing a n l r from_left from_right) m = n ≡ m
IsJoinOf (Waiting a) m = ⊥
IsJoinOf (Ready a l r) m = ⊥

-- a joiner becomes ready by its join n between l and r, and its gates stay
pub record JoinsBetween (s : State) (o : Outcome) (n : Number) (l r : Id) : Type 0 where
  pub attempt : Attempt
  pub from_left : Option Lists
  pub from_right : Option Lists
  pub was : s.phase ≡ Leasing attempt n l r from_left from_right
  pub now : o.state.phase ≡ Ready attempt l r
  pub left_gate : o.state.left_gate ≡ s.left_gate
  pub right_gate : o.state.right_gate ≡ s.right_gate

-- how command n of s was closed with this answer
pub data Closing (P : Number → Reply → Type 0) (s : State) (i : Input) (o : Outcome) : Number → Answer → Type 0 where
  by_reply : (n : Number) (r : Reply) → P n r → Closing P s i o n (answer.Reply r)
  by_joining : (n : Number) (l r : Id) → JoinsBetween s o n l r → Closing P s i o n (answer.Joined l r)
  by_refusal : (from : Id) (a : Attempt) (n : Number) (w : Why) → i ≡ Comes from (JoinRefuse a w) → IsJoinOf s.phase n →
      Closing P s i o n (answer.Denied from w)
  by_denial : (from : Id) (a : Attempt) (n : Number) (w : Why) → i ≡ Comes from (Deny a w) → IsJoinOf s.phase n → Closing P s i o n (answer.Denied from w)
  by_giving_up : (n m : Number) → i ≡ Command m command.GiveUp → IsJoinOf s.phase n → is_joining s.phase ≡ true →
      Closing P s i o n (answer.Stopped s.me own.GivenUp)
  as_not_begun : (n : Number) (via : Id) (reason : Own) → i ≡ Command n (command.Join via) → StopCause s.phase reason →
      Closing P s i o n (answer.Stopped s.me reason)
  as_given_up : (n : Number) → i ≡ Command n command.GiveUp → is_joining s.phase ≡ true → Closing P s i o n answer.GaveUp
  as_idle : (n : Number) → i ≡ Command n command.GiveUp → is_joining s.phase ≡ false → Closing P s i o n answer.NothingToGiveUp

abbrev pub NoteCloses : (Number → Reply → Type 0) → State → Input → Outcome → Note → Type 0
NoteCloses P s i o (note.Closed n a) = Closing P s i o n a
NoteCloses P s i o (note.Delivered origin n key hops) = Unit {0}
NoteCloses P s i o (note.Answered origin n r) = Unit {0}
NoteCloses P s i o (note.Accepted file bytes) = Unit {0}
NoteCloses P s i o (note.Reclaimed file) = Unit {0}

pub record AllClose (P : Number → Reply → Type 0) (s : State) (i : Input) (o : Outcome) : Type 0 where
  pub each : Each (NoteCloses P s i o) o.notes

-- ---- lookups and files close only what a reply answers

-- what a message shows of the reply that it brings
abbrev pub MessageReplies : (Number → Reply → Type 0) → Message → Type 0
MessageReplies P (LookupReply n r) = P n r
MessageReplies P (InsertReply n r) = P n r
MessageReplies P (FetchReply n r) = P n r
MessageReplies P (ReclaimReply n r) = P n r
MessageReplies P (Lookup origin number key hops) = Unit {0}
MessageReplies P (Insert origin number hops file copies bytes) = Unit {0}
MessageReplies P (Fetch origin number hops file) = Unit {0}
MessageReplies P (Reclaim origin number hops file) = Unit {0}
MessageReplies P (JoinRequest joiner a hops) = Unit {0}
MessageReplies P (JoinReply a members) = Unit {0}
MessageReplies P (JoinRefuse a w) = Unit {0}
MessageReplies P (Probe a) = Unit {0}
MessageReplies P (ProbeReply a members) = Unit {0}
MessageReplies P (LeaseRequest a l r) = Unit {0}
MessageReplies P (Grant a manifest tombs) = Unit {0}
MessageReplies P (Deny a w) = Unit {0}
MessageReplies P (Handover file bytes) = Unit {0}
MessageReplies P (Release a) = Unit {0}
MessageReplies P (Confirm a) = Unit {0}
MessageReplies P Announce = Unit {0}
MessageReplies P (Replicate origin number file bytes) = Unit {0}
MessageReplies P (ReplicaAck origin number file) = Unit {0}

abbrev pub InputReplies : (Number → Reply → Type 0) → Input → Type 0
InputReplies P (Comes from m) = MessageReplies P m
InputReplies P (Command n c) = Unit {0}
InputReplies P Noise = Unit {0}

-- of the closings with a reply: what the reply shows
abbrev pub AnswerReplies : (Number → Reply → Type 0) → Number → Answer → Type 0
AnswerReplies P n (answer.Reply r) = P n r
AnswerReplies P n (answer.Joined l r) = Unit {0}
AnswerReplies P n (answer.Denied node w) = Unit {0}
AnswerReplies P n (answer.Stopped node reason) = Unit {0}
AnswerReplies P n answer.GaveUp = Unit {0}
AnswerReplies P n answer.NothingToGiveUp = Unit {0}

abbrev pub NoteReplies : (Number → Reply → Type 0) → Note → Type 0
NoteReplies P (note.Closed n a) = AnswerReplies P n a
NoteReplies P (note.Delivered origin n key hops) = Unit {0}
NoteReplies P (note.Answered origin n r) = Unit {0}
NoteReplies P (note.Accepted file bytes) = Unit {0}
NoteReplies P (note.Reclaimed file) = Unit {0}

pub record AllReply (P : Number → Reply → Type 0) (W : List Number → Type 0) (o : Outcome) : Type 0 where
  pub each : Each (NoteReplies P) o.notes
  pub waiting : W o.state.waiting

-- the numbers that wait after an input of lookups and files, where they change
abbrev pub MessageWaits : (List Number → Type 0) → List Number → Message → Type 0
MessageWaits W ws (LookupReply n r) = W (filter (λ m. not (m == n)) ws)
MessageWaits W ws (InsertReply n r) = W (filter (λ m. not (m == n)) ws)
MessageWaits W ws (FetchReply n r) = W (filter (λ m. not (m == n)) ws)
MessageWaits W ws (ReclaimReply n r) = W (filter (λ m. not (m == n)) ws)
MessageWaits W ws (Lookup origin number key hops) = Unit {0}
MessageWaits W ws (Insert origin number hops file copies bytes) = Unit {0}
MessageWaits W ws (Fetch origin number hops file) = Unit {0}
MessageWaits W ws (Reclaim origin number hops file) = Unit {0}
MessageWaits W ws (JoinRequest joiner a hops) = Unit {0}
MessageWaits W ws (JoinReply a members) = Unit {0}
MessageWaits W ws (JoinRefuse a w) = Unit {0}
MessageWaits W ws (Probe a) = Unit {0}
MessageWaits W ws (ProbeReply a members) = Unit {0}
MessageWaits W ws (LeaseRequest a l r) = Unit {0}
MessageWaits W ws (Grant a manifest tombs) = Unit {0}
MessageWaits W ws (Deny a w) = Unit {0}
MessageWaits W ws (Handover file bytes) = Unit {0}
MessageWaits W ws (Release a) = Unit {0}
MessageWaits W ws (Confirm a) = Unit {0}
MessageWaits W ws Announce = Unit {0}
MessageWaits W ws (Replicate origin number file bytes) = Unit {0}
MessageWaits W ws (ReplicaAck origin number file) = Unit {0}

abbrev pub InputWaits : (List Number → Type 0) → List Number → Input → Type 0
InputWaits W ws (Comes from m) = MessageWaits W ws m
InputWaits W ws (Command n c) = W (ws ++ n ∷ [])
InputWaits W ws Noise = Unit {0}

module _ (P : Number → Reply → Type 0) (W : List Number → Type 0) where
  quiet : (t : State) (q : W t.waiting) → AllReply P W (nothing t)
  quiet t q = record { each = tt; waiting = q }

  served_replies : (t : State) (q : W t.waiting) (what : Asked) (o : Id) (n : Number) (w : Way) (next : Message) (here : Outcome) → AllReply P W here →
      AllReply P W (served t what o n w next here)
  served_replies t q what o n way.NotReady next here h = record { each = (tt, tt); waiting = q }
  served_replies t q what o n way.Here next here h = h
  served_replies t q what o n (way.Gap j) next here h = record { each = (tt, tt); waiting = q }
  served_replies t q what o n (way.To y) next here h = record { each = tt; waiting = q }

  lookup_replies : (t : State) (q : W t.waiting) (o : Id) (n : Number) (key : Key) (hops : Hops) → AllReply P W (on_lookup t o n key hops)
  lookup_replies t q o n key hops = served_replies t q asked.Lookup o n (way_of t key) _ _ (record { each = (tt, (tt, tt)); waiting = q })

  fetch_replies : (t : State) (q : W t.waiting) (o : Id) (n : Number) (hops : Hops) (file : FileId) → AllReply P W (on_fetch t o n hops file)
  fetch_replies t q o n hops file = served_replies t q asked.Fetch o n (way_of t (key_of file)) _ _ (record { each = (tt, tt); waiting = q })

  replicated_replies : (t : State) (q : W t.waiting) (o : Id) (n : Number) (file : FileId) (bytes : Content) (targets : List Id) →
      AllReply P W (replicated t o n file bytes targets)
  replicated_replies t q o n file bytes [] = record { each = (tt, tt); waiting = q }
  replicated_replies t q o n file bytes (x ∷ xs) = record { each = tt; waiting = q }

  accepted_replies : (t : State) (q : W t.waiting) (o : Id) (n : Number) (file : FileId) (copies : ℕ) (bytes : Content) →
      AllReply P W (accepted t o n file copies bytes)
  accepted_replies t q o n file copies bytes =
      cond_both (has_room t.files) _ _ (AllReply P W)
      (λ _. with_note _ (replicated_replies (record t { files = with_slot t.files file (Some bytes) }) q o n file bytes (targets_of t file copies)))
      (λ _. record { each = (tt, tt); waiting = q }) where
        with_note : (x : Outcome) → AllReply P W x → AllReply P W (before [] (note.Accepted file bytes ∷ []) x)
        with_note x h = record { each = (tt, h.each); waiting = h.waiting }

  inserted_replies : (t : State) (q : W t.waiting) (o : Id) (n : Number) (file : FileId) (copies : ℕ) (bytes : Content) (h : Option Slot) →
      AllReply P W (inserted t o n file copies bytes h)
  inserted_replies t q o n file copies bytes (Some None) = record { each = (tt, tt); waiting = q }
  inserted_replies t q o n file copies bytes (Some (Some held)) =
      cond_both (not (same_bytes held bytes)) _ _ (AllReply P W) (λ _. record { each = (tt, tt); waiting = q })
      (λ _. cond_both (has_too_few t copies) _ _ (AllReply P W) (λ _. record { each = (tt, tt); waiting = q })
      (λ _. replicated_replies t q o n file bytes (targets_of t file copies)))
  inserted_replies t q o n file copies bytes None =
      cond_both (has_too_few t copies) _ _ (AllReply P W) (λ _. record { each = (tt, tt); waiting = q }) (λ _. accepted_replies t q o n file copies bytes)

  insert_replies : (t : State) (q : W t.waiting) (o : Id) (n : Number) (hops : Hops) (file : FileId) (copies : ℕ) (bytes : Content) →
      AllReply P W (on_insert t o n hops file copies bytes)
  insert_replies t q o n hops file copies bytes =
      served_replies t q asked.Insert o n (way_of t (key_of file)) _ _ (inserted_replies t q o n file copies bytes (slot_of t.files file))

  each_replies : (t : State) (r : Reply) (ps : List Pending) → Each (NoteReplies P) (replied_each t r ps).notes
  each_replies t r [] = tt
  each_replies t r (x ∷ xs) = (tt, each_replies t r xs)

  reclaimed_replies : (t : State) (q : W t.waiting) (o : Id) (n : Number) (file : FileId) (h : Option Slot) → AllReply P W (reclaimed t o n file h)
  reclaimed_replies t q o n file None = record { each = (tt, tt); waiting = q }
  reclaimed_replies t q o n file (Some None) = record { each = (tt, tt); waiting = q }
  reclaimed_replies t q o n file (Some (Some bytes)) = record {
    each = (
      tt,
      Each-append (NoteReplies P) (replied_each (emptied t file) (reply.Gone t.me) (filter (is_of file) t.pending)).notes _
          (each_replies (emptied t file) (reply.Gone t.me) (filter (is_of file) t.pending)) (tt, tt),
    );
    waiting = q;
  }

  reclaim_replies : (t : State) (q : W t.waiting) (o : Id) (n : Number) (hops : Hops) (file : FileId) → AllReply P W (on_reclaim t o n hops file)
  reclaim_replies t q o n hops file = served_replies t q asked.Reclaim o n (way_of t (key_of file)) _ _ (reclaimed_replies t q o n file (slot_of t.files file))

  replicate_replies : (t : State) (q : W t.waiting) (from o : Id) (n : Number) (file : FileId) (bytes : Content) (h : Option Slot) →
      AllReply P W (replicate_at t from o n file bytes h)
  replicate_replies t q from o n file bytes None = cond_both (has_room t.files) _ _ (AllReply P W) (λ _. record { each = tt; waiting = q }) (λ _. quiet t q)
  replicate_replies t q from o n file bytes (Some None) = quiet t q
  replicate_replies t q from o n file bytes (Some (Some held)) =
      cond_both (same_bytes held bytes) _ _ (AllReply P W) (λ _. record { each = tt; waiting = q }) (λ _. quiet t q)

  taken_replies : (t : State) (q : W t.waiting) (place : ℕ) (p : Pending) (left : List Id) → AllReply P W (ack_taken t place p left)
  taken_replies t q place p [] = record { each = (tt, tt); waiting = q }
  taken_replies t q place p (y ∷ ys) = record { each = tt; waiting = q }

  ack_of_replies : (t : State) (q : W t.waiting) (from : Id) (place : ℕ) (p : Option Pending) → AllReply P W (ack_of t from place p)
  ack_of_replies t q from place None = quiet t q
  ack_of_replies t q from place (Some p) = taken_replies t q place p (filter (λ y. not (y == from)) p.awaited)

  ack_replies : (t : State) (q : W t.waiting) (from : Id) (place : Option ℕ) → AllReply P W (ack_at t from place)
  ack_replies t q from None = quiet t q
  ack_replies t q from (Some place) = ack_of_replies t q from place (slice_get t.pending place)

  ready_replies : (t : State) (q : W t.waiting) (p : Phase) → AllReply P W (ready_test_in t p)
  ready_replies t q (Leasing a m l r (Some gl) (Some gr)) =
      cond_both (has_all t gl && has_all t gr) _ _ (AllReply P W) (λ _. record { each = (tt, tt); waiting = q }) (λ _. quiet t q)
  ready_replies t q (Leasing a m l r (Some gl) None) = quiet t q
  ready_replies t q (Leasing a m l r None gr) = quiet t q
  ready_replies t q (Waiting a) = quiet t q
  ready_replies t q (Asking a m) = quiet t q
  ready_replies t q (Probing a m probed) = quiet t q
  ready_replies t q (Ready a l r) = quiet t q

  handover_replies : (t : State) (q : W t.waiting) (file : FileId) (bytes : Content) (h : Option Slot) → AllReply P W (handover_at t file bytes h)
  handover_replies t q file bytes None = cond_both (has_room t.files) _ _ (AllReply P W) (λ _. ready_replies (holding t file bytes) q t.phase) (λ _. quiet t q)
  handover_replies t q file bytes (Some slot) = quiet t q

  come_replies : (t : State) (q : W t.waiting) (n : Number) (r : Reply) → W (filter (λ m. not (m == n)) t.waiting) → P n r → AllReply P W (on_reply t n r)
  come_replies t q n r f h = cond_both (is_in t.waiting n) _ _ (AllReply P W) (λ _. record { each = (h, tt); waiting = f }) (λ _. quiet t q)

  pub service_replies : (s : State) (i : Input) → IsServiceInput i → W s.waiting → InputWaits W s.waiting i → InputReplies P i → AllReply P W (step s i)
  service_replies s (Command n (command.Lookup key)) k q f h = lookup_replies (waits_for s n) f s.me n key 0
  service_replies s (Command n (command.Insert file copies bytes)) k q f h = insert_replies (waits_for s n) f s.me n 0 file copies bytes
  service_replies s (Command n (command.Fetch file)) k q f h = fetch_replies (waits_for s n) f s.me n 0 file
  service_replies s (Command n (command.Reclaim file)) k q f h = reclaim_replies (waits_for s n) f s.me n 0 file
  service_replies s (Command n (command.Join via)) k q f h = absurd k
  service_replies s (Command n command.GiveUp) k q f h = absurd k
  service_replies s (Comes from (Lookup o n key hops)) k q f h = lookup_replies s q o n key hops
  service_replies s (Comes from (LookupReply n r)) k q f h = come_replies s q n r f h
  service_replies s (Comes from (Insert o n hops file copies bytes)) k q f h = insert_replies s q o n hops file copies bytes
  service_replies s (Comes from (InsertReply n r)) k q f h = come_replies s q n r f h
  service_replies s (Comes from (Fetch o n hops file)) k q f h = fetch_replies s q o n hops file
  service_replies s (Comes from (FetchReply n r)) k q f h = come_replies s q n r f h
  service_replies s (Comes from (Handover file bytes)) k q f h = handover_replies s q file bytes (slot_of s.files file)
  service_replies s (Comes from (Replicate o n file bytes)) k q f h = replicate_replies s q from o n file bytes (slot_of s.files file)
  service_replies s (Comes from (ReplicaAck o n file)) k q f h = ack_replies s q from (position (awaits from o n file) s.pending)
  service_replies s (Comes from (Reclaim o n hops file)) k q f h = reclaim_replies s q o n hops file
  service_replies s (Comes from (ReclaimReply n r)) k q f h = come_replies s q n r f h
  service_replies s (Comes from (JoinRequest j a hops)) k q f h = absurd k
  service_replies s (Comes from (JoinReply a heard)) k q f h = absurd k
  service_replies s (Comes from (JoinRefuse a w)) k q f h = absurd k
  service_replies s (Comes from (Probe a)) k q f h = absurd k
  service_replies s (Comes from (ProbeReply a heard)) k q f h = absurd k
  service_replies s (Comes from (LeaseRequest a l r)) k q f h = absurd k
  service_replies s (Comes from (Grant a manifest tombs)) k q f h = absurd k
  service_replies s (Comes from (Deny a w)) k q f h = absurd k
  service_replies s (Comes from (Release a)) k q f h = absurd k
  service_replies s (Comes from (Confirm a)) k q f h = absurd k
  service_replies s (Comes from Announce) k q f h = absurd k
  service_replies s Noise k q f h = absurd k

-- ---- every rule

always_waits : (ws : List Number) (i : Input) → InputWaits (λ zs. Unit {0}) ws i
always_waits ws (Command n c) = tt
always_waits ws (Comes from (LookupReply n r)) = tt
always_waits ws (Comes from m) = search rules
always_waits ws Noise = tt

module _ (P : Number → Reply → Type 0) where
  answer_closes : (s : State) (i : Input) (o : Outcome) (n : Number) (a : Answer) → AnswerReplies P n a → IsReply a → Closing P s i o n a
  answer_closes s i o n (answer.Reply r) h k = by_reply n r h
  answer_closes s i o n (answer.Joined l r) h k = absurd k
  answer_closes s i o n (answer.Denied node w) h k = absurd k
  answer_closes s i o n (answer.Stopped node reason) h k = absurd k
  answer_closes s i o n answer.GaveUp h k = absurd k
  answer_closes s i o n answer.NothingToGiveUp h k = absurd k

  note_closes : (s : State) (i : Input) (o : Outcome) (k : Note) → NoteReplies P k → IsServiceNote k → NoteCloses P s i o k
  note_closes s i o (note.Closed n a) h q = answer_closes s i o n a h q
  note_closes s i o (note.Delivered origin n key hops) h q = tt
  note_closes s i o (note.Answered origin n r) h q = tt
  note_closes s i o (note.Accepted file bytes) h q = tt
  note_closes s i o (note.Reclaimed file) h q = tt

  join_of : (p q : Phase) (n : Number) → p ≡ q → IsJoinOf q n → IsJoinOf p n
  join_of p q n e h = subst (λ z. IsJoinOf z n) (sym e) h

  each_closes : (s : State) (i : Input) (o : Outcome) (t : State) (r : Reply) (ps : List Pending) → Each (NoteCloses P s i o) (replied_each t r ps).notes
  each_closes s i o t r [] = tt
  each_closes s i o t r (x ∷ xs) = (tt, each_closes s i o t r xs)

  pub seat_closes : (s : State) (i : Input) (o : Outcome) → Seat s i o → o ≡ step s i → InputReplies P i → AllClose P s i o
  seat_closes _ _ _ (rule.serves s i o e f g q) is h =
      record {
        each = Each-both (NoteReplies P) IsServiceNote (NoteCloses P s i o) o.notes (λ k. note_closes s i o k)
            (subst (AllReply P (λ ws. Unit {0})) (sym is) (service_replies P (λ ws. Unit {0}) s i q tt (always_waits s.waiting i) h)).each g.each;
      }
  seat_closes _ _ _ (rule.not_begun s n via reason e) is h = record { each = (as_not_begun n via reason refl e, tt) }
  seat_closes _ _ _ (rule.stops_asking s n a m e) is h =
      record { each = (by_giving_up m n refl (join_of _ _ m e refl) (ap is_joining e), (as_given_up n refl (ap is_joining e), tt)) }
  seat_closes _ _ _ (rule.stops_probing s n a m probed e) is h =
      record { each = (by_giving_up m n refl (join_of _ _ m e refl) (ap is_joining e), (as_given_up n refl (ap is_joining e), tt)) }
  seat_closes _ _ _ (rule.stops_leasing s n a m l r fl fr e) is h =
      record { each = (by_giving_up m n refl (join_of _ _ m e refl) (ap is_joining e), (as_given_up n refl (ap is_joining e), tt)) }
  seat_closes _ _ _ (rule.idles s n e) is h = record { each = (as_idle n refl e, tt) }
  seat_closes _ _ _ (rule.refused s from a m w e) is h = record { each = (by_refusal from a m w refl (join_of _ _ m e refl), tt) }
  seat_closes _ _ _ (rule.denied s from a m l r fl fr w e) is h = record { each = (by_denial from a m w refl (join_of _ _ m e refl), tt) }
  seat_closes _ _ _ (rule.grant_readies s t from a m l r fl fr left right manifest tombs e f g k i) is h =
      let joins : JoinsBetween s _ m l r =
      record {
        attempt = a;
        from_left = fl;
        from_right = fr;
        was = e;
        now = refl;
        left_gate = ap (λ (u : State). u.left_gate) f;
        right_gate = ap (λ (u : State). u.right_gate) f;
      } in record { each = (by_joining m l r joins, tt) }
  seat_closes _ _ _ (rule.file_readies s from a m l r left right file bytes e f g k) is h =
      let joins : JoinsBetween s _ m l r =
      record { attempt = a; from_left = Some left; from_right = Some right; was = e; now = refl; left_gate = refl; right_gate = refl } in
      record { each = (by_joining m l r joins, tt) }
  seat_closes _ _ _ (rule.lease_new s from a l r b x y e f g) is h =
      record {
        each = each_closes _ _ _ _ (reply.Busy s.me from)
            (filter (is_left_to (gated_reach (cleared s from a) x y (asked_for from a l r)) from) s.pending);
      }
  seat_closes _ _ _ m is h = record { each = tt }
