-- Requests and what answers them: each message, pending insert, delivery and answer of a step is that of the command behind it.
-- Q says of a command of lookups and files what it is, L of a lookup on its way to a node what it shows.
use Rattle.std.proofs.Common.{◌≡◌, ◌≤◌, ℕ, suc, ◌-◌, Bool, not, ◌&&◌, ◌==◌, if◌then◌else◌, Option, Some, None, List, [], ◌∷◌, ◌++◌, filter, take, position}
use Rattle.std.proofs.Common.{slice_get, length, Contains, refl, sym, subst, arith}
use Rattle.std.proofs.lemmas.Bool.{cond_both}
use Rattle.std.proofs.lemmas.List.{length-take}
use Rattle.ring_math.specs.Names.{Id, Key, FileId, Content, Attempt, Number, Hops}
use Rattle.ring_math.specs.Bytewise.{same_bytes}
use Rattle.ring_math.specs.Keys.{key_of}
use Rattle.ring_math.specs.Sides.{is_in, leaves}
use Rattle.ring_math.specs.Files.{Slot, slot_of, with_slot, has_room}
use Rattle.ring_math.specs.declared.file.Held.{Held}
use Rattle.wire_msg.specs.declared.command.Command.{Command as NodeCommand}
use Rattle.wire_msg.specs.declared.command.Command.TheVariants as command
use Rattle.wire_msg.specs.declared.note.Note.{Note}
use Rattle.wire_msg.specs.declared.note.Note.TheVariants as note
use Rattle.wire_msg.specs.declared.reply.Reply.{Reply}
use Rattle.wire_msg.specs.declared.reply.Reply.TheVariants as reply
use Rattle.wire_msg.specs.Words.{Message, Lookup, LookupReply, Insert, InsertReply, Fetch, FetchReply, JoinRequest, JoinReply, JoinRefuse, Probe, ProbeReply}
use Rattle.wire_msg.specs.Words.{LeaseRequest, Grant, Deny, Handover, Release, Confirm, Announce, Replicate, ReplicaAck, Reclaim, ReclaimReply}
use Rattle.coverage.specs.GapFiles.{Lists}
use Rattle.overlay_rules.specs.declared.gate.Gate.{Gate}
use Rattle.overlay_rules.specs.declared.request.Asked.{Asked}
use Rattle.overlay_rules.specs.declared.request.Asked.TheVariants as asked
use Rattle.overlay_rules.specs.declared.request.Pending.{Pending}
use Rattle.overlay_rules.specs.declared.request.Way.{Way}
use Rattle.overlay_rules.specs.declared.request.Way.TheVariants as way
use Rattle.overlay_rules.specs.State.{State, Phase, Waiting, Asking, Probing, Leasing, Ready}
use Rattle.overlay_rules.specs.Outcome.{Outcome, Input, Command, Comes, Noise, nothing, before, to_both, to_each, replied, reply_message}
use Rattle.overlay_rules.specs.Routed.{way_of, one_more, served, on_lookup}
use Rattle.overlay_rules.specs.Roots.{is_ask, nearest_to, targets_of, replicated, has_too_few, accepted, inserted, on_insert, is_of, replied_each, emptied}
use Rattle.overlay_rules.specs.Roots.{reclaimed, on_reclaim, fetched, on_fetch}
use Rattle.overlay_rules.specs.Replicas.{holding, replicate_at, ack_taken, ack_of, ack_at, awaits, handover_at, on_reply}
use Rattle.overlay_rules.specs.ReadyTest.{ready_test_in, has_all}
use Rattle.overlay_rules.specs.Gates.{asked_for}
use Rattle.overlay_rules.specs.Gatekeeper.{cleared, is_left_to, gated_reach, newly_gated, granted, handovers, lists_of}
use Rattle.overlay_rules.specs.Step.{step, waits_for}
use Rattle.overlay_rules.proofs.Each.{Each, Each-append, Each-drop, Each-filter, Each-slice_get, Each-take, Each-weaker}
use Rattle.overlay_rules.proofs.Seat.{Seat, IsServiceInput}
use Rattle.overlay_rules.proofs.Seat as rule
use Rattle.overlay_rules.proofs.Sends.{Each-to_both, Each-to_each, Each-handovers}
use Rattle.overlay_rules.proofs.SeatStep.{new_lists}

-- ---- what messages, pending inserts and notes show

abbrev pub Carries : (Id → Number → NodeCommand → Type 0) → (Id → Id → Number → Key → Hops → Type 0) → Id → Message → Type 0
Carries Q L to (Lookup origin number key hops) = L to origin number key hops
Carries Q L to (Insert origin number hops file copies bytes) = Q origin number (command.Insert file copies bytes)
Carries Q L to (Fetch origin number hops file) = Q origin number (command.Fetch file)
Carries Q L to (Reclaim origin number hops file) = Q origin number (command.Reclaim file)
Carries Q L to (LookupReply number r) = Unit {0}
Carries Q L to (InsertReply number r) = Unit {0}
Carries Q L to (FetchReply number r) = Unit {0}
Carries Q L to (ReclaimReply number r) = Unit {0}
Carries Q L to (JoinRequest joiner a hops) = Unit {0}
Carries Q L to (JoinReply a members) = Unit {0}
Carries Q L to (JoinRefuse a w) = Unit {0}
Carries Q L to (Probe a) = Unit {0}
Carries Q L to (ProbeReply a members) = Unit {0}
Carries Q L to (LeaseRequest a l r) = Unit {0}
Carries Q L to (Grant a manifest tombs) = Unit {0}
Carries Q L to (Deny a w) = Unit {0}
Carries Q L to (Handover file bytes) = Unit {0}
Carries Q L to (Release a) = Unit {0}
Carries Q L to (Confirm a) = Unit {0}
Carries Q L to Announce = Unit {0}
Carries Q L to (Replicate origin number file bytes) = (copies : ℕ) × Q origin number (command.Insert file copies bytes)
Carries Q L to (ReplicaAck origin number file) = Unit {0}

-- a pending insert is of an insert of its file, with no more targets than copies beside the root's own
pub record AsksFor (Q : Id → Number → NodeCommand → Type 0) (p : Pending) : Type 0 where
  pub copies : ℕ
  pub bytes : Content
  pub asked : Q p.origin p.number (command.Insert p.file copies bytes)
  pub few : length p.targets ≤ copies - 1

abbrev pub CommandCarries : (Id → Number → NodeCommand → Type 0) → (Id → Id → Number → Key → Hops → Type 0) → Id → Number → NodeCommand → Type 0
CommandCarries Q L me n (command.Lookup key) = L me me n key 0
CommandCarries Q L me n (command.Insert file copies bytes) = Q me n (command.Insert file copies bytes)
CommandCarries Q L me n (command.Fetch file) = Q me n (command.Fetch file)
CommandCarries Q L me n (command.Reclaim file) = Q me n (command.Reclaim file)
CommandCarries Q L me n (command.Join via) = Unit {0}
CommandCarries Q L me n command.GiveUp = Unit {0}

abbrev pub InputCarries : (Id → Number → NodeCommand → Type 0) → (Id → Id → Number → Key → Hops → Type 0) → Id → Input → Type 0
InputCarries Q L me (Comes from m) = Carries Q L me m
InputCarries Q L me (Command n c) = CommandCarries Q L me n c
InputCarries Q L me Noise = Unit {0}

-- how a lookup of the key is answered where the state becomes s, with these notes
abbrev pub LookupAnswer : State → List Note → Id → Number → Key → Reply → Type 0
LookupAnswer s notes o n key (reply.Delivered y hops) = (y ≡ s.me) × Contains notes (note.Delivered o n key hops)
LookupAnswer s notes o n key (reply.Busy y j) = (y ≡ s.me) × (way_of s key ≡ way.Gap j)
LookupAnswer s notes o n key (reply.NotReady y) = (y ≡ s.me) × (way_of s key ≡ way.NotReady)
LookupAnswer s notes o n key (reply.Stored holders) = ⊥
LookupAnswer s notes o n key (reply.Found y bytes) = ⊥
LookupAnswer s notes o n key (reply.NotFound y) = ⊥
LookupAnswer s notes o n key (reply.Collision y) = ⊥
LookupAnswer s notes o n key (reply.TooFew y known) = ⊥
LookupAnswer s notes o n key (reply.Full y) = ⊥
LookupAnswer s notes o n key (reply.Gone y) = ⊥
LookupAnswer s notes o n key (reply.Reclaimed y) = ⊥

abbrev pub IsOfFiles : NodeCommand → Type 0
IsOfFiles (command.Insert file copies bytes) = Unit {0}
IsOfFiles (command.Fetch file) = Unit {0}
IsOfFiles (command.Reclaim file) = Unit {0}
IsOfFiles (command.Lookup key) = ⊥
IsOfFiles (command.Join via) = ⊥
IsOfFiles command.GiveUp = ⊥

-- the answer is to a lookup, or to a command on a file
pub data Answers (Q : Id → Number → NodeCommand → Type 0) (L : Id → Id → Number → Key → Hops → Type 0) (s : State) (notes : List Note) (o : Id) (n : Number)
    (r : Reply) : Type 0 where
  a_lookup : (key : Key) (hops : Hops) → L s.me o n key hops → LookupAnswer s notes o n key r → Answers Q L s notes o n r
  of_files : (c : NodeCommand) → IsOfFiles c → Q o n c → Answers Q L s notes o n r

abbrev pub NoteCarries : (Id → Number → NodeCommand → Type 0) → (Id → Id → Number → Key → Hops → Type 0) → State → List Note → Note → Type 0
NoteCarries Q L s notes (note.Delivered o n key hops) = L s.me o n key hops × (way_of s key ≡ way.Here)
NoteCarries Q L s notes (note.Answered o n r) = Answers Q L s notes o n r
NoteCarries Q L s notes (note.Closed n a) = Unit {0}
NoteCarries Q L s notes (note.Accepted file bytes) = Unit {0}
NoteCarries Q L s notes (note.Reclaimed file) = Unit {0}

pub record Requested (Q : Id → Number → NodeCommand → Type 0) (L : Id → Id → Number → Key → Hops → Type 0) (s : State) (o : Outcome) : Type 0 where
  pub sends : Each (λ m. Carries Q L m.receiver m.message) o.sends
  pub pending : Each (AsksFor Q) o.state.pending
  pub notes : Each (NoteCarries Q L o.state o.notes) o.notes

-- a lookup that is passed on shows at the next node what it must
pub record PassesOn (L : Id → Id → Number → Key → Hops → Type 0) (s : State) : Type 0 where
  pub next : (o : Id) (n : Number) (key : Key) (hops : Hops) (y : Id) → L s.me o n key hops → way_of s key ≡ way.To y → L y o n key (one_more hops)

-- ---- what is of files alone

abbrev FileNote : (Id → Number → NodeCommand → Type 0) → Note → Type 0
FileNote Q (note.Delivered o n key hops) = ⊥
FileNote Q (note.Answered o n r) = (c : NodeCommand) × (IsOfFiles c × Q o n c)
FileNote Q (note.Closed n a) = Unit {0}
FileNote Q (note.Accepted file bytes) = Unit {0}
FileNote Q (note.Reclaimed file) = Unit {0}

record OfFiles (Q : Id → Number → NodeCommand → Type 0) (L : Id → Id → Number → Key → Hops → Type 0) (o : Outcome) : Type 0 where
  sends : Each (λ m. Carries Q L m.receiver m.message) o.sends
  pending : Each (AsksFor Q) o.state.pending
  notes : Each (FileNote Q) o.notes

module _ (Q : Id → Number → NodeCommand → Type 0) (L : Id → Id → Number → Key → Hops → Type 0) where
  file_note : (s : State) (notes : List Note) (n : Note) → FileNote Q n → NoteCarries Q L s notes n
  file_note s notes (note.Delivered o n key hops) h = absurd h
  file_note s notes (note.Answered o n r) h = of_files h.0 h.1.0 h.1.1
  file_note s notes (note.Closed n a) h = tt
  file_note s notes (note.Accepted file bytes) h = tt
  file_note s notes (note.Reclaimed file) h = tt

  from_files : (s : State) (o : Outcome) → OfFiles Q L o → Requested Q L s o
  from_files s o h = record {
    sends = h.sends;
    pending = h.pending;
    notes = Each-weaker (FileNote Q) (NoteCarries Q L o.state o.notes) o.notes (file_note o.state o.notes) h.notes;
  }

  reply_carries : (what : Asked) (to : Id) (n : Number) (r : Reply) → Carries Q L to (reply_message what n r)
  reply_carries asked.Lookup to n r = tt
  reply_carries asked.Insert to n r = tt
  reply_carries asked.Fetch to n r = tt
  reply_carries asked.Reclaim to n r = tt

  to_both_carries : (l r : Id) (m : Message) → ((y : Id) → Carries Q L y m) → Each (λ x. Carries Q L x.receiver x.message) (to_both l r m)
  to_both_carries l r m h = Each-to_both (λ x. Carries Q L x.receiver x.message) l r m h

  to_each_carries : (ys : List Id) (m : Message) → ((y : Id) → Carries Q L y m) → Each (λ x. Carries Q L x.receiver x.message) (to_each ys m)
  to_each_carries ys m h = Each-to_each (λ x. Carries Q L x.receiver x.message) ys m h

  -- the answer to a command on a file, and nothing else
  answered : (t : State) (what : Asked) (o : Id) (n : Number) (r : Reply) (c : NodeCommand) → IsOfFiles c → Q o n c → Each (AsksFor Q) t.pending →
      OfFiles Q L (replied t what o n r)
  answered t what o n r c k q p = record { sends = (reply_carries what o n r, tt); pending = p; notes = ((c, (k, q)), tt) }

  served_files : (t : State) (what : Asked) (o : Id) (n : Number) (w : Way) (next : Message) (here : Outcome) (c : NodeCommand) → IsOfFiles c → Q o n c →
      Each (AsksFor Q) t.pending →
      ((y : Id) → Carries Q L y next) → OfFiles Q L here → OfFiles Q L (served t what o n w next here)
  served_files t what o n way.NotReady next here c k q p f h = answered t what o n (reply.NotReady t.me) c k q p
  served_files t what o n way.Here next here c k q p f h = h
  served_files t what o n (way.Gap j) next here c k q p f h = answered t what o n (reply.Busy t.me j) c k q p
  served_files t what o n (way.To y) next here c k q p f h = record { sends = (f y, tt); pending = p; notes = tt }

  -- ---- Fetch, Insert and Reclaim

  fetch_files : (t : State) (o : Id) (n : Number) (hops : Hops) (file : FileId) → Q o n (command.Fetch file) → Each (AsksFor Q) t.pending →
      OfFiles Q L (on_fetch t o n hops file)
  fetch_files t o n hops file q p =
      served_files t asked.Fetch o n (way_of t (key_of file)) (Fetch o n (one_more hops) file) _ (command.Fetch file) tt q p (λ y. q)
      (answered t asked.Fetch o n (fetched t (slot_of t.files file)) (command.Fetch file) tt q p)

  replicated_files : (t : State) (o : Id) (n : Number) (file : FileId) (copies : ℕ) (bytes : Content) (targets : List Id) →
      Q o n (command.Insert file copies bytes) → length targets ≤ copies - 1 → Each (AsksFor Q) t.pending → OfFiles Q L (replicated t o n file bytes targets)
  replicated_files t o n file copies bytes [] q f p = answered t asked.Insert o n _ (command.Insert file copies bytes) tt q p
  replicated_files t o n file copies bytes (x ∷ xs) q f p = record {
    sends = to_each_carries (x ∷ xs) (Replicate o n file bytes) (λ y. (copies, q));
    pending = Each-append (AsksFor Q) (filter (λ z. not (is_ask o n z)) t.pending) _ (Each-filter (AsksFor Q) (λ z. not (is_ask o n z)) t.pending p)
        (record { copies = copies; bytes = bytes; asked = q; few = f }, tt);
    notes = tt;
  }

  targets_few : (t : State) (file : FileId) (copies : ℕ) → length (targets_of t file copies) ≤ copies - 1
  targets_few t file copies = omega (arith, length-take (copies - 1) (nearest_to (key_of file) (leaves t.me t.known)))

  accepted_files : (t : State) (o : Id) (n : Number) (file : FileId) (copies : ℕ) (bytes : Content) → Q o n (command.Insert file copies bytes) →
      Each (AsksFor Q) t.pending → OfFiles Q L (accepted t o n file copies bytes)
  accepted_files t o n file copies bytes q p =
      cond_both (has_room t.files) _ _ (OfFiles Q L)
      (λ _. with_note _ (replicated_files (record t { files = with_slot t.files file (Some bytes) }) o n file copies bytes (targets_of t file copies) q
      (targets_few t file copies) p))
      (λ _. answered t asked.Insert o n _ (command.Insert file copies bytes) tt q p) where
        with_note : (x : Outcome) → OfFiles Q L x → OfFiles Q L (before [] (note.Accepted file bytes ∷ []) x)
        with_note x h = record { sends = h.sends; pending = h.pending; notes = (tt, h.notes) }

  inserted_files : (t : State) (o : Id) (n : Number) (file : FileId) (copies : ℕ) (bytes : Content) (h : Option Slot) →
      Q o n (command.Insert file copies bytes) → Each (AsksFor Q) t.pending →
      OfFiles Q L (inserted t o n file copies bytes h)
  inserted_files t o n file copies bytes (Some None) q p = answered t asked.Insert o n _ (command.Insert file copies bytes) tt q p
  inserted_files t o n file copies bytes (Some (Some held)) q p =
      cond_both (not (same_bytes held bytes)) _ _ (OfFiles Q L) (λ _. answered t asked.Insert o n _ (command.Insert file copies bytes) tt q p)
      (λ _. cond_both (has_too_few t copies) _ _ (OfFiles Q L) (λ _. answered t asked.Insert o n _ (command.Insert file copies bytes) tt q p)
      (λ _. replicated_files t o n file copies bytes (targets_of t file copies) q (targets_few t file copies) p))
  inserted_files t o n file copies bytes None q p =
      cond_both (has_too_few t copies) _ _ (OfFiles Q L) (λ _. answered t asked.Insert o n _ (command.Insert file copies bytes) tt q p)
      (λ _. accepted_files t o n file copies bytes q p)

  insert_files : (t : State) (o : Id) (n : Number) (hops : Hops) (file : FileId) (copies : ℕ) (bytes : Content) → Q o n (command.Insert file copies bytes) →
      Each (AsksFor Q) t.pending → OfFiles Q L (on_insert t o n hops file copies bytes)
  insert_files t o n hops file copies bytes q p =
      served_files t asked.Insert o n (way_of t (key_of file)) (Insert o n (one_more hops) file copies bytes) _ (command.Insert file copies bytes) tt q p
      (λ y. q)
      (inserted_files t o n file copies bytes (slot_of t.files file) q p)

  -- pending inserts that are replied
  each_replied : (t : State) (r : Reply) (ps : List Pending) → Each (AsksFor Q) ps →
      Each (λ m. Carries Q L m.receiver m.message) (replied_each t r ps).sends × Each (FileNote Q) (replied_each t r ps).notes
  each_replied t r [] h = (tt, tt)
  each_replied t r (x ∷ xs) h = let rest = each_replied t r xs h.1 in let ask =
      h.0 in ((tt, rest.0), ((command.Insert x.file ask.copies ask.bytes, (tt, ask.asked)), rest.1))

  reclaimed_files : (t : State) (o : Id) (n : Number) (file : FileId) (h : Option Slot) → Q o n (command.Reclaim file) → Each (AsksFor Q) t.pending →
      OfFiles Q L (reclaimed t o n file h)
  reclaimed_files t o n file None q p = answered t asked.Reclaim o n _ (command.Reclaim file) tt q p
  reclaimed_files t o n file (Some None) q p = answered t asked.Reclaim o n _ (command.Reclaim file) tt q p
  reclaimed_files t o n file (Some (Some bytes)) q p =
      let ended = each_replied (emptied t file) (reply.Gone t.me) (filter (is_of file) t.pending) (Each-filter (AsksFor Q) (is_of file) t.pending p) in
      record {
        sends = Each-append _ (replied_each (emptied t file) (reply.Gone t.me) (filter (is_of file) t.pending)).sends _ ended.0 (tt, tt);
        pending = Each-filter (AsksFor Q) (λ z. not (is_of file z)) t.pending p;
        notes = (
          tt,
          Each-append _ (replied_each (emptied t file) (reply.Gone t.me) (filter (is_of file) t.pending)).notes _ ended.1
              ((command.Reclaim file, (tt, q)), tt),
        );
      }

  reclaim_files : (t : State) (o : Id) (n : Number) (hops : Hops) (file : FileId) → Q o n (command.Reclaim file) → Each (AsksFor Q) t.pending →
      OfFiles Q L (on_reclaim t o n hops file)
  reclaim_files t o n hops file q p =
      served_files t asked.Reclaim o n (way_of t (key_of file)) (Reclaim o n (one_more hops) file) _ (command.Reclaim file) tt q p (λ y. q)
      (reclaimed_files t o n file (slot_of t.files file) q p)

  -- ---- replicas, files handed over, and replies that come back

  quiet : (t : State) → Each (AsksFor Q) t.pending → OfFiles Q L (nothing t)
  quiet t p = record { sends = tt; pending = p; notes = tt }

  replicate_files : (t : State) (from o : Id) (n : Number) (file : FileId) (bytes : Content) (h : Option Slot) → Each (AsksFor Q) t.pending →
      OfFiles Q L (replicate_at t from o n file bytes h)
  replicate_files t from o n file bytes None p =
      cond_both (has_room t.files) _ _ (OfFiles Q L) (λ _. record { sends = (tt, tt); pending = p; notes = tt }) (λ _. quiet t p)
  replicate_files t from o n file bytes (Some None) p = quiet t p
  replicate_files t from o n file bytes (Some (Some held)) p =
      cond_both (same_bytes held bytes) _ _ (OfFiles Q L) (λ _. record { sends = (tt, tt); pending = p; notes = tt }) (λ _. quiet t p)

  taken_files : (t : State) (place : ℕ) (x : Pending) (left : List Id) → AsksFor Q x → Each (AsksFor Q) t.pending → OfFiles Q L (ack_taken t place x left)
  taken_files t place x [] ask p = record {
    sends = (tt, tt);
    pending = Each-append (AsksFor Q) (take place t.pending) _ (Each-take (AsksFor Q) place t.pending p) (Each-drop (AsksFor Q) (suc place) t.pending p);
    notes = ((command.Insert x.file ask.copies ask.bytes, (tt, ask.asked)), tt);
  }
  taken_files t place x (y ∷ ys) ask p = record {
    sends = tt;
    pending = Each-append (AsksFor Q) (take place t.pending) _ (Each-take (AsksFor Q) place t.pending p)
        (record { copies = ask.copies; bytes = ask.bytes; asked = ask.asked; few = ask.few }, Each-drop (AsksFor Q) (suc place) t.pending p);
    notes = tt;
  }

  ack_files : (t : State) (from : Id) (place : Option ℕ) → Each (AsksFor Q) t.pending → OfFiles Q L (ack_at t from place)
  ack_files t from None p = quiet t p
  ack_files t from (Some place) p = by (slice_get t.pending place) refl where
    by : (x : Option Pending) → slice_get t.pending place ≡ x → OfFiles Q L (ack_of t from place x)
    by None e = quiet t p
    by (Some x) e = taken_files t place x (filter (λ y. not (y == from)) x.awaited) (Each-slice_get (AsksFor Q) t.pending place x p e) p

  ready_files : (t : State) (p : Phase) → Each (AsksFor Q) t.pending → OfFiles Q L (ready_test_in t p)
  ready_files t (Leasing a m l r (Some gl) (Some gr)) h =
      cond_both (has_all t gl && has_all t gr) _ _ (OfFiles Q L)
      (λ _. record {
        sends = Each-append _ (to_both l r (Confirm a)) _ (to_both_carries l r (Confirm a) (λ y. tt)) (to_each_carries _ Announce (λ y. tt));
        pending = h;
        notes = (tt, tt);
      })
      (λ _. quiet t h)
  ready_files t (Leasing a m l r (Some gl) None) h = quiet t h
  ready_files t (Leasing a m l r None gr) h = quiet t h
  ready_files t (Waiting a) h = quiet t h
  ready_files t (Asking a m) h = quiet t h
  ready_files t (Probing a m probed) h = quiet t h
  ready_files t (Ready a l r) h = quiet t h

  handover_files : (t : State) (file : FileId) (bytes : Content) (h : Option Slot) → Each (AsksFor Q) t.pending → OfFiles Q L (handover_at t file bytes h)
  handover_files t file bytes None p = cond_both (has_room t.files) _ _ (OfFiles Q L) (λ _. ready_files (holding t file bytes) t.phase p) (λ _. quiet t p)
  handover_files t file bytes (Some slot) p = quiet t p

  reply_files : (t : State) (n : Number) (r : Reply) → Each (AsksFor Q) t.pending → OfFiles Q L (on_reply t n r)
  reply_files t n r p = cond_both (is_in t.waiting n) _ _ (OfFiles Q L) (λ _. record { sends = tt; pending = p; notes = (tt, tt) }) (λ _. quiet t p)

  -- ---- Lookup

  lookup_requested : (s : State) (waiting : List Number) (o : Id) (n : Number) (key : Key) (hops : Hops) → PassesOn L s → L s.me o n key hops →
      Each (AsksFor Q) s.pending → Requested Q L s (on_lookup (record s { waiting = waiting }) o n key hops)
  lookup_requested s waiting o n key hops next h p = by (way_of s key) refl where
    by : (w : Way) → way_of s key ≡ w → Requested Q L s
        (served (record s { waiting = waiting }) asked.Lookup o n w (Lookup o n key (one_more hops))
        (before [] (note.Delivered o n key hops ∷ []) (replied (record s { waiting = waiting }) asked.Lookup o n (reply.Delivered s.me hops))))
    by way.NotReady e = record { sends = (tt, tt); pending = p; notes = (a_lookup key hops h (refl, e), tt) }
    by way.Here e = record { sends = (tt, tt); pending = p; notes = ((h, e), (a_lookup key hops h (refl, (0, omega arith, refl)), tt)) }
    by (way.Gap j) e = record { sends = (tt, tt); pending = p; notes = (a_lookup key hops h (refl, e), tt) }
    by (way.To y) e = record { sends = (next.next o n key hops y h e, tt); pending = p; notes = tt }

  -- ---- every input of lookups and files

  service_requested : (s : State) (i : Input) → IsServiceInput i → PassesOn L s → InputCarries Q L s.me i → Each (AsksFor Q) s.pending →
      Requested Q L s (step s i)
  service_requested s (Command n (command.Lookup key)) k next h p = lookup_requested s (s.waiting ++ n ∷ []) s.me n key 0 next h p
  service_requested s (Command n (command.Insert file copies bytes)) k next h p = from_files s _ (insert_files (waits_for s n) s.me n 0 file copies bytes h p)
  service_requested s (Command n (command.Fetch file)) k next h p = from_files s _ (fetch_files (waits_for s n) s.me n 0 file h p)
  service_requested s (Command n (command.Reclaim file)) k next h p = from_files s _ (reclaim_files (waits_for s n) s.me n 0 file h p)
  service_requested s (Command n (command.Join via)) k next h p = absurd k
  service_requested s (Command n command.GiveUp) k next h p = absurd k
  service_requested s (Comes from (Lookup o n key hops)) k next h p = lookup_requested s s.waiting o n key hops next h p
  service_requested s (Comes from (LookupReply n r)) k next h p = from_files s _ (reply_files s n r p)
  service_requested s (Comes from (Insert o n hops file copies bytes)) k next h p = from_files s _ (insert_files s o n hops file copies bytes h p)
  service_requested s (Comes from (InsertReply n r)) k next h p = from_files s _ (reply_files s n r p)
  service_requested s (Comes from (Fetch o n hops file)) k next h p = from_files s _ (fetch_files s o n hops file h p)
  service_requested s (Comes from (FetchReply n r)) k next h p = from_files s _ (reply_files s n r p)
  service_requested s (Comes from (Handover file bytes)) k next h p = from_files s _ (handover_files s file bytes (slot_of s.files file) p)
  service_requested s (Comes from (Replicate o n file bytes)) k next h p = from_files s _ (replicate_files s from o n file bytes (slot_of s.files file) p)
  service_requested s (Comes from (ReplicaAck o n file)) k next h p = from_files s _ (ack_files s from (position (awaits from o n file) s.pending) p)
  service_requested s (Comes from (Reclaim o n hops file)) k next h p = from_files s _ (reclaim_files s o n hops file h p)
  service_requested s (Comes from (ReclaimReply n r)) k next h p = from_files s _ (reply_files s n r p)
  service_requested s (Comes from (JoinRequest j a hops)) k next h p = absurd k
  service_requested s (Comes from (JoinReply a heard)) k next h p = absurd k
  service_requested s (Comes from (JoinRefuse a w)) k next h p = absurd k
  service_requested s (Comes from (Probe a)) k next h p = absurd k
  service_requested s (Comes from (ProbeReply a heard)) k next h p = absurd k
  service_requested s (Comes from (LeaseRequest a l r)) k next h p = absurd k
  service_requested s (Comes from (Grant a manifest tombs)) k next h p = absurd k
  service_requested s (Comes from (Deny a w)) k next h p = absurd k
  service_requested s (Comes from (Release a)) k next h p = absurd k
  service_requested s (Comes from (Confirm a)) k next h p = absurd k
  service_requested s (Comes from Announce) k next h p = absurd k
  service_requested s Noise k next h p = absurd k

  -- ---- every rule

  handovers_carry : (to : Id) (files : List Held) (manifest : List FileId) → Each (λ m. Carries Q L m.receiver m.message) (handovers to files manifest)
  handovers_carry to files manifest = Each-handovers (λ m. Carries Q L m.receiver m.message) to files manifest (λ f b. tt)

  joins : (s : State) (o : Outcome) → Each (λ m. Carries Q L m.receiver m.message) o.sends → Each (AsksFor Q) o.state.pending → Each (FileNote Q) o.notes →
      Requested Q L s o
  joins s o f g h = from_files s o (record { sends = f; pending = g; notes = h })

  newly_gated_files : (t : State) (x y : Id) (g : Gate) → Each (AsksFor Q) t.pending → OfFiles Q L (newly_gated t x y g)
  newly_gated_files t x y g p = record {
    sends = Each-append _ (granted g.joiner g.attempt lists t.files) _ (tt, handovers_carry g.joiner t.files lists.manifest) ended.0;
    pending = Each-filter (AsksFor Q) (λ z. not (is_left z)) t.pending p;
    notes = ended.1;
  } where
    lists : Lists
    lists = new_lists t x y g

    is_left : Pending → Bool
    is_left = is_left_to (gated_reach t x y g) g.joiner

    after : State
    after = (newly_gated t x y g).state

    ended : Each (λ m. Carries Q L m.receiver m.message) (replied_each after (reply.Busy t.me g.joiner) (filter is_left t.pending)).sends
        × Each (FileNote Q) (replied_each after (reply.Busy t.me g.joiner) (filter is_left t.pending)).notes
    ended = each_replied after (reply.Busy t.me g.joiner) (filter is_left t.pending) (Each-filter (AsksFor Q) is_left t.pending p)

  ready_sends : (l r : Id) (a : Attempt) (ys : List Id) → Each (λ m. Carries Q L m.receiver m.message) (to_both l r (Confirm a) ++ to_each ys Announce)
  ready_sends l r a ys = Each-append _ (to_both l r (Confirm a)) _ (to_both_carries l r (Confirm a) (λ y. tt)) (to_each_carries ys Announce (λ y. tt))

  pub seat_requested : (s : State) (i : Input) (o : Outcome) → Seat s i o → o ≡ step s i → PassesOn L s → InputCarries Q L s.me i → Each (AsksFor Q) s.pending →
      Requested Q L s o
  seat_requested _ _ _ (rule.serves s i o e f g q) is next h p = subst (Requested Q L s) (sym is) (service_requested s i q next h p)
  seat_requested _ _ _ (rule.stops_leasing s n a m l r fl fr e) is next h p = joins s _ (to_both_carries l r (Release a) (λ y. tt)) p (tt, (tt, tt))
  seat_requested _ _ _ (rule.probes s from a m heard known y ys e f g) is next h p = joins s _ (to_each_carries (y ∷ ys) (Probe a) (λ z. tt)) p tt
  seat_requested _ _ _ (rule.probes_on s from a m heard known old probed new e f g k) is next h p = joins s _ (to_each_carries new (Probe a) (λ z. tt)) p tt
  seat_requested _ _ _ (rule.leases s from a m heard known old e f) is next h p = joins s _ (to_both_carries _ _ (LeaseRequest a _ _) (λ y. tt)) p tt
  seat_requested _ _ _ (rule.denied s from a m l r fl fr w e) is next h p = joins s _ (to_both_carries l r (Release a) (λ y. tt)) p (tt, tt)
  seat_requested _ _ _ (rule.grant_readies s t from a m l r fl fr left right manifest tombs e f g k i) is next h p =
      joins s _ (ready_sends l r a _) (subst (λ (u : State). Each (AsksFor Q) u.pending) (sym f) p) (tt, tt)
  seat_requested _ _ _ (rule.file_readies s from a m l r left right file bytes e f g k) is next h p = joins s _ (ready_sends l r a _) p (tt, tt)
  seat_requested _ _ _ (rule.lease_again s from a l r b x y e f) is next h p =
      joins s _ (tt, handovers_carry from s.files (lists_of (if s.me == l then s.right_gate else s.left_gate)).manifest) p tt
  seat_requested _ _ _ (rule.lease_new s from a l r b x y e f g) is next h p =
      from_files s _ (newly_gated_files (cleared s from a) x y (asked_for from a l r) p)
  seat_requested _ _ _ (rule.not_begun s n via reason e) is next h p = joins s _ tt p (tt, tt)
  seat_requested _ _ _ (rule.idles s n e) is next h p = joins s _ tt p (tt, tt)
  seat_requested _ _ _ (rule.stops_asking s n a m e) is next h p = joins s _ tt p (tt, (tt, tt))
  seat_requested _ _ _ (rule.stops_probing s n a m probed e) is next h p = joins s _ tt p (tt, (tt, tt))
  seat_requested _ _ _ (rule.refused s from a m w e) is next h p = joins s _ tt p (tt, tt)
  seat_requested _ _ _ (rule.unmoved s i) is next h p = joins s _ tt p tt
  seat_requested _ _ _ (rule.request_on s from j a hops y e) is next h p = joins s _ (tt, tt) p tt
  seat_requested _ _ _ (rule.request_served s from j a hops b l r e w) is next h p = joins s _ (tt, tt) p tt
  seat_requested _ _ _ (rule.request_unready s from j a hops e) is next h p = joins s _ (tt, tt) p tt
  seat_requested _ _ _ (rule.request_busy s from j a hops i e) is next h p = joins s _ (tt, tt) p tt
  seat_requested _ _ _ (rule.begins s n via a e f) is next h p = joins s _ (tt, tt) p tt
  seat_requested _ _ _ (rule.grant_older s from a manifest tombs e) is next h p = joins s _ (tt, tt) p tt
  seat_requested _ _ _ (rule.grant_settled s from a l r manifest tombs e) is next h p = joins s _ (tt, tt) p tt
  seat_requested _ _ _ (rule.grant_kept s from a m l r fl fr manifest tombs e w) is next h p = joins s _ tt p tt
  seat_requested _ _ _ (rule.probed s from a b l r e) is next h p = joins s _ (tt, tt) p tt
  seat_requested _ _ _ (rule.lease_unready s from a l r e) is next h p = joins s _ (tt, tt) p tt
  seat_requested _ _ _ (rule.lease_busy s from a l r b x y j e f) is next h p = joins s _ (tt, tt) p tt
  seat_requested _ _ _ (rule.lease_moved s from a l r b x y e) is next h p = joins s _ (tt, tt) p tt
  seat_requested _ _ _ (rule.released s from a) is next h p = joins s _ tt p tt
  seat_requested _ _ _ (rule.confirms s from a b x y e f) is next h p = joins s _ tt p tt
  seat_requested _ _ _ (rule.announced s from) is next h p = joins s _ tt p tt
