-- What one step answers, and the inserts that wait at a node afterwards: each answer with its reason, each pending insert with where it comes from.
use Rattle.std.proofs.Common.{◌≡◌, ◌≢◌, ◌⊎◌, inl, inr, ℕ, suc, Bool, true, false, not, ◌&&◌, ◌==◌, Option, Some, None, List, [], ◌∷◌, ◌++◌, filter, take, drop}
use Rattle.std.proofs.Common.{position, slice_get, get_or, length, Contains, refl, sym, subst, ap, ◌∙◌}
use Rattle.std.proofs.lemmas.Bool.{cond_both, and_parts}
use Rattle.std.proofs.lemmas.Bool.Decides.{Decides-eqb}
use Rattle.std.proofs.lemmas.List.Quantifiers.{position-Some}
use Rattle.std.proofs.lemmas.Option.{get_or_from_slice_get}
use Rattle.ring_math.specs.Names.{Id, Key, FileId, Content, Attempt, Number, Hops}
use Rattle.ring_math.specs.Bytewise.{same_bytes}
use Rattle.ring_math.specs.Keys.{key_of}
use Rattle.ring_math.specs.Sides.{is_in, leaves}
use Rattle.ring_math.specs.Files.{Slot, slot_of, with_slot, has_room}
use Rattle.ring_math.specs.declared.file.Held.{Held}
use Rattle.coverage.specs.declared.Reach.{Reach}
use Rattle.coverage.specs.Coverage.{in_gap_of}
use Rattle.wire_msg.specs.declared.command.Command.{Command as NodeCommand}
use Rattle.wire_msg.specs.declared.command.Command.TheVariants as command
use Rattle.wire_msg.specs.declared.note.Note.{Note}
use Rattle.wire_msg.specs.declared.note.Note.TheVariants as note
use Rattle.wire_msg.specs.declared.reply.Reply.{Reply}
use Rattle.wire_msg.specs.declared.reply.Reply.TheVariants as reply
use Rattle.wire_msg.specs.Words.{Message, Lookup, LookupReply, Insert, InsertReply, Fetch, FetchReply, JoinRequest, JoinReply, JoinRefuse, Probe, ProbeReply}
use Rattle.wire_msg.specs.Words.{LeaseRequest, Grant, Deny, Handover, Release, Confirm, Announce, Replicate, ReplicaAck, Reclaim, ReclaimReply}
use Rattle.overlay_rules.specs.declared.gate.Gate.{Gate}
use Rattle.overlay_rules.specs.declared.request.Asked.{Asked}
use Rattle.overlay_rules.specs.declared.request.Asked.TheVariants as asked
use Rattle.overlay_rules.specs.declared.request.Pending.{Pending}
use Rattle.overlay_rules.specs.declared.request.Way.{Way}
use Rattle.overlay_rules.specs.declared.request.Way.TheVariants as way
use Rattle.overlay_rules.specs.State.{State, Phase, Waiting, Asking, Probing, Leasing, Ready, is_ready, reach, joiner_of}
use Rattle.overlay_rules.specs.Outcome.{Outcome, Input, Command, Comes, Noise, nothing, before, replied}
use Rattle.overlay_rules.specs.Routed.{way_of, one_more, served, on_lookup}
use Rattle.overlay_rules.specs.Roots.{is_ask, targets_of, replicated, has_too_few, accepted, inserted, on_insert, is_of, replied_each, emptied, reclaimed}
use Rattle.overlay_rules.specs.Roots.{on_reclaim, fetched, on_fetch}
use Rattle.overlay_rules.specs.Replicas.{holding, replicate_at, ack_taken, ack_of, ack_at, awaits, handover_at, on_reply}
use Rattle.overlay_rules.specs.ReadyTest.{ready_test_in, has_all}
use Rattle.overlay_rules.specs.Gates.{asked_for}
use Rattle.overlay_rules.specs.Gatekeeper.{cleared, is_left_to, gated_reach, newly_gated}
use Rattle.overlay_rules.specs.Step.{step}
use Rattle.overlay_rules.specs.Laws.{IsOf}
use Rattle.overlay_rules.specs.Rightly.{KeepsFor}
use Rattle.overlay_rules.proofs.Each.{Each, Each-append, Each-drop, Each-filter, Each-itself, Each-take, Each-weaker}
use Rattle.overlay_rules.proofs.Seat.{Seat, IsServiceInput}
use Rattle.overlay_rules.proofs.Seat as rule
use Rattle.overlay_rules.proofs.SeatStep.{step_seat, new_lists, unready_way}
use Rattle.ring_laws.proofs.Leases.{end_in, new_stands}
use Rattle.ring_laws.proofs.Grants.{asked_side}
use Rattle.ring_laws.proofs.Causes.{shows_busy}
use Rattle.table_laws.proofs.Slots.{same-is, same-differs, slot-itself}
use Rattle.table_laws.proofs.Tables.{IsQuiet, AllQuiet, quiet_nothing, reclaim_other, reclaims, not_reclaimed}
use Rattle.table_laws.proofs.FileRules.{Requests, told, lookup_came, insert_came, fetch_came, reclaim_came, each_quiet}
use Rattle.table_laws.proofs.LeaseRules.{gated_is, filtered}

-- why a reply is given to command n of node `from`, in the step from s to o
pub data Answering (s : State) (i : Input) (o : Outcome) (from : Id) (n : Number) : Reply → Type 0 where
  looked_up : (key : Key) (r : Reply) → Requests s.me i from n (command.Lookup key) → Answering s i o from n r
  not_ready : (f : FileId) (c : NodeCommand) → IsOf f c → Requests s.me i from n c → is_ready o.state.phase ≡ false →
      Answering s i o from n (reply.NotReady s.me)
  kept_back : (f : FileId) (c : NodeCommand) (j : Id) → IsOf f c → Requests s.me i from n c → KeepsFor o.state j (key_of f) →
      Answering s i o from n (reply.Busy s.me j)
  fetched_here : (f : FileId) (h : Option Slot) → Requests s.me i from n (command.Fetch f) → way_of s (key_of f) ≡ way.Here → slot_of o.state.files f ≡ h →
      Answering s i o from n (fetched s h)
  not_there : (f : FileId) → Requests s.me i from n (command.Reclaim f) → way_of s (key_of f) ≡ way.Here → slot_of o.state.files f ≡ None →
      Answering s i o from n (reply.NotFound s.me)
  reclaimed_here : (f : FileId) → Requests s.me i from n (command.Reclaim f) → slot_of o.state.files f ≡ Some None →
      Answering s i o from n (reply.Reclaimed s.me)
  insert_gone : (f : FileId) (copies : ℕ) (b : Content) → Requests s.me i from n (command.Insert f copies b) → slot_of o.state.files f ≡ Some None →
      Answering s i o from n (reply.Gone s.me)
  insert_differs : (f : FileId) (copies : ℕ) (b there : Content) → Requests s.me i from n (command.Insert f copies b) → way_of s (key_of f) ≡ way.Here →
      slot_of o.state.files f ≡ Some (Some there) → there ≢ b →
      Answering s i o from n (reply.Collision s.me)
  insert_few : (f : FileId) (copies : ℕ) (b : Content) → Requests s.me i from n (command.Insert f copies b) → has_too_few s copies ≡ true →
      o.state.known ≡ s.known →
      Answering s i o from n (reply.TooFew s.me (length (leaves s.me s.known)))
  insert_full : (f : FileId) (copies : ℕ) (b : Content) → Requests s.me i from n (command.Insert f copies b) → way_of s (key_of f) ≡ way.Here →
      slot_of o.state.files f ≡ None → has_room o.state.files ≡ false →
      Answering s i o from n (reply.Full s.me)
  insert_alone : (f : FileId) (copies : ℕ) (b : Content) → Requests s.me i from n (command.Insert f copies b) → way_of s (key_of f) ≡ way.Here →
      slot_of o.state.files f ≡ Some (Some b) → has_too_few s copies ≡ false →
      targets_of s f copies ≡ [] → Answering s i o from n (reply.Stored (s.me ∷ []))
  insert_done : (p : Pending) (t : Id) → Contains s.pending p → i ≡ Comes t (ReplicaAck p.origin p.number p.file) → from ≡ p.origin → n ≡ p.number →
      filter (λ y. not (y == t)) p.awaited ≡ [] → reclaims p.file o.notes ≡ 0 →
      Answering s i o from n (reply.Stored (s.me ∷ p.targets))
  ended_gone : (p : Pending) → Contains s.pending p → from ≡ p.origin → n ≡ p.number → slot_of o.state.files p.file ≡ Some None →
      Answering s i o from n (reply.Gone s.me)
  ended_busy : (p : Pending) (j : Id) → Contains s.pending p → from ≡ p.origin → n ≡ p.number → KeepsFor o.state j (key_of p.file) →
      Answering s i o from n (reply.Busy s.me j)

abbrev pub NoteRule : State → Input → Outcome → Note → Type 0
NoteRule s i o (note.Answered from n r) = Answering s i o from n r
NoteRule s i o (note.Delivered from n key hops) = Unit {0}
NoteRule s i o (note.Closed n a) = Unit {0}
NoteRule s i o (note.Accepted f b) = Unit {0}
NoteRule s i o (note.Reclaimed f) = Unit {0}

-- where a pending insert comes from: it waited, of no file that is reclaimed; or waited and was acknowledged; or is asked now
pub data PendingRule (s : State) (i : Input) (o : Outcome) : Pending → Type 0 where
  waited : (p : Pending) → Contains s.pending p → reclaims p.file o.notes ≡ 0 → PendingRule s i o p
  acked : (p : Pending) (t : Id) → Contains s.pending p → i ≡ Comes t (ReplicaAck p.origin p.number p.file) → reclaims p.file o.notes ≡ 0 →
      PendingRule s i o (record p { awaited = filter (λ y. not (y == t)) p.awaited })
  asked_now : (from : Id) (n : Number) (f : FileId) (copies : ℕ) (b : Content) → Requests s.me i from n (command.Insert f copies b) →
      way_of s (key_of f) ≡ way.Here → slot_of o.state.files f ≡ Some (Some b) →
      has_too_few s copies ≡ false → PendingRule s i o
      (record { origin = from; number = n; file = f; targets = targets_of s f copies; awaited = targets_of s f copies })

pub record Answered (s : State) (i : Input) (o : Outcome) : Type 0 where
  pub pending : Each (PendingRule s i o) o.state.pending
  pub notes : Each (NoteRule s i o) o.notes

-- ---- nothing is reclaimed, and inserts that wait waited

unreclaimed : (s : State) (i : Input) (o : Outcome) → AllQuiet o.notes → (ps : List Pending) → Each (Contains s.pending) ps → Each (PendingRule s i o) ps
unreclaimed s i o q ps h = Each-weaker (Contains s.pending) (PendingRule s i o) ps (λ p c. waited p c (quiet_nothing p.file o.notes q).reclaims_none) h

quietly : (s : State) (i : Input) (o : Outcome) → Each (Contains s.pending) o.state.pending → Each IsQuiet o.notes → Each (NoteRule s i o) o.notes →
    Answered s i o
quietly s i o h q n = record { pending = unreclaimed s i o (record { each = q }) o.state.pending h; notes = n }

still : (s : State) (i : Input) → Answered s i (nothing s)
still s i = quietly s i _ (Each-itself s.pending) tt tt

-- ---- requests

module _ (s : State) (i : Input) (waiting : List Number) where
  -- the state, with these numbers waiting
  abbrev with_waiting : State
  with_waiting = record s { waiting = waiting }

  -- one answer, and all else stays
  one_answer : (what : Asked) (from : Id) (n : Number) (r : Reply) → Answering s i (replied with_waiting what from n r) from n r →
      Answered s i (replied with_waiting what from n r)
  one_answer what from n r a = quietly s i _ (Each-itself s.pending) (tt, tt) (a, tt)

  served_answered : (what : Asked) (from : Id) (n : Number) (f : FileId) (c : NodeCommand) (w : Way) (next : Message) (here : Outcome) → IsOf f c →
      Requests s.me i from n c → way_of with_waiting (key_of f) ≡ w → (w ≡ way.Here → Answered s i here) →
      Answered s i (served with_waiting what from n w next here)
  served_answered what from n f c way.NotReady next here is q e h =
      one_answer what from n (reply.NotReady s.me) (not_ready f c is q (unready_way with_waiting (key_of f) s.phase e))
  served_answered what from n f c way.Here next here is q e h = h refl
  served_answered what from n f c (way.Gap j) next here is q e h =
      one_answer what from n (reply.Busy s.me j) (kept_back f c j is q (shows_busy with_waiting (key_of f) j e))
  served_answered what from n f c (way.To y) next here is q e h = quietly s i _ (Each-itself s.pending) tt tt

  lookup_answered : (from : Id) (n : Number) (key : Key) (hops : Hops) → Requests s.me i from n (command.Lookup key) →
      Answered s i (on_lookup with_waiting from n key hops)
  lookup_answered from n key hops q = by (way_of with_waiting key) where
    by : (w : Way) → Answered s i (served with_waiting asked.Lookup from n w (Lookup from n key (one_more hops))
        (before [] (note.Delivered from n key hops ∷ []) (replied with_waiting asked.Lookup from n (reply.Delivered s.me hops))))
    by way.NotReady = one_answer asked.Lookup from n _ (looked_up key _ q)
    by way.Here = quietly s i _ (Each-itself s.pending) (tt, (tt, tt)) (tt, (looked_up key _ q, tt))
    by (way.Gap j) = one_answer asked.Lookup from n _ (looked_up key _ q)
    by (way.To y) = quietly s i _ (Each-itself s.pending) tt tt

  fetch_answered : (from : Id) (n : Number) (hops : Hops) (f : FileId) → Requests s.me i from n (command.Fetch f) →
      Answered s i (on_fetch with_waiting from n hops f)
  fetch_answered from n hops f q =
      served_answered asked.Fetch from n f (command.Fetch f) (way_of with_waiting (key_of f)) (Fetch from n (one_more hops) f) _ refl q refl
      (λ w. one_answer asked.Fetch from n _ (fetched_here f (slot_of s.files f) q w refl))

  -- the file is held: replicas are asked for, or none are wanted
  replicated_pending : (files : List Held) (from : Id) (n : Number) (f : FileId) (copies : ℕ) (b : Content) (targets : List Id) (o : Outcome) →
      Requests s.me i from n (command.Insert f copies b) → way_of s (key_of f) ≡ way.Here → has_too_few s copies ≡ false →
      targets ≡ targets_of s f copies → slot_of o.state.files f ≡ Some (Some b) → ((p : Pending) → reclaims p.file o.notes ≡ 0) →
      Each (PendingRule s i o) (replicated (record s { waiting = waiting; files = files }) from n f b targets).state.pending
  replicated_pending files from n f copies b [] o q w few is at none =
      Each-weaker (Contains s.pending) (PendingRule s i o) s.pending (λ p c. waited p c (none p)) (Each-itself s.pending)
  replicated_pending files from n f copies b (x ∷ xs) o q w few is at none =
      Each-append (PendingRule s i o) (filter (λ p. not (is_ask from n p)) s.pending) _
      (Each-weaker (Contains s.pending) (PendingRule s i o) (filter (λ p. not (is_ask from n p)) s.pending) (λ p c. waited p c (none p))
      (Each-filter (Contains s.pending) (λ p. not (is_ask from n p)) s.pending (Each-itself s.pending))) (
        subst (λ ts. PendingRule s i o (record { origin = from; number = n; file = f; targets = ts; awaited = ts })) (sym is)
            (asked_now from n f copies b q w at few),
        tt,
      )

  replicated_notes : (files : List Held) (from : Id) (n : Number) (f : FileId) (copies : ℕ) (b : Content) (targets : List Id) (o : Outcome) →
      Requests s.me i from n (command.Insert f copies b) → way_of s (key_of f) ≡ way.Here → has_too_few s copies ≡ false →
      targets ≡ targets_of s f copies → slot_of o.state.files f ≡ Some (Some b) →
      Each (NoteRule s i o) (replicated (record s { waiting = waiting; files = files }) from n f b targets).notes
  replicated_notes files from n f copies b [] o q w few is at = (insert_alone f copies b q w at few (sym is), tt)
  replicated_notes files from n f copies b (x ∷ xs) o q w few is at = tt

  replicated_quiet : (files : List Held) (from : Id) (n : Number) (f : FileId) (b : Content) (targets : List Id) →
      Each IsQuiet (replicated (record s { waiting = waiting; files = files }) from n f b targets).notes
  replicated_quiet files from n f b [] = (tt, tt)
  replicated_quiet files from n f b (x ∷ xs) = tt

  replicated_files : (files : List Held) (from : Id) (n : Number) (f : FileId) (b : Content) (targets : List Id) →
      (replicated (record s { waiting = waiting; files = files }) from n f b targets).state.files ≡ files
  replicated_files files from n f b [] = refl
  replicated_files files from n f b (x ∷ xs) = refl

  replicated_answered : (from : Id) (n : Number) (f : FileId) (copies : ℕ) (b : Content) → Requests s.me i from n (command.Insert f copies b) →
      way_of s (key_of f) ≡ way.Here → has_too_few s copies ≡ false → slot_of s.files f ≡ Some (Some b) →
      Answered s i (replicated with_waiting from n f b (targets_of s f copies))
  replicated_answered from n f copies b q w few at = record {
    pending = replicated_pending s.files from n f copies b (targets_of s f copies) o q w few refl held
        (λ p. (quiet_nothing p.file o.notes (record { each = replicated_quiet s.files from n f b (targets_of s f copies) })).reclaims_none);
    notes = replicated_notes s.files from n f copies b (targets_of s f copies) o q w few refl held;
  } where
    o : Outcome
    o = replicated with_waiting from n f b (targets_of s f copies)

    held : slot_of o.state.files f ≡ Some (Some b)
    held = ap (λ hs. slot_of hs f) (replicated_files s.files from n f b (targets_of s f copies)) ∙ at

  accepted_answered : (from : Id) (n : Number) (f : FileId) (copies : ℕ) (b : Content) → Requests s.me i from n (command.Insert f copies b) →
      way_of s (key_of f) ≡ way.Here → has_too_few s copies ≡ false → slot_of s.files f ≡ None →
      Answered s i (accepted with_waiting from n f copies b)
  accepted_answered from n f copies b q w few none =
      cond_both (has_room s.files) _ _ (Answered s i) (λ _. record {
        pending = replicated_pending files from n f copies b targets o q w few refl held unreclaimed';
        notes = (tt, replicated_notes files from n f copies b targets o q w few refl held);
      }) (λ room. one_answer asked.Insert from n (reply.Full s.me) (insert_full f copies b q w none room)) where
        files : List Held
        files = with_slot s.files f (Some b)

        targets : List Id
        targets = targets_of s f copies

        o : Outcome
        o = before [] (note.Accepted f b ∷ []) (replicated (record s { waiting = waiting; files = files }) from n f b targets)

        held : slot_of o.state.files f ≡ Some (Some b)
        held = ap (λ hs. slot_of hs f) (replicated_files files from n f b targets) ∙ slot-itself s.files f (Some b)

        unreclaimed' : (p : Pending) → reclaims p.file o.notes ≡ 0
        unreclaimed' p = not_reclaimed p.file f b _ (replicated_quiet files from n f b targets)

  inserted_answered : (from : Id) (n : Number) (f : FileId) (copies : ℕ) (b : Content) (h : Option Slot) → Requests s.me i from n (command.Insert f copies b) →
      way_of s (key_of f) ≡ way.Here → slot_of s.files f ≡ h →
      Answered s i (inserted with_waiting from n f copies b h)
  inserted_answered from n f copies b (Some None) q w e = one_answer asked.Insert from n (reply.Gone s.me) (insert_gone f copies b q e)
  inserted_answered from n f copies b (Some (Some there)) q w e =
      cond_both (not (same_bytes there b)) _ _ (Answered s i)
      (λ other. one_answer asked.Insert from n (reply.Collision s.me)
      (insert_differs f copies b there q w e (same-differs there b (turned (same_bytes there b) other))))
      (λ same. cond_both (has_too_few s copies) _ _ (Answered s i) (λ few. one_answer asked.Insert from n _ (insert_few f copies b q few refl))
      (λ few. replicated_answered from n f copies b q w few (e ∙ ap (λ x. Some (Some x)) (same-is there b (twice (same_bytes there b) same))))) where
        turned : (x : Bool) → not x ≡ true → x ≡ false
        turned true d = cc
        turned false d = refl

        twice : (x : Bool) → not x ≡ false → x ≡ true
        twice true d = refl
        twice false d = cc
  inserted_answered from n f copies b None q w e =
      cond_both (has_too_few s copies) _ _ (Answered s i) (λ few. one_answer asked.Insert from n _ (insert_few f copies b q few refl))
      (λ few. accepted_answered from n f copies b q w few e)

  insert_answered : (from : Id) (n : Number) (hops : Hops) (f : FileId) (copies : ℕ) (b : Content) → Requests s.me i from n (command.Insert f copies b) →
      Answered s i (on_insert with_waiting from n hops f copies b)
  insert_answered from n hops f copies b q =
      served_answered asked.Insert from n f (command.Insert f copies b) (way_of with_waiting (key_of f))
      (Insert from n (one_more hops) f copies b) _ refl q refl
      (λ w. inserted_answered from n f copies b (slot_of s.files f) q w refl)

  -- pending inserts that are replied, each for its reason
  each_answered : (u : State) (o : Outcome) (r : Reply) (ps : List Pending) → Each (λ p. Answering s i o p.origin p.number r) ps →
      Each (NoteRule s i o) (replied_each u r ps).notes
  each_answered u o r [] h = tt
  each_answered u o r (p ∷ ps) h = (h.0, each_answered u o r ps h.1)

  reclaimed_answered : (from : Id) (n : Number) (f : FileId) (h : Option Slot) → Requests s.me i from n (command.Reclaim f) → way_of s (key_of f) ≡ way.Here →
      slot_of s.files f ≡ h →
      Answered s i (reclaimed with_waiting from n f h)
  reclaimed_answered from n f None q w e = one_answer asked.Reclaim from n (reply.NotFound s.me) (not_there f q w e)
  reclaimed_answered from n f (Some None) q w e = one_answer asked.Reclaim from n (reply.Reclaimed s.me) (reclaimed_here f q e)
  reclaimed_answered from n f (Some (Some b)) q w e = record {
    pending = still_waiting (filter (λ p. not (is_of f p)) s.pending)
        (Each-filter (Contains s.pending) (λ p. not (is_of f p)) s.pending (Each-itself s.pending)) (filtered (λ p. not (is_of f p)) s.pending);
    notes = (
      tt,
      Each-append (NoteRule s i o) ended.notes _ (each_answered u o (reply.Gone s.me) gone
          (over (filter (is_of f) s.pending) (Each-filter (Contains s.pending) (is_of f) s.pending (Each-itself s.pending)) (filtered (is_of f) s.pending)))
          (reclaimed_here f q tomb, tt),
    );
  } where
    u : State
    u = emptied with_waiting f

    gone : List Pending
    gone = filter (is_of f) s.pending

    ended : Outcome
    ended = replied_each u (reply.Gone s.me) gone

    o : Outcome
    o = reclaimed with_waiting from n f (Some (Some b))

    tomb : slot_of o.state.files f ≡ Some None
    tomb = slot-itself s.files f None

    quiet : AllQuiet (ended.notes ++ note.Answered from n (reply.Reclaimed s.me) ∷ [])
    quiet = record { each = Each-append IsQuiet ended.notes _ (each_quiet s i waiting u (reply.Gone s.me) gone) (tt, tt) }

    turned : (x : Bool) → not x ≡ true → x ≡ false
    turned true d = cc
    turned false d = refl

    other : (p : Pending) → not (is_of f p) ≡ true → reclaims p.file o.notes ≡ 0
    other p t = (reclaim_other p.file f _ (same-differs p.file f (turned (is_of f p) t)) quiet).reclaims_none

    still_waiting : (ps : List Pending) → Each (Contains s.pending) ps → Each (λ p. not (is_of f p) ≡ true) ps → Each (PendingRule s i o) ps
    still_waiting [] a c = tt
    still_waiting (p ∷ ps) a c = (waited p a.0 (other p c.0), still_waiting ps a.1 c.1)

    over : (ps : List Pending) → Each (Contains s.pending) ps → Each (λ p. is_of f p ≡ true) ps →
        Each (λ p. Answering s i o p.origin p.number (reply.Gone s.me)) ps
    over [] a c = tt
    over (p ∷ ps) a c = (ended_gone p a.0 refl refl (ap (slot_of o.state.files) (same-is p.file f c.0) ∙ tomb), over ps a.1 c.1)

  reclaim_answered : (from : Id) (n : Number) (hops : Hops) (f : FileId) → Requests s.me i from n (command.Reclaim f) →
      Answered s i (on_reclaim with_waiting from n hops f)
  reclaim_answered from n hops f q =
      served_answered asked.Reclaim from n f (command.Reclaim f) (way_of with_waiting (key_of f))
      (Reclaim from n (one_more hops) f) _ refl q refl
      (λ w. reclaimed_answered from n f (slot_of s.files f) q w refl)

-- ---- acknowledgements

-- the insert that an acknowledgement meets
record Met (from o : Id) (n : Number) (f : FileId) (ps : List Pending) (place : ℕ) (p : Pending) : Type 0 where
  at : Contains ps p
  origin : p.origin ≡ o
  number : p.number ≡ n
  file : p.file ≡ f

met : (from o : Id) (n : Number) (f : FileId) (ps : List Pending) (place : ℕ) (p : Pending) → position (awaits from o n f) ps ≡ Some place →
    slice_get ps place ≡ Some p → Met from o n f ps place p
met from o n f ps place p e g =
    let found = position-Some (awaits from o n f) ps place p e in
    let is : get_or ps place p ≡ p = get_or_from_slice_get ps place p p g in
    let t : awaits from o n f p ≡ true = subst (λ q. awaits from o n f q ≡ true) is found.1 in
    let parts = and_parts (is_ask o n p) (same_bytes p.file f && is_in p.awaited from) t in
    let ask = and_parts (p.origin == o) (p.number == n) parts.0 in
    record {
      at = (place, found.0, is);
      origin = (Decides-eqb p.origin o).0 ask.0;
      number = (Decides-eqb p.number n).0 ask.1;
      file = same-is p.file f (and_parts (same_bytes p.file f) (is_in p.awaited from) parts.1).0;
    }

ack_is : (from o : Id) (n : Number) (f : FileId) (p : Pending) → p.origin ≡ o → p.number ≡ n → p.file ≡ f →
    Comes from (ReplicaAck o n f) ≡ Comes from (ReplicaAck p.origin p.number p.file)
ack_is from o n f p a b c = λ z. Comes from (ReplicaAck (sym a z) (sym b z) (sym c z))

taken_answered : (s : State) (from o : Id) (n : Number) (f : FileId) (place : ℕ) (p : Pending) (left : List Id) → Met from o n f s.pending place p →
    filter (λ y. not (y == from)) p.awaited ≡ left →
    Answered s (Comes from (ReplicaAck o n f)) (ack_taken s place p left)
taken_answered s from o n f place p [] m e =
    quietly s _ _ (Each-append (Contains s.pending) (take place s.pending) _ (Each-take (Contains s.pending) place s.pending (Each-itself s.pending))
    (Each-drop (Contains s.pending) (suc place) s.pending (Each-itself s.pending))) (tt, tt) (
      insert_done p from m.at (ack_is from o n f p m.origin m.number m.file) refl refl e
          (quiet_nothing p.file (note.Answered p.origin p.number (reply.Stored (s.me ∷ p.targets)) ∷ []) (record { each = (tt, tt) })).reclaims_none,
      tt,
    )
taken_answered s from o n f place p (y ∷ ys) m e = record {
  pending = Each-append (PendingRule s i out) (take place s.pending) _
      (old (take place s.pending) (Each-take (Contains s.pending) place s.pending (Each-itself s.pending))) (
        subst (λ zs. PendingRule s i out (record p { awaited = zs })) e (acked p from m.at (ack_is from o n f p m.origin m.number m.file) refl),
        old (drop (suc place) s.pending) (Each-drop (Contains s.pending) (suc place) s.pending (Each-itself s.pending)),
      );
  notes = tt;
} where
  i : Input
  i = Comes from (ReplicaAck o n f)

  out : Outcome
  out = ack_taken s place p (y ∷ ys)

  old : (ps : List Pending) → Each (Contains s.pending) ps → Each (PendingRule s i out) ps
  old ps h = unreclaimed s i out (record { each = tt }) ps h

ack_answered : (s : State) (from o : Id) (n : Number) (f : FileId) (place : Option ℕ) → position (awaits from o n f) s.pending ≡ place →
    Answered s (Comes from (ReplicaAck o n f)) (ack_at s from place)
ack_answered s from o n f None e = still s _
ack_answered s from o n f (Some place) e = by (slice_get s.pending place) refl where
  by : (x : Option Pending) → slice_get s.pending place ≡ x → Answered s (Comes from (ReplicaAck o n f)) (ack_of s from place x)
  by None g = still s _
  by (Some p) g = taken_answered s from o n f place p (filter (λ y. not (y == from)) p.awaited) (met from o n f s.pending place p e g) refl

-- ---- replicas, files handed over, and replies that come back

replicate_answered : (s : State) (i : Input) (from o : Id) (n : Number) (f : FileId) (b : Content) (h : Option Slot) →
    Answered s i (replicate_at s from o n f b h)
replicate_answered s i from o n f b None = cond_both (has_room s.files) _ _ (Answered s i) (λ _. quietly s i _ (Each-itself s.pending) tt tt) (λ _. still s i)
replicate_answered s i from o n f b (Some None) = still s i
replicate_answered s i from o n f b (Some (Some there)) =
    cond_both (same_bytes there b) _ _ (Answered s i) (λ _. quietly s i _ (Each-itself s.pending) tt tt) (λ _. still s i)

tested_answered : (s t : State) (i : Input) (p : Phase) → t.pending ≡ s.pending → Answered s i (ready_test_in t p)
tested_answered s t i (Leasing a m l r (Some gl) (Some gr)) e =
    cond_both (has_all t gl && has_all t gr) _ _ (Answered s i)
    (λ _. quietly s i _ (subst (Each (Contains s.pending)) (sym e) (Each-itself s.pending)) (tt, tt) (tt, tt))
    (λ _. quietly s i _ (subst (Each (Contains s.pending)) (sym e) (Each-itself s.pending)) tt tt)
tested_answered s t i (Leasing a m l r (Some gl) None) e = quietly s i _ (subst (Each (Contains s.pending)) (sym e) (Each-itself s.pending)) tt tt
tested_answered s t i (Leasing a m l r None gr) e = quietly s i _ (subst (Each (Contains s.pending)) (sym e) (Each-itself s.pending)) tt tt
tested_answered s t i (Waiting a) e = quietly s i _ (subst (Each (Contains s.pending)) (sym e) (Each-itself s.pending)) tt tt
tested_answered s t i (Asking a m) e = quietly s i _ (subst (Each (Contains s.pending)) (sym e) (Each-itself s.pending)) tt tt
tested_answered s t i (Probing a m probed) e = quietly s i _ (subst (Each (Contains s.pending)) (sym e) (Each-itself s.pending)) tt tt
tested_answered s t i (Ready a l r) e = quietly s i _ (subst (Each (Contains s.pending)) (sym e) (Each-itself s.pending)) tt tt

handover_answered : (s : State) (i : Input) (f : FileId) (b : Content) (h : Option Slot) → Answered s i (handover_at s f b h)
handover_answered s i f b None = cond_both (has_room s.files) _ _ (Answered s i) (λ _. tested_answered s (holding s f b) i s.phase refl) (λ _. still s i)
handover_answered s i f b (Some slot) = still s i

reply_answered : (s : State) (i : Input) (n : Number) (r : Reply) → Answered s i (on_reply s n r)
reply_answered s i n r = cond_both (is_in s.waiting n) _ _ (Answered s i) (λ _. quietly s i _ (Each-itself s.pending) (tt, tt) (tt, tt)) (λ _. still s i)

service_answered : (s : State) (i : Input) → IsServiceInput i → Answered s i (step s i)
service_answered s (Command n (command.Lookup key)) k = lookup_answered s _ (s.waiting ++ n ∷ []) s.me n key 0 (told n _)
service_answered s (Command n (command.Insert f copies b)) k = insert_answered s _ (s.waiting ++ n ∷ []) s.me n 0 f copies b (told n _)
service_answered s (Command n (command.Fetch f)) k = fetch_answered s _ (s.waiting ++ n ∷ []) s.me n 0 f (told n _)
service_answered s (Command n (command.Reclaim f)) k = reclaim_answered s _ (s.waiting ++ n ∷ []) s.me n 0 f (told n _)
service_answered s (Command n (command.Join via)) k = absurd k
service_answered s (Command n command.GiveUp) k = absurd k
service_answered s (Comes from (Lookup o n key hops)) k = lookup_answered s _ s.waiting o n key hops (lookup_came from o n key hops)
service_answered s (Comes from (LookupReply n r)) k = reply_answered s _ n r
service_answered s (Comes from (Insert o n hops f copies b)) k = insert_answered s _ s.waiting o n hops f copies b (insert_came from o n hops f copies b)
service_answered s (Comes from (InsertReply n r)) k = reply_answered s _ n r
service_answered s (Comes from (Fetch o n hops f)) k = fetch_answered s _ s.waiting o n hops f (fetch_came from o n hops f)
service_answered s (Comes from (FetchReply n r)) k = reply_answered s _ n r
service_answered s (Comes from (Handover f b)) k = handover_answered s _ f b (slot_of s.files f)
service_answered s (Comes from (Replicate o n f b)) k = replicate_answered s _ from o n f b (slot_of s.files f)
service_answered s (Comes from (ReplicaAck o n f)) k = ack_answered s from o n f (position (awaits from o n f) s.pending) refl
service_answered s (Comes from (Reclaim o n hops f)) k = reclaim_answered s _ s.waiting o n hops f (reclaim_came from o n hops f)
service_answered s (Comes from (ReclaimReply n r)) k = reply_answered s _ n r
service_answered s (Comes from (JoinRequest j a hops)) k = absurd k
service_answered s (Comes from (JoinReply a heard)) k = absurd k
service_answered s (Comes from (JoinRefuse a w)) k = absurd k
service_answered s (Comes from (Probe a)) k = absurd k
service_answered s (Comes from (ProbeReply a heard)) k = absurd k
service_answered s (Comes from (LeaseRequest a l r)) k = absurd k
service_answered s (Comes from (Grant a manifest tombs)) k = absurd k
service_answered s (Comes from (Deny a w)) k = absurd k
service_answered s (Comes from (Release a)) k = absurd k
service_answered s (Comes from (Confirm a)) k = absurd k
service_answered s (Comes from Announce) k = absurd k
service_answered s Noise k = absurd k

-- ---- every rule

-- inserts that wait in the gap of a new gate are replied Busy
newly_gated_answered : (s : State) (i : Input) (b : Attempt) (x y : Id) (g : Gate) → s.phase ≡ Ready b x y → (right : Bool) × (s.me ≡ end_in (not right) g) →
    Answered s i (newly_gated (cleared s g.joiner g.attempt) x y g)
newly_gated_answered s i b x y g e asked_of = record {
  pending = unreclaimed s i o (record { each = quiet }) _
      (Each-filter (Contains s.pending) (λ p. not (is_left_to gated g.joiner p)) s.pending (Each-itself s.pending));
  notes = each_answered s i [] _ o (reply.Busy s.me g.joiner) gone
      (busy gone (Each-filter (Contains s.pending) (is_left_to gated g.joiner) s.pending (Each-itself s.pending))
      (filtered (is_left_to gated g.joiner) s.pending));
} where
  c : State
  c = cleared s g.joiner g.attempt

  gated : Reach
  gated = gated_reach c x y g

  gone : List Pending
  gone = filter (is_left_to gated g.joiner) s.pending

  o : Outcome
  o = newly_gated c x y g

  quiet : Each IsQuiet o.notes
  quiet = each_quiet s i [] _ (reply.Busy s.me g.joiner) gone

  is_gated : reach o.state x y ≡ gated
  is_gated = gated_is c o.state x y g (new_lists c x y g) refl refl refl

  joins : (right : Bool) → s.me ≡ end_in (not right) g → (joiner_of o.state.left_gate ≡ Some g.joiner) ⊎ (joiner_of o.state.right_gate ≡ Some g.joiner)
  joins true m = inr (ap joiner_of (new_stands s g (new_lists c x y g) true m))
  joins false m = inl (ap joiner_of (new_stands s g (new_lists c x y g) false m))

  keeps : (p : Pending) → is_left_to gated g.joiner p ≡ true → KeepsFor o.state g.joiner (key_of p.file)
  keeps p k = (b, (x, (y, (e, joins asked_of.0 asked_of.1, subst (λ q. in_gap_of q g.joiner (key_of p.file) ≡ true) (sym is_gated) k))))

  busy : (ps : List Pending) → Each (Contains s.pending) ps → Each (λ p. is_left_to gated g.joiner p ≡ true) ps →
      Each (λ p. Answering s i o p.origin p.number (reply.Busy s.me g.joiner)) ps
  busy [] d h = tt
  busy (p ∷ ps) d h = (ended_busy p g.joiner d.0 refl refl (keeps p h.0), busy ps d.1 h.1)

pub seat_answered : (s : State) (i : Input) (o : Outcome) → Seat s i o → o ≡ step s i → Answered s i o
seat_answered _ _ _ (rule.serves s i o e f g q) is = subst (Answered s i) (sym is) (service_answered s i q)
seat_answered _ _ _ (rule.stops_leasing s n a m l r fl fr e) is = quietly s _ _ (Each-itself s.pending) (tt, (tt, tt)) (tt, (tt, tt))
seat_answered _ _ _ (rule.denied s from a m l r fl fr w e) is = quietly s _ _ (Each-itself s.pending) (tt, tt) (tt, tt)
seat_answered _ _ _ (rule.grant_readies s t from a m l r fl fr left right manifest tombs e f g k w) is =
    quietly s _ _ (subst (Each (Contains s.pending)) (sym (ap (λ (u : State). u.pending) f)) (Each-itself s.pending)) (tt, tt) (tt, tt)
seat_answered _ _ _ (rule.file_readies s from a m l r left right file bytes e f g k) is = quietly s _ _ (Each-itself s.pending) (tt, tt) (tt, tt)
seat_answered _ _ _ (rule.lease_new s from a l r b x y e f g) is =
    newly_gated_answered s _ b x y (asked_for from a l r) e (asked_side s x y (asked_for from a l r) g)
seat_answered _ _ _ (rule.not_begun s n via reason e) is = quietly s _ _ (Each-itself s.pending) (tt, tt) (tt, tt)
seat_answered _ _ _ (rule.idles s n e) is = quietly s _ _ (Each-itself s.pending) (tt, tt) (tt, tt)
seat_answered _ _ _ (rule.stops_asking s n a m e) is = quietly s _ _ (Each-itself s.pending) (tt, (tt, tt)) (tt, (tt, tt))
seat_answered _ _ _ (rule.stops_probing s n a m probed e) is = quietly s _ _ (Each-itself s.pending) (tt, (tt, tt)) (tt, (tt, tt))
seat_answered _ _ _ (rule.refused s from a m w e) is = quietly s _ _ (Each-itself s.pending) (tt, tt) (tt, tt)
seat_answered s _ _ m is = quietly s _ _ (Each-itself s.pending) tt tt

pub step_answered : (s : State) (i : Input) → Answered s i (step s i)
step_answered s i = seat_answered s i (step s i) (step_seat s i) refl
