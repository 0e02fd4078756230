-- Where a request goes in one step: on to the next node, back to its origin as a reply, or into the inserts that wait here.
-- A request that comes goes on, and so does each insert that waits.
use Rattle.std.proofs.Common.{◌≡◌, inl, inr, ℕ, suc, Bool, not, ◌&&◌, ◌==◌, Option, Some, None, List, [], ◌∷◌, filter, take, drop}
use Rattle.std.proofs.Common.{position, slice_get, refl, sym, subst, ap, ◌∙◌}
use Rattle.std.proofs.lemmas.Bool.{cond_both, and_parts}
use Rattle.std.proofs.lemmas.Bool.Decides.{Decides-eqb}
use Rattle.ring_math.specs.Names.{Id, Key, FileId, Content, Number, Hops}
use Rattle.ring_math.specs.Bytewise.{same_bytes}
use Rattle.ring_math.specs.Keys.{key_of}
use Rattle.ring_math.specs.Sides.{is_in}
use Rattle.ring_math.specs.Files.{Slot, slot_of, with_slot, has_room}
use Rattle.wire_msg.specs.declared.command.Command.{Command as NodeCommand}
use Rattle.wire_msg.specs.declared.command.Command.TheVariants as command
use Rattle.wire_msg.specs.declared.note.Note.{Note}
use Rattle.wire_msg.specs.declared.note.Note.TheVariants as note
use Rattle.wire_msg.specs.declared.reply.Reply.{Reply}
use Rattle.wire_msg.specs.declared.reply.Reply.TheVariants as reply
use Rattle.wire_msg.specs.Words.{Message, Lookup, LookupReply, Insert, InsertReply, Fetch, FetchReply, JoinRequest, JoinReply, JoinRefuse, Probe, ProbeReply}
use Rattle.wire_msg.specs.Words.{LeaseRequest, Grant, Deny, Handover, Release, Confirm, Announce, Replicate, ReplicaAck, Reclaim, ReclaimReply}
use Rattle.overlay_rules.specs.declared.request.Asked.{Asked}
use Rattle.overlay_rules.specs.declared.request.Asked.TheVariants as asked
use Rattle.overlay_rules.specs.declared.request.Pending.{Pending}
use Rattle.overlay_rules.specs.declared.request.Way.{Way}
use Rattle.overlay_rules.specs.declared.request.Way.TheVariants as way
use Rattle.overlay_rules.specs.State.{State, Phase, Waiting, Asking, Probing, Leasing, Ready}
use Rattle.overlay_rules.specs.Outcome.{Outcome, Input, Command, Comes, Sent, nothing, before, replied}
use Rattle.overlay_rules.specs.Routed.{way_of, one_more, served, on_lookup}
use Rattle.overlay_rules.specs.Roots.{is_ask, with_ask, targets_of, replicated, has_too_few, accepted, inserted, on_insert, is_of, replied_each, emptied}
use Rattle.overlay_rules.specs.Roots.{reclaimed}
use Rattle.overlay_rules.specs.Roots.{on_reclaim, on_fetch}
use Rattle.overlay_rules.specs.Replicas.{holding, replicate_at, ack_taken, ack_of, ack_at, awaits, handover_at, on_reply}
use Rattle.overlay_rules.specs.ReadyTest.{ready_test_in, has_all}
use Rattle.overlay_rules.specs.Gates.{asked_for}
use Rattle.overlay_rules.specs.Gatekeeper.{cleared, is_left_to, gated_reach, granted}
use Rattle.overlay_rules.specs.Step.{step, waits_for}
use Rattle.overlay_rules.proofs.Seat.{Seat, IsServiceInput}
use Rattle.overlay_rules.proofs.Seat as rule
use Rattle.overlay_rules.proofs.SeatStep.{new_lists}
use Rattle.ring_laws.proofs.Numbers.{IsRequest}
use Rattle.quiet_laws.proofs.Has.{Has, Has-left, Has-right, Has-append, Has-split, Has-without}

-- the message is the request of command n of node a
abbrev pub Asks : Id → Number → Message → Type 0
Asks a n (Lookup origin number key hops) = (origin ≡ a) × (number ≡ n)
Asks a n (Insert origin number hops file copies bytes) = (origin ≡ a) × (number ≡ n)
Asks a n (Fetch origin number hops file) = (origin ≡ a) × (number ≡ n)
Asks a n (Reclaim origin number hops file) = (origin ≡ a) × (number ≡ n)
Asks a n (LookupReply number r) = ⊥
Asks a n (InsertReply number r) = ⊥
Asks a n (FetchReply number r) = ⊥
Asks a n (ReclaimReply number r) = ⊥
Asks a n (JoinRequest joiner t hops) = ⊥
Asks a n (JoinReply t members) = ⊥
Asks a n (JoinRefuse t w) = ⊥
Asks a n (Probe t) = ⊥
Asks a n (ProbeReply t members) = ⊥
Asks a n (LeaseRequest t l r) = ⊥
Asks a n (Grant t manifest tombs) = ⊥
Asks a n (Deny t w) = ⊥
Asks a n (Handover file bytes) = ⊥
Asks a n (Release t) = ⊥
Asks a n (Confirm t) = ⊥
Asks a n Announce = ⊥
Asks a n (Replicate origin number file bytes) = ⊥
Asks a n (ReplicaAck origin number file) = ⊥

-- the message is the reply to number n
abbrev pub Replies : Number → Message → Type 0
Replies n (LookupReply number r) = number ≡ n
Replies n (InsertReply number r) = number ≡ n
Replies n (FetchReply number r) = number ≡ n
Replies n (ReclaimReply number r) = number ≡ n
Replies n (Lookup origin number key hops) = ⊥
Replies n (Insert origin number hops file copies bytes) = ⊥
Replies n (Fetch origin number hops file) = ⊥
Replies n (Reclaim origin number hops file) = ⊥
Replies n (JoinRequest joiner t hops) = ⊥
Replies n (JoinReply t members) = ⊥
Replies n (JoinRefuse t w) = ⊥
Replies n (Probe t) = ⊥
Replies n (ProbeReply t members) = ⊥
Replies n (LeaseRequest t l r) = ⊥
Replies n (Grant t manifest tombs) = ⊥
Replies n (Deny t w) = ⊥
Replies n (Handover file bytes) = ⊥
Replies n (Release t) = ⊥
Replies n (Confirm t) = ⊥
Replies n Announce = ⊥
Replies n (Replicate origin number file bytes) = ⊥
Replies n (ReplicaAck origin number file) = ⊥

-- the insert that waits is command n of node a
abbrev pub IsAskOf : Id → Number → Pending → Type 0
IsAskOf a n p = (p.origin ≡ a) × (p.number ≡ n)

pub data Goes (a : Id) (n : Number) (o : Outcome) : Type 0 where
  on : Has (λ (s : Sent). Asks a n s.message) o.sends → Goes a n o
  back : Has (λ (s : Sent). (s.receiver ≡ a) × Replies n s.message) o.sends → Goes a n o
  stays : Has (IsAskOf a n) o.state.pending → Goes a n o

-- a note more changes nothing
noted : (a : Id) (n : Number) (note : Note) (o : Outcome) → Goes a n o → Goes a n (before [] (note ∷ []) o)
noted a n k o (on h) = on h
noted a n k o (back h) = back h
noted a n k o (stays h) = stays h

-- two parts that are the same
pair : (a b : Id) (m n : Number) → a ≡ b → m ≡ n → Path (Id × Number) (a, m) (b, n)
pair a b m n e f = λ i. (e i, f i)

module _ (a : Id) (n : Number) where
  replied_goes : (t : State) (what : Asked) (r : Reply) → Goes a n (replied t what a n r)
  replied_goes t asked.Lookup r = back (inl (refl, refl))
  replied_goes t asked.Insert r = back (inl (refl, refl))
  replied_goes t asked.Fetch r = back (inl (refl, refl))
  replied_goes t asked.Reclaim r = back (inl (refl, refl))

  -- ---- a request that comes

  served_goes : (t : State) (what : Asked) (w : Way) (next : Message) (here : Outcome) → Asks a n next → Goes a n here →
      Goes a n (served t what a n w next here)
  served_goes t what way.NotReady next here q h = replied_goes t what _
  served_goes t what way.Here next here q h = h
  served_goes t what (way.Gap j) next here q h = replied_goes t what _
  served_goes t what (way.To y) next here q h = on (inl q)

  pub lookup_goes : (t : State) (key : Key) (hops : Hops) → Goes a n (on_lookup t a n key hops)
  lookup_goes t key hops = served_goes t asked.Lookup (way_of t key) (Lookup a n key (one_more hops)) _ (refl, refl) (back (inl (refl, refl)))

  pub fetch_goes : (t : State) (hops : Hops) (file : FileId) → Goes a n (on_fetch t a n hops file)
  fetch_goes t hops file =
      served_goes t asked.Fetch (way_of t (key_of file)) (Fetch a n (one_more hops) file) _ (refl, refl) (back (inl (refl, refl)))

  replicated_goes : (t : State) (file : FileId) (bytes : Content) (targets : List Id) → Goes a n (replicated t a n file bytes targets)
  replicated_goes t file bytes [] = replied_goes t asked.Insert _
  replicated_goes t file bytes (x ∷ xs) = stays (Has-right (IsAskOf a n) (filter (λ q. not (is_ask a n q)) t.pending) _ (inl (refl, refl)))

  accepted_goes : (t : State) (file : FileId) (copies : ℕ) (bytes : Content) → Goes a n (accepted t a n file copies bytes)
  accepted_goes t file copies bytes =
      cond_both (has_room t.files) _ _ (Goes a n)
      (λ _. noted a n (note.Accepted file bytes) _
      (replicated_goes (record t { files = with_slot t.files file (Some bytes) }) file bytes (targets_of t file copies)))
      (λ _. replied_goes t asked.Insert _)

  inserted_goes : (t : State) (file : FileId) (copies : ℕ) (bytes : Content) (h : Option Slot) → Goes a n (inserted t a n file copies bytes h)
  inserted_goes t file copies bytes (Some None) = replied_goes t asked.Insert _
  inserted_goes t file copies bytes (Some (Some there)) =
      cond_both (not (same_bytes there bytes)) _ _ (Goes a n) (λ _. replied_goes t asked.Insert _)
      (λ _. cond_both (has_too_few t copies) _ _ (Goes a n) (λ _. replied_goes t asked.Insert _)
      (λ _. replicated_goes t file bytes (targets_of t file copies)))
  inserted_goes t file copies bytes None =
      cond_both (has_too_few t copies) _ _ (Goes a n) (λ _. replied_goes t asked.Insert _) (λ _. accepted_goes t file copies bytes)

  pub insert_goes : (t : State) (hops : Hops) (file : FileId) (copies : ℕ) (bytes : Content) → Goes a n (on_insert t a n hops file copies bytes)
  insert_goes t hops file copies bytes =
      served_goes t asked.Insert (way_of t (key_of file)) (Insert a n (one_more hops) file copies bytes) _ (refl, refl)
      (inserted_goes t file copies bytes (slot_of t.files file))

  reclaimed_goes : (t : State) (file : FileId) (h : Option Slot) → Goes a n (reclaimed t a n file h)
  reclaimed_goes t file None = replied_goes t asked.Reclaim _
  reclaimed_goes t file (Some None) = replied_goes t asked.Reclaim _
  reclaimed_goes t file (Some (Some bytes)) =
      back (Has-right (λ (s : Sent). (s.receiver ≡ a) × Replies n s.message)
      (replied_each (emptied t file) (reply.Gone t.me) (filter (is_of file) t.pending)).sends _ (inl (refl, refl)))

  pub reclaim_goes : (t : State) (hops : Hops) (file : FileId) → Goes a n (on_reclaim t a n hops file)
  reclaim_goes t hops file =
      served_goes t asked.Reclaim (way_of t (key_of file)) (Reclaim a n (one_more hops) file) _ (refl, refl)
      (reclaimed_goes t file (slot_of t.files file))

  -- ---- an insert that waits

  waits_in : (t : State) → Has (IsAskOf a n) t.pending → Goes a n (nothing t)
  waits_in t h = stays h

  served_stays : (t : State) (what : Asked) (o : Id) (m : Number) (w : Way) (next : Message) (here : Outcome) → Has (IsAskOf a n) t.pending → Goes a n here →
      Goes a n (served t what o m w next here)
  served_stays t what o m way.NotReady next here h k = stays h
  served_stays t what o m way.Here next here h k = k
  served_stays t what o m (way.Gap j) next here h k = stays h
  served_stays t what o m (way.To y) next here h k = stays h

  -- another ask takes the place of one of the same command alone
  asked_again : (ps : List Pending) (p : Pending) → Has (IsAskOf a n) ps → Has (IsAskOf a n) (with_ask ps p)
  asked_again ps p h = elim (Has-split (IsAskOf a n) (is_ask p.origin p.number) ps h) [
    | inl same ↦ Has-right (IsAskOf a n) (filter (λ q. not (is_ask p.origin p.number q)) ps) (p ∷ []) (inl (is_same ps same))
    | inr other ↦ Has-left (IsAskOf a n) (filter (λ q. not (is_ask p.origin p.number q)) ps) (p ∷ []) other
  ] where
    is_same : (qs : List Pending) → Has (IsAskOf a n) (filter (is_ask p.origin p.number) qs) → IsAskOf a n p
    is_same [] k = absurd k
    is_same (q ∷ qs) k =
        cond_both (is_ask p.origin p.number q) (q ∷ filter (is_ask p.origin p.number) qs) (filter (is_ask p.origin p.number) qs)
        (λ zs. Has (IsAskOf a n) zs → IsAskOf a n p)
        (λ e j. elim j [
          | inl is ↦ let both = and_parts (q.origin == p.origin) (q.number == p.number) e in
              (sym ((Decides-eqb q.origin p.origin).0 both.0) ∙ is.0, sym ((Decides-eqb q.number p.number).0 both.1) ∙ is.1)
          | inr rest ↦ is_same qs rest
        ])
        (λ e j. is_same qs j) k

  replicated_stays : (t : State) (o : Id) (m : Number) (file : FileId) (bytes : Content) (targets : List Id) → Has (IsAskOf a n) t.pending →
      Goes a n (replicated t o m file bytes targets)
  replicated_stays t o m file bytes [] h = stays h
  replicated_stays t o m file bytes (x ∷ xs) h = stays (asked_again t.pending _ h)

  accepted_stays : (t : State) (o : Id) (m : Number) (file : FileId) (copies : ℕ) (bytes : Content) → Has (IsAskOf a n) t.pending →
      Goes a n (accepted t o m file copies bytes)
  accepted_stays t o m file copies bytes h =
      cond_both (has_room t.files) _ _ (Goes a n)
      (λ _. noted a n (note.Accepted file bytes) _
      (replicated_stays (record t { files = with_slot t.files file (Some bytes) }) o m file bytes (targets_of t file copies) h))
      (λ _. stays h)

  inserted_stays : (t : State) (o : Id) (m : Number) (file : FileId) (copies : ℕ) (bytes : Content) (s : Option Slot) → Has (IsAskOf a n) t.pending →
      Goes a n (inserted t o m file copies bytes s)
  inserted_stays t o m file copies bytes (Some None) h = stays h
  inserted_stays t o m file copies bytes (Some (Some there)) h =
      cond_both (not (same_bytes there bytes)) _ _ (Goes a n) (λ _. stays h)
      (λ _. cond_both (has_too_few t copies) _ _ (Goes a n) (λ _. stays h) (λ _. replicated_stays t o m file bytes (targets_of t file copies) h))
  inserted_stays t o m file copies bytes None h =
      cond_both (has_too_few t copies) _ _ (Goes a n) (λ _. stays h) (λ _. accepted_stays t o m file copies bytes h)

  -- each that is ended is replied
  each_replied : (t : State) (r : Reply) (ps : List Pending) → Has (IsAskOf a n) ps →
      Has (λ (s : Sent). (s.receiver ≡ a) × Replies n s.message) (replied_each t r ps).sends
  each_replied t r [] h = absurd h
  each_replied t r (p ∷ ps) (inl is) = inl is
  each_replied t r (p ∷ ps) (inr h) = inr (each_replied t r ps h)

  reclaimed_stays : (t : State) (o : Id) (m : Number) (file : FileId) (s : Option Slot) → Has (IsAskOf a n) t.pending → Goes a n (reclaimed t o m file s)
  reclaimed_stays t o m file None h = stays h
  reclaimed_stays t o m file (Some None) h = stays h
  reclaimed_stays t o m file (Some (Some bytes)) h = elim (Has-split (IsAskOf a n) (is_of file) t.pending h) [
    | inl ended ↦ back (Has-left (λ (s : Sent). (s.receiver ≡ a) × Replies n s.message)
        (replied_each (emptied t file) (reply.Gone t.me) (filter (is_of file) t.pending)).sends _
        (each_replied (emptied t file) (reply.Gone t.me) (filter (is_of file) t.pending) ended))
    | inr left ↦ stays left
  ]

  taken_stays : (t : State) (place : ℕ) (p : Pending) (left : List Id) → slice_get t.pending place ≡ Some p → Has (IsAskOf a n) t.pending →
      Goes a n (ack_taken t place p left)
  taken_stays t place p [] e h = elim (Has-without (IsAskOf a n) t.pending place p e h) [ inl is ↦ back (inl is) | inr k ↦ stays k ]
  taken_stays t place p (y ∷ ys) e h = elim (Has-without (IsAskOf a n) t.pending place p e h) [
    | inl is ↦ stays (Has-right (IsAskOf a n) (take place t.pending) _ (inl is))
    | inr k ↦ elim (Has-append (IsAskOf a n) (take place t.pending) (drop (suc place) t.pending) k) [
      | inl first ↦ stays (Has-left (IsAskOf a n) (take place t.pending) _ first)
      | inr last ↦ stays (Has-right (IsAskOf a n) (take place t.pending) _ (inr last))
    ]
  ]

  ack_stays : (t : State) (from : Id) (place : Option ℕ) → Has (IsAskOf a n) t.pending → Goes a n (ack_at t from place)
  ack_stays t from None h = stays h
  ack_stays t from (Some place) h = by (slice_get t.pending place) refl where
    by : (x : Option Pending) → slice_get t.pending place ≡ x → Goes a n (ack_of t from place x)
    by None e = stays h
    by (Some p) e = taken_stays t place p (filter (λ y. not (y == from)) p.awaited) e h

  replicate_stays : (t : State) (from o : Id) (m : Number) (file : FileId) (bytes : Content) (s : Option Slot) → Has (IsAskOf a n) t.pending →
      Goes a n (replicate_at t from o m file bytes s)
  replicate_stays t from o m file bytes None h = cond_both (has_room t.files) _ _ (Goes a n) (λ _. stays h) (λ _. stays h)
  replicate_stays t from o m file bytes (Some None) h = stays h
  replicate_stays t from o m file bytes (Some (Some there)) h = cond_both (same_bytes there bytes) _ _ (Goes a n) (λ _. stays h) (λ _. stays h)

  tested_stays : (t : State) (p : Phase) → Has (IsAskOf a n) t.pending → Goes a n (ready_test_in t p)
  tested_stays t (Leasing b m l r (Some gl) (Some gr)) h = cond_both (has_all t gl && has_all t gr) _ _ (Goes a n) (λ _. stays h) (λ _. stays h)
  tested_stays t (Leasing b m l r (Some gl) None) h = stays h
  tested_stays t (Leasing b m l r None gr) h = stays h
  tested_stays t (Waiting b) h = stays h
  tested_stays t (Asking b m) h = stays h
  tested_stays t (Probing b m probed) h = stays h
  tested_stays t (Ready b l r) h = stays h

  handover_stays : (t : State) (file : FileId) (bytes : Content) (s : Option Slot) → Has (IsAskOf a n) t.pending → Goes a n (handover_at t file bytes s)
  handover_stays t file bytes None h = cond_both (has_room t.files) _ _ (Goes a n) (λ _. tested_stays (holding t file bytes) t.phase h) (λ _. stays h)
  handover_stays t file bytes (Some slot) h = stays h

  reply_stays : (t : State) (m : Number) (r : Reply) → Has (IsAskOf a n) t.pending → Goes a n (on_reply t m r)
  reply_stays t m r h = cond_both (is_in t.waiting m) _ _ (Goes a n) (λ _. stays h) (λ _. stays h)

  lookup_stays : (t : State) (o : Id) (m : Number) (key : Key) (hops : Hops) → Has (IsAskOf a n) t.pending → Goes a n (on_lookup t o m key hops)
  lookup_stays t o m key hops h = served_stays t asked.Lookup o m (way_of t key) _ _ h (stays h)

  fetch_stays : (t : State) (o : Id) (m : Number) (hops : Hops) (file : FileId) → Has (IsAskOf a n) t.pending → Goes a n (on_fetch t o m hops file)
  fetch_stays t o m hops file h = served_stays t asked.Fetch o m (way_of t (key_of file)) _ _ h (stays h)

  insert_stays : (t : State) (o : Id) (m : Number) (hops : Hops) (file : FileId) (copies : ℕ) (bytes : Content) → Has (IsAskOf a n) t.pending →
      Goes a n (on_insert t o m hops file copies bytes)
  insert_stays t o m hops file copies bytes h =
      served_stays t asked.Insert o m (way_of t (key_of file)) _ _ h (inserted_stays t o m file copies bytes (slot_of t.files file) h)

  reclaim_stays : (t : State) (o : Id) (m : Number) (hops : Hops) (file : FileId) → Has (IsAskOf a n) t.pending → Goes a n (on_reclaim t o m hops file)
  reclaim_stays t o m hops file h =
      served_stays t asked.Reclaim o m (way_of t (key_of file)) _ _ h (reclaimed_stays t o m file (slot_of t.files file) h)

  service_stays : (s : State) (i : Input) → IsServiceInput i → Has (IsAskOf a n) s.pending → Goes a n (step s i)
  service_stays s (Command m (command.Lookup key)) k h = lookup_stays (waits_for s m) s.me m key 0 h
  service_stays s (Command m (command.Insert f copies b)) k h = insert_stays (waits_for s m) s.me m 0 f copies b h
  service_stays s (Command m (command.Fetch f)) k h = fetch_stays (waits_for s m) s.me m 0 f h
  service_stays s (Command m (command.Reclaim f)) k h = reclaim_stays (waits_for s m) s.me m 0 f h
  service_stays s (Comes from (Lookup o m key hops)) k h = lookup_stays s o m key hops h
  service_stays s (Comes from (LookupReply m r)) k h = reply_stays s m r h
  service_stays s (Comes from (Insert o m hops f copies b)) k h = insert_stays s o m hops f copies b h
  service_stays s (Comes from (InsertReply m r)) k h = reply_stays s m r h
  service_stays s (Comes from (Fetch o m hops f)) k h = fetch_stays s o m hops f h
  service_stays s (Comes from (FetchReply m r)) k h = reply_stays s m r h
  service_stays s (Comes from (Handover f b)) k h = handover_stays s f b (slot_of s.files f) h
  service_stays s (Comes from (Replicate o m f b)) k h = replicate_stays s from o m f b (slot_of s.files f) h
  service_stays s (Comes from (ReplicaAck o m f)) k h = ack_stays s from (position (awaits from o m f) s.pending) h
  service_stays s (Comes from (Reclaim o m hops f)) k h = reclaim_stays s o m hops f h
  service_stays s (Comes from (ReclaimReply m r)) k h = reply_stays s m r h
  service_stays s _ k h = absurd k

  -- each rule
  pub seat_stays : (s : State) (i : Input) (o : Outcome) → Seat s i o → o ≡ step s i → Has (IsAskOf a n) s.pending → Goes a n o
  seat_stays _ _ _ (rule.serves s i o e f g q) is h = subst (Goes a n) (sym is) (service_stays s i q h)
  seat_stays _ _ _ (rule.grant_readies s t from b m l r fl fr left right manifest tombs e f g k i) is h =
      stays (subst (Has (IsAskOf a n)) (sym (ap (λ (u : State). u.pending) f)) h)
  seat_stays _ _ _ (rule.lease_new s from b l r c x y e f g) is h = elim (Has-split (IsAskOf a n) gone s.pending h) [
    | inl ended ↦ back (Has-right (λ (u : Sent). (u.receiver ≡ a) × Replies n u.message)
        (granted from b (new_lists (cleared s from b) x y (asked_for from b l r)) s.files) _
        (each_replied _ (reply.Busy s.me from) (filter gone s.pending) ended))
    | inr left ↦ stays left
  ] where
    gone : Pending → Bool
    gone = is_left_to (gated_reach (cleared s from b) x y (asked_for from b l r)) from
  seat_stays s _ _ m is h = stays h

  -- a request that comes goes on
  pub came_goes : (s : State) (from : Id) (m : Message) → Asks a n m → Goes a n (step s (Comes from m))
  came_goes s from (Lookup o k key hops) q =
      subst (λ z. Goes a n (on_lookup s (z.0) (z.1) key hops)) (pair a o n k (sym q.0) (sym q.1)) (lookup_goes s key hops)
  came_goes s from (Insert o k hops f copies b) q =
      subst (λ z. Goes a n (on_insert s (z.0) (z.1) hops f copies b)) (pair a o n k (sym q.0) (sym q.1)) (insert_goes s hops f copies b)
  came_goes s from (Fetch o k hops f) q =
      subst (λ z. Goes a n (on_fetch s (z.0) (z.1) hops f)) (pair a o n k (sym q.0) (sym q.1)) (fetch_goes s hops f)
  came_goes s from (Reclaim o k hops f) q =
      subst (λ z. Goes a n (on_reclaim s (z.0) (z.1) hops f)) (pair a o n k (sym q.0) (sym q.1)) (reclaim_goes s hops f)
  came_goes s from _ q = absurd q

-- a request that is commanded goes on
pub commanded_goes : (s : State) (n : Number) (c : NodeCommand) → IsRequest c → Goes s.me n (step s (Command n c))
commanded_goes s n (command.Lookup key) q = lookup_goes s.me n (waits_for s n) key 0
commanded_goes s n (command.Insert f copies b) q = insert_goes s.me n (waits_for s n) 0 f copies b
commanded_goes s n (command.Fetch f) q = fetch_goes s.me n (waits_for s n) 0 f
commanded_goes s n (command.Reclaim f) q = reclaim_goes s.me n (waits_for s n) 0 f
commanded_goes s n (command.Join via) q = absurd q
commanded_goes s n command.GiveUp q = absurd q
