-- A replica is sent to a leaf, which is ready: so none comes to a joiner.
use Rattle.std.proofs.Common.{◌≡◌, ℕ, not, ◌&&◌, ◌==◌, if◌then◌else◌, Option, Some, None, List, [], ◌∷◌, ◌++◌, filter, position, slice_get, refl, sym, subst}
use Rattle.std.proofs.lemmas.Bool.{cond_both}
use Rattle.ring_math.specs.Names.{Id, Key, FileId, Content, Attempt, Number, Hops}
use Rattle.ring_math.specs.Bytewise.{same_bytes}
use Rattle.ring_math.specs.Keys.{key_of}
use Rattle.ring_math.specs.Sides.{is_in, leaves}
use Rattle.ring_math.specs.Files.{Slot, slot_of, with_slot, has_room}
use Rattle.wire_msg.specs.declared.command.Command.TheVariants as command
use Rattle.wire_msg.specs.declared.reply.Reply.{Reply}
use Rattle.wire_msg.specs.declared.reply.Reply.TheVariants as reply
use Rattle.wire_msg.specs.Words.{Message, Envelope, Lookup, LookupReply, Insert, InsertReply, Fetch, FetchReply, JoinRequest, JoinReply, JoinRefuse, Probe}
use Rattle.wire_msg.specs.Words.{ProbeReply}
use Rattle.wire_msg.specs.Words.{LeaseRequest, Grant, Deny, Handover, Release, Confirm, Announce, Replicate, ReplicaAck, Reclaim, ReclaimReply}
use Rattle.coverage.specs.GapFiles.{Lists}
use Rattle.overlay_rules.specs.declared.entry.Event.{Event}
use Rattle.overlay_rules.specs.declared.entry.Entry.{Entry}
use Rattle.overlay_rules.specs.declared.request.Asked.{Asked}
use Rattle.overlay_rules.specs.declared.request.Asked.TheVariants as asked
use Rattle.overlay_rules.specs.declared.request.Pending.{Pending}
use Rattle.overlay_rules.specs.declared.request.Way.{Way}
use Rattle.overlay_rules.specs.declared.request.Way.TheVariants as way
use Rattle.overlay_rules.specs.State.{State, Phase, Waiting, Asking, Probing, Leasing, Ready}
use Rattle.overlay_rules.specs.Outcome.{Outcome, Input, Command, Comes, Sent, to_both, to_each, reply_message}
use Rattle.overlay_rules.specs.Routed.{way_of, one_more, served, on_lookup}
use Rattle.overlay_rules.specs.Roots.{targets_of, replicated, has_too_few, accepted, inserted, on_insert, is_of, replied_each, emptied, reclaimed, on_reclaim}
use Rattle.overlay_rules.specs.Roots.{on_fetch}
use Rattle.overlay_rules.specs.Replicas.{holding, replicate_at, ack_taken, ack_of, ack_at, awaits, handover_at, on_reply}
use Rattle.overlay_rules.specs.ReadyTest.{ready_test_in, has_all}
use Rattle.overlay_rules.specs.Gates.{asked_for}
use Rattle.overlay_rules.specs.Gatekeeper.{cleared, is_left_to, gated_reach, granted, lists_of}
use Rattle.overlay_rules.specs.Step.{step, waits_for}
use Rattle.overlay_rules.specs.Record.{Setting, World, sent_in, world_at_start}
use Rattle.overlay_rules.proofs.Each.{Each, Each-append, Each-slice_get, Each-weaker}
use Rattle.overlay_rules.proofs.Histories.{sent_in-push, each_envelope, IsFrom}
use Rattle.overlay_rules.proofs.Seat.{Seat, IsServiceInput}
use Rattle.overlay_rules.proofs.Seat as rule
use Rattle.overlay_rules.proofs.Sends.{Each-to_both, Each-to_each, Each-handovers}
use Rattle.overlay_rules.proofs.SeatStep.{step_seat, new_lists}
use Rattle.step_facts.proofs.Always.{Arrives, commanded, delivered, noised, Takes, after_step}
use Rattle.step_facts.proofs.Messages.{ReadyIn, MessagesHold, ready_stays}
use Rattle.table_laws.proofs.Targets.{Each-targets}

abbrev pub GoesReady : (Id → Type 0) → Id → Message → Type 0
GoesReady R to (Replicate origin number file bytes) = R to
GoesReady R to (Lookup origin number key hops) = Unit {0}
GoesReady R to (LookupReply number r) = Unit {0}
GoesReady R to (Insert origin number hops file copies bytes) = Unit {0}
GoesReady R to (InsertReply number r) = Unit {0}
GoesReady R to (Fetch origin number hops file) = Unit {0}
GoesReady R to (FetchReply number r) = Unit {0}
GoesReady R to (JoinRequest joiner a hops) = Unit {0}
GoesReady R to (JoinReply a members) = Unit {0}
GoesReady R to (JoinRefuse a w) = Unit {0}
GoesReady R to (Probe a) = Unit {0}
GoesReady R to (ProbeReply a members) = Unit {0}
GoesReady R to (LeaseRequest a l r) = Unit {0}
GoesReady R to (Grant a manifest tombs) = Unit {0}
GoesReady R to (Deny a w) = Unit {0}
GoesReady R to (Handover file bytes) = Unit {0}
GoesReady R to (Release a) = Unit {0}
GoesReady R to (Confirm a) = Unit {0}
GoesReady R to Announce = Unit {0}
GoesReady R to (ReplicaAck origin number file) = Unit {0}
GoesReady R to (Reclaim origin number hops file) = Unit {0}
GoesReady R to (ReclaimReply number r) = Unit {0}

module _ (R : Id → Type 0) where
  abbrev Goes : Sent → Type 0
  Goes m = GoesReady R m.receiver m.message

  abbrev AllGo : Outcome → Type 0
  AllGo o = Each Goes o.sends

  reply_goes : (what : Asked) (to : Id) (n : Number) (r : Reply) → GoesReady R to (reply_message what n r)
  reply_goes asked.Lookup to n r = tt
  reply_goes asked.Insert to n r = tt
  reply_goes asked.Fetch to n r = tt
  reply_goes asked.Reclaim to n r = tt

  served_goes : (t : State) (what : Asked) (o : Id) (n : Number) (w : Way) (next : Message) (here : Outcome) → ((y : Id) → GoesReady R y next) → AllGo here →
      AllGo (served t what o n w next here)
  served_goes t what o n way.NotReady next here q h = (reply_goes what o n _, tt)
  served_goes t what o n way.Here next here q h = h
  served_goes t what o n (way.Gap j) next here q h = (reply_goes what o n _, tt)
  served_goes t what o n (way.To y) next here q h = (q y, tt)

  copies_go : (ts : List Id) (o : Id) (n : Number) (f : FileId) (b : Content) → Each R ts → Each Goes (to_each ts (Replicate o n f b))
  copies_go [] o n f b h = tt
  copies_go (t ∷ ts) o n f b h = (h.0, copies_go ts o n f b h.1)

  replicated_goes : (t : State) (o : Id) (n : Number) (f : FileId) (b : Content) (targets : List Id) → Each R targets → AllGo (replicated t o n f b targets)
  replicated_goes t o n f b [] h = (tt, tt)
  replicated_goes t o n f b (x ∷ xs) h = copies_go (x ∷ xs) o n f b h

  accepted_goes : (t : State) (o : Id) (n : Number) (f : FileId) (copies : ℕ) (b : Content) → Each R t.known → AllGo (accepted t o n f copies b)
  accepted_goes t o n f copies b h =
      cond_both (has_room t.files) _ _ AllGo
      (λ _. replicated_goes (record t { files = with_slot t.files f (Some b) }) o n f b (targets_of t f copies) (Each-targets R t f copies h)) (λ _. (tt, tt))

  inserted_goes : (t : State) (o : Id) (n : Number) (f : FileId) (copies : ℕ) (b : Content) (s : Option Slot) → Each R t.known →
      AllGo (inserted t o n f copies b s)
  inserted_goes t o n f copies b (Some None) h = (tt, tt)
  inserted_goes t o n f copies b (Some (Some there)) h =
      cond_both (not (same_bytes there b)) _ _ AllGo (λ _. (tt, tt))
      (λ _. cond_both (has_too_few t copies) _ _ AllGo (λ _. (tt, tt))
      (λ _. replicated_goes t o n f b (targets_of t f copies) (Each-targets R t f copies h)))
  inserted_goes t o n f copies b None h = cond_both (has_too_few t copies) _ _ AllGo (λ _. (tt, tt)) (λ _. accepted_goes t o n f copies b h)

  insert_goes : (t : State) (o : Id) (n : Number) (hops : Hops) (f : FileId) (copies : ℕ) (b : Content) → Each R t.known →
      AllGo (on_insert t o n hops f copies b)
  insert_goes t o n hops f copies b h =
      served_goes t asked.Insert o n (way_of t (key_of f)) (Insert o n (one_more hops) f copies b) _ (λ y. tt)
      (inserted_goes t o n f copies b (slot_of t.files f) h)

  each_replied_goes : (t : State) (r : Reply) (ps : List Pending) → Each Goes (replied_each t r ps).sends
  each_replied_goes t r [] = tt
  each_replied_goes t r (p ∷ ps) = (tt, each_replied_goes t r ps)

  reclaimed_goes : (t : State) (o : Id) (n : Number) (f : FileId) (s : Option Slot) → AllGo (reclaimed t o n f s)
  reclaimed_goes t o n f None = (tt, tt)
  reclaimed_goes t o n f (Some None) = (tt, tt)
  reclaimed_goes t o n f (Some (Some b)) = Each-append Goes (replied_each (emptied t f) (reply.Gone t.me) (filter (is_of f) t.pending)).sends _
      (each_replied_goes (emptied t f) (reply.Gone t.me) (filter (is_of f) t.pending)) (tt, tt)

  reclaim_goes : (t : State) (o : Id) (n : Number) (hops : Hops) (f : FileId) → AllGo (on_reclaim t o n hops f)
  reclaim_goes t o n hops f =
      served_goes t asked.Reclaim o n (way_of t (key_of f)) (Reclaim o n (one_more hops) f) _ (λ y. tt) (reclaimed_goes t o n f (slot_of t.files f))

  lookup_goes : (t : State) (o : Id) (n : Number) (key : Key) (hops : Hops) → AllGo (on_lookup t o n key hops)
  lookup_goes t o n key hops = served_goes t asked.Lookup o n (way_of t key) (Lookup o n key (one_more hops)) _ (λ y. tt) (tt, tt)

  fetch_goes : (t : State) (o : Id) (n : Number) (hops : Hops) (f : FileId) → AllGo (on_fetch t o n hops f)
  fetch_goes t o n hops f = served_goes t asked.Fetch o n (way_of t (key_of f)) (Fetch o n (one_more hops) f) _ (λ y. tt) (tt, tt)

  taken_goes : (t : State) (place : ℕ) (p : Pending) (left : List Id) → AllGo (ack_taken t place p left)
  taken_goes t place p [] = (tt, tt)
  taken_goes t place p (y ∷ ys) = tt

  ack_of_goes : (t : State) (from : Id) (place : ℕ) (p : Option Pending) → AllGo (ack_of t from place p)
  ack_of_goes t from place None = tt
  ack_of_goes t from place (Some p) = taken_goes t place p (filter (λ y. not (y == from)) p.awaited)

  ack_goes : (t : State) (from : Id) (place : Option ℕ) → AllGo (ack_at t from place)
  ack_goes t from None = tt
  ack_goes t from (Some place) = ack_of_goes t from place (slice_get t.pending place)

  replicate_goes : (t : State) (from o : Id) (n : Number) (f : FileId) (b : Content) (s : Option Slot) → AllGo (replicate_at t from o n f b s)
  replicate_goes t from o n f b None = cond_both (has_room t.files) _ _ AllGo (λ _. (tt, tt)) (λ _. tt)
  replicate_goes t from o n f b (Some None) = tt
  replicate_goes t from o n f b (Some (Some there)) = cond_both (same_bytes there b) _ _ AllGo (λ _. (tt, tt)) (λ _. tt)

  readied_goes : (l r : Id) (a : Attempt) (ys : List Id) → Each Goes (to_both l r (Confirm a) ++ to_each ys Announce)
  readied_goes l r a ys = Each-append Goes (to_both l r (Confirm a)) (to_each ys Announce) (Each-to_both Goes l r (Confirm a) (λ y. tt))
      (Each-to_each Goes ys Announce (λ y. tt))

  tested_goes : (t : State) (p : Phase) → AllGo (ready_test_in t p)
  tested_goes t (Leasing a n l r (Some gl) (Some gr)) =
      cond_both (has_all t gl && has_all t gr) _ _ AllGo (λ _. readied_goes l r a (leaves t.me t.known)) (λ _. tt)
  tested_goes t (Leasing a n l r (Some gl) None) = tt
  tested_goes t (Leasing a n l r None gr) = tt
  tested_goes t (Waiting a) = tt
  tested_goes t (Asking a n) = tt
  tested_goes t (Probing a n probed) = tt
  tested_goes t (Ready a l r) = tt

  handover_goes : (t : State) (f : FileId) (b : Content) (s : Option Slot) → AllGo (handover_at t f b s)
  handover_goes t f b None = cond_both (has_room t.files) _ _ AllGo (λ _. tested_goes (holding t f b) t.phase) (λ _. tt)
  handover_goes t f b (Some slot) = tt

  on_reply_goes : (t : State) (n : Number) (r : Reply) → AllGo (on_reply t n r)
  on_reply_goes t n r = cond_both (is_in t.waiting n) _ _ AllGo (λ _. tt) (λ _. tt)

  service_goes : (s : State) (i : Input) → IsServiceInput i → Each R s.known → AllGo (step s i)
  service_goes s (Command n (command.Lookup key)) q h = lookup_goes (waits_for s n) s.me n key 0
  service_goes s (Command n (command.Insert f copies b)) q h = insert_goes (waits_for s n) s.me n 0 f copies b h
  service_goes s (Command n (command.Fetch f)) q h = fetch_goes (waits_for s n) s.me n 0 f
  service_goes s (Command n (command.Reclaim f)) q h = reclaim_goes (waits_for s n) s.me n 0 f
  service_goes s (Comes from (Lookup o n key hops)) q h = lookup_goes s o n key hops
  service_goes s (Comes from (Insert o n hops f copies b)) q h = insert_goes s o n hops f copies b h
  service_goes s (Comes from (Fetch o n hops f)) q h = fetch_goes s o n hops f
  service_goes s (Comes from (Reclaim o n hops f)) q h = reclaim_goes s o n hops f
  service_goes s (Comes from (LookupReply n r)) q h = on_reply_goes s n r
  service_goes s (Comes from (InsertReply n r)) q h = on_reply_goes s n r
  service_goes s (Comes from (FetchReply n r)) q h = on_reply_goes s n r
  service_goes s (Comes from (ReclaimReply n r)) q h = on_reply_goes s n r
  service_goes s (Comes from (Handover f b)) q h = handover_goes s f b (slot_of s.files f)
  service_goes s (Comes from (Replicate o n f b)) q h = replicate_goes s from o n f b (slot_of s.files f)
  service_goes s (Comes from (ReplicaAck o n f)) q h = ack_goes s from (position (awaits from o n f) s.pending)
  service_goes s _ q h = absurd q

  granted_goes : (from : Id) (a : Attempt) (lists : Lists) (s : State) → Each Goes (granted from a lists s.files)
  granted_goes from a lists s = (tt, Each-handovers Goes from s.files lists.manifest (λ f b. tt))

  seat_goes : (s : State) (i : Input) (o : Outcome) → Seat s i o → o ≡ step s i → Each R s.known → AllGo o
  seat_goes _ _ _ (rule.serves s i o e f g q) is h = subst AllGo (sym is) (service_goes s i q h)
  seat_goes _ _ _ (rule.request_on s from j a hops y e) is h = (tt, tt)
  seat_goes _ _ _ (rule.request_served s from j a hops b l r e w) is h = (tt, tt)
  seat_goes _ _ _ (rule.request_unready s from j a hops e) is h = (tt, tt)
  seat_goes _ _ _ (rule.request_busy s from j a hops x e) is h = (tt, tt)
  seat_goes _ _ _ (rule.begins s n via a e f) is h = (tt, tt)
  seat_goes _ _ _ (rule.stops_leasing s n a m l r fl fr e) is h = Each-to_both Goes l r (Release a) (λ y. tt)
  seat_goes _ _ _ (rule.probes s from a m heard known y ys e f g) is h = Each-to_each Goes (y ∷ ys) (Probe a) (λ z. tt)
  seat_goes _ _ _ (rule.probes_on s from a m heard known old probed new e f g k) is h = Each-to_each Goes new (Probe a) (λ z. tt)
  seat_goes _ _ _ (rule.leases s from a m heard known old e f) is h = Each-to_both Goes _ _ (LeaseRequest a _ _) (λ z. tt)
  seat_goes _ _ _ (rule.denied s from a m l r fl fr w e) is h = Each-to_both Goes l r (Release a) (λ y. tt)
  seat_goes _ _ _ (rule.grant_older s from a manifest tombs e) is h = (tt, tt)
  seat_goes _ _ _ (rule.grant_settled s from a l r manifest tombs e) is h = (tt, tt)
  seat_goes _ _ _ (rule.grant_readies s t from a m l r fl fr left right manifest tombs e f g k i) is h = readied_goes l r a (leaves t.me t.known)
  seat_goes _ _ _ (rule.file_readies s from a m l r left right file bytes e f g k) is h = readied_goes l r a (leaves s.me s.known)
  seat_goes _ _ _ (rule.probed s from a b l r e) is h = (tt, tt)
  seat_goes _ _ _ (rule.lease_unready s from a l r e) is h = (tt, tt)
  seat_goes _ _ _ (rule.lease_again s from a l r b x y e f) is h = granted_goes from a (lists_of (if s.me == l then s.right_gate else s.left_gate)) s
  seat_goes _ _ _ (rule.lease_busy s from a l r b x y j e f) is h = (tt, tt)
  seat_goes _ _ _ (rule.lease_moved s from a l r b x y e) is h = (tt, tt)
  seat_goes _ _ _ (rule.lease_new s from a l r b x y e f g) is h =
      Each-append Goes (granted from a (new_lists (cleared s from a) x y (asked_for from a l r)) s.files) _
      (granted_goes from a (new_lists (cleared s from a) x y (asked_for from a l r)) s)
      (each_replied_goes _ (reply.Busy s.me from) (filter (is_left_to (gated_reach (cleared s from a) x y (asked_for from a l r)) from) s.pending))
  seat_goes _ _ _ m is h = tt

-- ---- in every world

pub record CopiesGo (w : World) : Type 0 where
  pub sent : Each (λ (v : Envelope). GoesReady (ReadyIn w.states) v.receiver v.message) (sent_in w.past)

more_ready : (R S : Id → Type 0) → ((y : Id) → R y → S y) → (to : Id) (m : Message) → GoesReady R to m → GoesReady S to m
more_ready R S f to (Replicate o n file b) h = f to h
more_ready R S f to _ h = tt

pub copies_go_on : (g : Setting) (w : World) (e : Entry) (x : Id) (i : Input) → Takes g w e x i → MessagesHold g w → CopiesGo w → CopiesGo (after_step w e x i)
copies_go_on g w e x i t h k = record {
  sent = subst (Each Now) (sym (sent_in-push w.past e)) (Each-append Now (sent_in w.past) e.messages
      (Each-weaker (λ (v : Envelope). GoesReady (ReadyIn w.states) v.receiver v.message) Now (sent_in w.past)
      (λ v q. more_ready (ReadyIn w.states) R stays v.receiver v.message q) k.sent)
      (each_envelope Now x e.messages (step (w.states x) i).sends t.messages
      (Each-weaker (λ (m : Sent). GoesReady (ReadyIn w.states) m.receiver m.message) (λ m. (v : Envelope) → IsFrom x m v → Now v) (step (w.states x) i).sends
      (λ m q v f. rw (f.receiver, f.message) (more_ready (ReadyIn w.states) R stays m.receiver m.message q))
      (seat_goes (ReadyIn w.states) (w.states x) i _ (step_seat (w.states x) i) refl (h.knows x).known))));
} where
  R : Id → Type 0
  R = ReadyIn (after_step w e x i).states

  Now : Envelope → Type 0
  Now v = GoesReady R v.receiver v.message

  stays : (y : Id) → ReadyIn w.states y → R y
  stays y r = ready_stays w.states x i y r

pub copies_go_at_start : (g : Setting) → CopiesGo (world_at_start g)
copies_go_at_start g = record { sent = tt }

-- what comes to a node that is not ready is no replica
pub input_goes : (g : Setting) (w : World) (e : Entry) (x : Id) (i : Input) → Takes g w e x i → CopiesGo w → (from : Id) (m : Message) → i ≡ Comes from m →
    GoesReady (ReadyIn w.states) x m
input_goes g w e x i t k from m is = by e.event x i t.arrives is where
  by : (f : Event) (y : Id) (j : Input) → Arrives w f y j → j ≡ Comes from m → GoesReady (ReadyIn w.states) y m
  by _ _ _ (commanded y n c fresh) d = cc
  by _ _ _ (noised y) d = cc
  by _ _ _ (delivered l v f) d = let same : v.message ≡ m = cc in
      subst (GoesReady (ReadyIn w.states) v.receiver) same
      (Each-slice_get (λ (u : Envelope). GoesReady (ReadyIn w.states) u.receiver u.message) (sent_in w.past) l v k.sent f)
