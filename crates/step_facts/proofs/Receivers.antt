-- Each message goes to a node of the setting, where each Join goes by way of one. P says of an identifier that it is a node.
use Rattle.std.proofs.Common.{◌≡◌, ℕ, ◌-◌, Bool, not, ◌&&◌, ◌==◌, if◌then◌else◌, Option, Some, None, List, [], ◌∷◌, ◌++◌, filter, position, slice_get, length}
use Rattle.std.proofs.Common.{Contains, refl, sym, subst, ◌∙◌}
use Rattle.std.proofs.Math.Seq.{take-length}
use Rattle.std.proofs.lemmas.Bool.{cond_both}
use Rattle.std.proofs.lemmas.List.Elements.{All-contains, Contains-append_left, Contains-push}
use Rattle.ring_math.specs.Names.{Id, Key, FileId, Content, Attempt, Number, Hops}
use Rattle.ring_math.specs.Bytewise.{same_bytes}
use Rattle.ring_math.specs.Keys.{key_of}
use Rattle.ring_math.specs.Ring.{is_nearer, digit_of, shared_of}
use Rattle.ring_math.specs.Sides.{is_in, is_entry, leaves, entry_of, entries_of}
use Rattle.ring_math.specs.Files.{Slot, slot_of, has_room}
use Rattle.coverage.specs.declared.Hop.{Hop}
use Rattle.coverage.specs.declared.Hop.TheVariants as hop
use Rattle.coverage.specs.declared.Reach.{Reach}
use Rattle.coverage.specs.Closest.{closest_in}
use Rattle.coverage.specs.Coverage.{covers_of, gap_of}
use Rattle.coverage.specs.GapFiles.{Lists}
use Rattle.coverage.specs.NextHop.{in_leaf_range, is_better, to_nearest, to_leaf, to_better, to_any, to_entry, by_prefix, onward, unless_gap, next_hop_of}
use Rattle.coverage.proofs.Leaves.{entry_is_known}
use Rattle.coverage.proofs.Nearest.{closest_in-closest}
use Rattle.wire_msg.specs.declared.command.Command.{Command as NodeCommand}
use Rattle.wire_msg.specs.declared.command.Command.TheVariants as command
use Rattle.wire_msg.specs.declared.reply.Reply.{Reply}
use Rattle.wire_msg.specs.declared.reply.Reply.TheVariants as reply
use Rattle.wire_msg.specs.Words.{Message, Envelope, Sent, Lookup, LookupReply, Insert, InsertReply, Fetch, FetchReply, JoinRequest, JoinReply, JoinRefuse}
use Rattle.wire_msg.specs.Words.{Probe, ProbeReply, LeaseRequest, Grant, Deny, Handover, Release, Confirm, Announce, Replicate, ReplicaAck, Reclaim}
use Rattle.wire_msg.specs.Words.{ReclaimReply}
use Rattle.overlay_rules.specs.declared.entry.Event.{Event}
use Rattle.overlay_rules.specs.declared.entry.Event.TheVariants as event
use Rattle.overlay_rules.specs.declared.entry.Entry.{Entry}
use Rattle.overlay_rules.specs.declared.request.Asked.{Asked}
use Rattle.overlay_rules.specs.declared.request.Asked.TheVariants as asked
use Rattle.overlay_rules.specs.declared.request.Pending.{Pending}
use Rattle.overlay_rules.specs.declared.request.Way.{Way}
use Rattle.overlay_rules.specs.declared.request.Way.TheVariants as way
use Rattle.overlay_rules.specs.State.{State, Phase, Waiting, Asking, Probing, Leasing, Ready, reach}
use Rattle.overlay_rules.specs.Outcome.{Outcome, Input, Command, Comes, Noise, sent, to_both, to_each, reply_message}
use Rattle.overlay_rules.specs.Routed.{way_by, way_in, way_of, one_more, served, on_lookup}
use Rattle.overlay_rules.specs.Roots.{placed_near, nearest_to, targets_of, replicated, has_too_few, inserted, on_insert, is_of, replied_each, emptied}
use Rattle.overlay_rules.specs.Roots.{reclaimed, on_reclaim, on_fetch}
use Rattle.overlay_rules.specs.Replicas.{holding, replicate_at, ack_taken, ack_of, ack_at, awaits, handover_at, on_reply}
use Rattle.overlay_rules.specs.ReadyTest.{ready_test_in, has_all}
use Rattle.overlay_rules.specs.Gates.{asked_for}
use Rattle.overlay_rules.specs.Gatekeeper.{cleared, is_left_to, gated_reach, granted, lists_of}
use Rattle.overlay_rules.specs.Step.{step, waits_for}
use Rattle.overlay_rules.specs.Record.{Setting, IsSetting, World, IsRecord, sent_in, world_at_start, world_after}
use Rattle.overlay_rules.proofs.Each.{Each, Each-all, Each-append, Each-both, Each-contains, Each-filter, Each-slice_get, Each-take, Each-weaker}
use Rattle.overlay_rules.proofs.Histories.{sent_in-push, state_at-itself, state_at-each, past_after, IsFrom, each_envelope}
use Rattle.overlay_rules.proofs.Seat.{Seat, IsServiceInput}
use Rattle.overlay_rules.proofs.Seat as rule
use Rattle.overlay_rules.proofs.SeatStep.{step_seat, new_lists}
use Rattle.overlay_rules.proofs.Sends.{Each-handovers}
use Rattle.step_facts.specs.Receivers.{ViaIs, ViasAre, ReceiversAre}
use Rattle.step_facts.proofs.Always.{Arrives, commanded, delivered, noised, Takes, Keeps, after_step, always}
use Rattle.step_facts.proofs.Knows.{PhaseKnows, Knows, Knows-weaker}
use Rattle.step_facts.proofs.Learnt.{Each-leaves}
use Rattle.step_facts.proofs.Messages.{ReadyIn, Holds, MessagesHold, messages_at_start, messages_keep, start_pending}
use Rattle.step_facts.proofs.Requests.{Carries, AsksFor, CommandCarries, InputCarries, Requested, seat_requested}

module _ (P : Id → Type 0) where
  -- ---- the next hop is known

  abbrev OnTo : Way → Type 0
  OnTo (way.To y) = P y
  OnTo way.NotReady = Unit {0}
  OnTo way.Here = Unit {0}
  OnTo (way.Gap j) = Unit {0}

  abbrev Leads : Hop → Type 0
  Leads h = OnTo (way_by h)

  each_closest : (xs : List Id) (key : Key) (y : Id) → Each P xs → closest_in key xs ≡ Some y → P y
  each_closest xs key y h e = Each-contains P xs y h (closest_in-closest xs key y e).member

  nearest_leads : (o : Option Id) → ((y : Id) → o ≡ Some y → P y) → Leads (to_nearest o)
  nearest_leads None f = tt
  nearest_leads (Some y) f = f y refl

  module _ (me : Id) (known : List Id) (key : Key) (h : Each P known) where
    leaf_leads : Leads (to_leaf me known key)
    leaf_leads = nearest_leads (closest_in key (leaves me known)) (λ y. each_closest (leaves me known) key y (Each-leaves P me known h))

    better_leads : (o : Option Id) → ((y : Id) → o ≡ Some y → P y) → Leads (to_better me known key o)
    better_leads None f = leaf_leads
    better_leads (Some y) f = f y refl

    any_leads : Leads (to_any me known key)
    any_leads = better_leads (closest_in key (filter (is_better me key) xs)) (λ y. each_closest _ key y (Each-filter P (is_better me key) xs all)) where
      xs : List Id
      xs = leaves me known ++ entries_of me known

      all : Each P xs
      all = Each-append P (leaves me known) _ (Each-leaves P me known h) (Each-filter P (is_entry me known) known h)

    entry_leads : (o : Option Id) → ((y : Id) → o ≡ Some y → P y) → Leads (to_entry me known key o)
    entry_leads None f = any_leads
    entry_leads (Some y) f = cond_both (is_nearer y me key) (hop.To y) (to_any me known key) Leads (λ _. f y refl) (λ _. any_leads)

    onward_leads : Leads (onward me known key)
    onward_leads =
        cond_both (in_leaf_range me known key) (to_leaf me known key) (by_prefix me known key) Leads (λ _. leaf_leads)
        (λ _. entry_leads (entry_of me known (shared_of me key) (digit_of key (shared_of me key)))
        (λ y e. Each-contains P known y h (entry_is_known me (shared_of me key) (digit_of key (shared_of me key)) known y e)))

  next_leads : (r : Reach) (known : List Id) (key : Key) → Each P known → Leads (next_hop_of r known key)
  next_leads r known key h = cond_both (covers_of r key) hop.Here (unless_gap r known key (gap_of r key)) Leads (λ _. tt) (λ _. by (gap_of r key)) where
    by : (o : Option Id) → Leads (unless_gap r known key o)
    by (Some j) = tt
    by None = onward_leads r.me known key h

  way_leads : (s : State) (key : Key) (p : Phase) → Each P s.known → OnTo (way_in s key p)
  way_leads s key (Ready a l r) h = next_leads (reach s l r) s.known key h
  way_leads s key (Waiting a) h = tt
  way_leads s key (Asking a n) h = tt
  way_leads s key (Probing a n probed) h = tt
  way_leads s key (Leasing a n l r fl fr) h = tt

  -- ---- lists of messages

  -- a join request names a node
  abbrev Joins : Message → Type 0
  Joins (JoinRequest joiner a hops) = P joiner
  Joins (Lookup origin number key hops) = Unit {0}
  Joins (LookupReply number r) = Unit {0}
  Joins (Insert origin number hops file copies bytes) = Unit {0}
  Joins (InsertReply number r) = Unit {0}
  Joins (Fetch origin number hops file) = Unit {0}
  Joins (FetchReply number r) = Unit {0}
  Joins (JoinReply a members) = Unit {0}
  Joins (JoinRefuse a w) = Unit {0}
  Joins (Probe a) = Unit {0}
  Joins (ProbeReply a members) = Unit {0}
  Joins (LeaseRequest a l r) = Unit {0}
  Joins (Grant a manifest tombs) = Unit {0}
  Joins (Deny a w) = Unit {0}
  Joins (Handover file bytes) = Unit {0}
  Joins (Release a) = Unit {0}
  Joins (Confirm a) = Unit {0}
  Joins Announce = Unit {0}
  Joins (Replicate origin number file bytes) = Unit {0}
  Joins (ReplicaAck origin number file) = Unit {0}
  Joins (Reclaim origin number hops file) = Unit {0}
  Joins (ReclaimReply number r) = Unit {0}

  abbrev Goes : Sent → Type 0
  Goes m = P m.receiver × Joins m.message

  abbrev AllGo : Outcome → Type 0
  AllGo o = Each Goes o.sends

  each_goes : (ys : List Id) (m : Message) → Joins m → Each P ys → Each Goes (to_each ys m)
  each_goes [] m j h = tt
  each_goes (y ∷ ys) m j h = ((h.0, j), each_goes ys m j h.1)

  both_go : (l r : Id) (m : Message) → Joins m → P l × P r → Each Goes (to_both l r m)
  both_go l r m j h = cond_both (l == r) (sent l m ∷ []) (sent l m ∷ (sent r m ∷ [])) (Each Goes) (λ _. ((h.0, j), tt)) (λ _. ((h.0, j), ((h.1, j), tt)))

  ready_goes : (l r : Id) (a : Attempt) (ys : List Id) → P l × P r → Each P ys → Each Goes (to_both l r (Confirm a) ++ to_each ys Announce)
  ready_goes l r a ys h t = Each-append Goes (to_both l r (Confirm a)) _ (both_go l r (Confirm a) tt h) (each_goes ys Announce tt t)

  -- ---- inserts at their root, replicas, files handed over, and replies

  -- of requests and pending inserts, their origin is a node
  abbrev Q : Id → Number → NodeCommand → Type 0
  Q o n c = P o

  abbrev L : Id → Id → Number → Key → Hops → Type 0
  L to o n key hops = P o

  reply_joins : (what : Asked) (n : Number) (r : Reply) → Joins (reply_message what n r)
  reply_joins asked.Lookup n r = tt
  reply_joins asked.Insert n r = tt
  reply_joins asked.Fetch n r = tt
  reply_joins asked.Reclaim n r = tt

  served_goes : (t : State) (what : Asked) (o : Id) (n : Number) (w : Way) (next : Message) (here : Outcome) → P o → OnTo w → Joins next → AllGo here →
      AllGo (served t what o n w next here)
  served_goes t what o n way.NotReady next here p f j h = ((p, reply_joins what n _), tt)
  served_goes t what o n way.Here next here p f j h = h
  served_goes t what o n (way.Gap i) next here p f j h = ((p, reply_joins what n _), tt)
  served_goes t what o n (way.To y) next here p f j h = ((f, j), tt)

  each_near : (key : Key) (x : Id) (ys : List Id) → P x → Each P ys → Each P (placed_near key x ys)
  each_near key x [] p h = (p, tt)
  each_near key x (y ∷ ys) p h = cond_both (is_nearer x y key) _ _ (Each P) (λ _. (p, h)) (λ _. (h.0, each_near key x ys p h.1))

  each_nearest : (key : Key) (xs : List Id) → Each P xs → Each P (nearest_to key xs)
  each_nearest key [] h = tt
  each_nearest key (x ∷ xs) h = each_near key x (nearest_to key xs) h.0 (each_nearest key xs h.1)

  each_target : (t : State) (file : FileId) (copies : ℕ) → Each P t.known → Each P (targets_of t file copies)
  each_target t file copies k = Each-take P (copies - 1) _ (each_nearest (key_of file) (leaves t.me t.known) (Each-leaves P t.me t.known k))

  replicated_goes : (t : State) (o : Id) (n : Number) (file : FileId) (bytes : Content) (targets : List Id) → P o → Each P targets →
      AllGo (replicated t o n file bytes targets)
  replicated_goes t o n file bytes [] p h = ((p, tt), tt)
  replicated_goes t o n file bytes (y ∷ ys) p h = each_goes (y ∷ ys) (Replicate o n file bytes) tt h

  inserted_goes : (t : State) (o : Id) (n : Number) (file : FileId) (copies : ℕ) (bytes : Content) (h : Option Slot) → P o → Each P t.known →
      AllGo (inserted t o n file copies bytes h)
  inserted_goes t o n file copies bytes (Some None) p k = ((p, tt), tt)
  inserted_goes t o n file copies bytes (Some (Some held)) p k =
      cond_both (not (same_bytes held bytes)) _ _ AllGo (λ _. ((p, tt), tt))
      (λ _. cond_both (has_too_few t copies) _ _ AllGo (λ _. ((p, tt), tt)) (λ _. replicated_goes t o n file bytes _ p (each_target t file copies k)))
  inserted_goes t o n file copies bytes None p k =
      cond_both (has_too_few t copies) _ _ AllGo (λ _. ((p, tt), tt))
      (λ _. cond_both (has_room t.files) _ _ AllGo (λ _. replicated_goes _ o n file bytes _ p (each_target t file copies k)) (λ _. ((p, tt), tt)))

  -- pending inserts that are replied
  each_replied_goes : (t : State) (r : Reply) (ps : List Pending) → Each (AsksFor Q) ps → AllGo (replied_each t r ps)
  each_replied_goes t r [] h = tt
  each_replied_goes t r (x ∷ xs) h = ((h.0.asked, tt), each_replied_goes t r xs h.1)

  reclaimed_goes : (t : State) (o : Id) (n : Number) (file : FileId) (h : Option Slot) → P o → Each (AsksFor Q) t.pending → AllGo (reclaimed t o n file h)
  reclaimed_goes t o n file None p h = ((p, tt), tt)
  reclaimed_goes t o n file (Some None) p h = ((p, tt), tt)
  reclaimed_goes t o n file (Some (Some bytes)) p h =
      Each-append Goes _ _ (each_replied_goes (emptied t file) (reply.Gone t.me) (filter (is_of file) t.pending)
      (Each-filter (AsksFor Q) (is_of file) t.pending h)) ((p, tt), tt)

  replicate_goes : (t : State) (from o : Id) (n : Number) (file : FileId) (bytes : Content) (h : Option Slot) → P from →
      AllGo (replicate_at t from o n file bytes h)
  replicate_goes t from o n file bytes None p = cond_both (has_room t.files) _ _ AllGo (λ _. ((p, tt), tt)) (λ _. tt)
  replicate_goes t from o n file bytes (Some None) p = tt
  replicate_goes t from o n file bytes (Some (Some held)) p = cond_both (same_bytes held bytes) _ _ AllGo (λ _. ((p, tt), tt)) (λ _. tt)

  taken_goes : (t : State) (place : ℕ) (x : Pending) (left : List Id) → AsksFor Q x → AllGo (ack_taken t place x left)
  taken_goes t place x [] h = ((h.asked, tt), tt)
  taken_goes t place x (y ∷ ys) h = tt

  ack_goes : (t : State) (from : Id) (place : Option ℕ) → Each (AsksFor Q) t.pending → AllGo (ack_at t from place)
  ack_goes t from None h = tt
  ack_goes t from (Some place) h = by (slice_get t.pending place) refl where
    by : (x : Option Pending) → slice_get t.pending place ≡ x → AllGo (ack_of t from place x)
    by None e = tt
    by (Some x) e = taken_goes t place x _ (Each-slice_get (AsksFor Q) t.pending place x h e)

  tested_goes : (t : State) (p : Phase) → PhaseKnows P p → Each P t.known → AllGo (ready_test_in t p)
  tested_goes t (Leasing a n l r (Some gl) (Some gr)) h k =
      cond_both (has_all t gl && has_all t gr) _ _ AllGo (λ _. ready_goes l r a _ h (Each-leaves P t.me t.known k)) (λ _. tt)
  tested_goes t (Leasing a n l r (Some gl) None) h k = tt
  tested_goes t (Leasing a n l r None gr) h k = tt
  tested_goes t (Waiting a) h k = tt
  tested_goes t (Asking a n) h k = tt
  tested_goes t (Probing a n probed) h k = tt
  tested_goes t (Ready a l r) h k = tt

  handover_goes : (t : State) (file : FileId) (bytes : Content) (h : Option Slot) → Knows P t → AllGo (handover_at t file bytes h)
  handover_goes t file bytes None k = cond_both (has_room t.files) _ _ AllGo (λ _. tested_goes (holding t file bytes) t.phase k.phase k.known) (λ _. tt)
  handover_goes t file bytes (Some slot) k = tt

  on_reply_goes : (t : State) (n : Number) (r : Reply) → AllGo (on_reply t n r)
  on_reply_goes t n r = cond_both (is_in t.waiting n) _ _ AllGo (λ _. tt) (λ _. tt)

  -- ---- routed requests

  module _ (t : State) (o : Id) (n : Number) (p : P o) (k : Each P t.known) where
    lookup_goes : (key : Key) (hops : Hops) → AllGo (on_lookup t o n key hops)
    lookup_goes key hops = served_goes t asked.Lookup o n (way_of t key) (Lookup o n key (one_more hops)) _ p (way_leads t key t.phase k) tt ((p, tt), tt)

    fetch_goes : (hops : Hops) (file : FileId) → AllGo (on_fetch t o n hops file)
    fetch_goes hops file = served_goes t asked.Fetch o n (way_of t (key_of file)) (Fetch o n (one_more hops) file) _ p (way_leads t (key_of file) t.phase k) tt
        ((p, tt), tt)

    insert_goes : (hops : Hops) (file : FileId) (copies : ℕ) (bytes : Content) → AllGo (on_insert t o n hops file copies bytes)
    insert_goes hops file copies bytes =
        served_goes t asked.Insert o n (way_of t (key_of file)) (Insert o n (one_more hops) file copies bytes) _ p (way_leads t (key_of file) t.phase k) tt
        (inserted_goes t o n file copies bytes (slot_of t.files file) p k)

    reclaim_goes : (hops : Hops) (file : FileId) → Each (AsksFor Q) t.pending → AllGo (on_reclaim t o n hops file)
    reclaim_goes hops file h =
        served_goes t asked.Reclaim o n (way_of t (key_of file)) (Reclaim o n (one_more hops) file) _ p (way_leads t (key_of file) t.phase k) tt
        (reclaimed_goes t o n file (slot_of t.files file) p h)

  -- ---- every input

  -- a node is named as a Join's via, and as a message's sender and joiner
  abbrev Named : Input → Type 0
  Named (Comes from m) = P from × Joins m
  Named (Command n (command.Join via)) = P via
  Named (Command n (command.Lookup key)) = Unit {0}
  Named (Command n (command.Insert file copies bytes)) = Unit {0}
  Named (Command n (command.Fetch file)) = Unit {0}
  Named (Command n command.GiveUp) = Unit {0}
  Named (Command n (command.Reclaim file)) = Unit {0}
  Named Noise = Unit {0}

  -- all whom a step may send to
  record Nodes (s : State) (i : Input) (o : Outcome) : Type 0 where
    me : P s.me
    knows : Knows P s
    knew : Knows P o.state
    named : Named i
    carries : InputCarries Q L s.me i
    pending : Each (AsksFor Q) s.pending

  service_goes : (s : State) (i : Input) → IsServiceInput i → Nodes s i (step s i) → AllGo (step s i)
  service_goes s (Command n (command.Lookup key)) k h = lookup_goes (waits_for s n) s.me n h.me h.knows.known key 0
  service_goes s (Command n (command.Insert file copies bytes)) k h = insert_goes (waits_for s n) s.me n h.me h.knows.known 0 file copies bytes
  service_goes s (Command n (command.Fetch file)) k h = fetch_goes (waits_for s n) s.me n h.me h.knows.known 0 file
  service_goes s (Command n (command.Reclaim file)) k h = reclaim_goes (waits_for s n) s.me n h.me h.knows.known 0 file h.pending
  service_goes s (Comes from (Lookup o n key hops)) k h = lookup_goes s o n h.carries h.knows.known key hops
  service_goes s (Comes from (Insert o n hops file copies bytes)) k h = insert_goes s o n h.carries h.knows.known hops file copies bytes
  service_goes s (Comes from (Fetch o n hops file)) k h = fetch_goes s o n h.carries h.knows.known hops file
  service_goes s (Comes from (Reclaim o n hops file)) k h = reclaim_goes s o n h.carries h.knows.known hops file h.pending
  service_goes s (Comes from (LookupReply n r)) k h = on_reply_goes s n r
  service_goes s (Comes from (InsertReply n r)) k h = on_reply_goes s n r
  service_goes s (Comes from (FetchReply n r)) k h = on_reply_goes s n r
  service_goes s (Comes from (ReclaimReply n r)) k h = on_reply_goes s n r
  service_goes s (Comes from (Handover file bytes)) k h = handover_goes s file bytes (slot_of s.files file) h.knows
  service_goes s (Comes from (Replicate o n file bytes)) k h = replicate_goes s from o n file bytes (slot_of s.files file) h.named.0
  service_goes s (Comes from (ReplicaAck o n file)) k h = ack_goes s from (position (awaits from o n file) s.pending) h.pending
  service_goes s _ k h = absurd k

  seat_goes : (s : State) (i : Input) (o : Outcome) → Seat s i o → o ≡ step s i → Nodes s i o → AllGo o
  seat_goes _ _ _ (rule.serves s i o e f g q) is h = subst AllGo (sym is) (service_goes s i q (subst (Nodes s i) is h))
  seat_goes _ _ _ (rule.request_on s from j a hops y e) is h = ((subst OnTo e (way_leads s j s.phase h.knows.known), h.named.1), tt)
  seat_goes _ _ _ (rule.request_served s from j a hops b l r e w) is h = ((h.named.1, tt), tt)
  seat_goes _ _ _ (rule.request_unready s from j a hops e) is h = ((h.named.1, tt), tt)
  seat_goes _ _ _ (rule.request_busy s from j a hops x e) is h = ((h.named.1, tt), tt)
  seat_goes _ _ _ (rule.begins s n via a e f) is h = ((h.named, h.me), tt)
  seat_goes _ _ _ (rule.stops_leasing s n a m l r fl fr e) is h = both_go l r (Release a) tt (subst (PhaseKnows P) e h.knows.phase)
  seat_goes _ _ _ (rule.probes s from a m heard known y ys e f g) is h =
      each_goes (y ∷ ys) (Probe a) tt (subst (Each P) (sym g) (Each-leaves P s.me known h.knew.known))
  seat_goes _ _ _ (rule.probes_on s from a m heard known old probed new e f g k) is h =
      each_goes new (Probe a) tt (rw k (Each-filter P _ (leaves s.me known) (Each-leaves P s.me known h.knew.known)))
  seat_goes _ _ _ (rule.leases s from a m heard known old e f) is h = both_go _ _ (LeaseRequest a _ _) tt h.knew.phase
  seat_goes _ _ _ (rule.denied s from a m l r fl fr w e) is h = both_go l r (Release a) tt (subst (PhaseKnows P) e h.knows.phase)
  seat_goes _ _ _ (rule.grant_older s from a manifest tombs e) is h = ((h.named.0, tt), tt)
  seat_goes _ _ _ (rule.grant_settled s from a l r manifest tombs e) is h = ((h.named.0, tt), tt)
  seat_goes _ _ _ (rule.grant_readies s t from a m l r fl fr left right manifest tombs e f g k i) is h =
      ready_goes l r a _ h.knew.phase (Each-leaves P t.me t.known h.knew.known)
  seat_goes _ _ _ (rule.file_readies s from a m l r left right file bytes e f g k) is h =
      ready_goes l r a _ h.knew.phase (Each-leaves P s.me s.known h.knew.known)
  seat_goes _ _ _ (rule.probed s from a b l r e) is h = ((h.named.0, tt), tt)
  seat_goes _ _ _ (rule.lease_unready s from a l r e) is h = ((h.named.0, tt), tt)
  seat_goes _ _ _ (rule.lease_again s from a l r b x y e f) is h =
      ((h.named.0, tt), Each-handovers Goes from s.files (lists_of (if s.me == l then s.right_gate else s.left_gate)).manifest (λ f b. (h.named.0, tt)))
  seat_goes _ _ _ (rule.lease_busy s from a l r b x y j e f) is h = ((h.named.0, tt), tt)
  seat_goes _ _ _ (rule.lease_moved s from a l r b x y e) is h = ((h.named.0, tt), tt)
  seat_goes _ _ _ (rule.lease_new s from a l r b x y e f g) is h =
      Each-append Goes (granted from a lists s.files) _ ((h.named.0, tt), Each-handovers Goes from s.files lists.manifest (λ f b. (h.named.0, tt)))
      (each_replied_goes _ (reply.Busy s.me from) (filter left s.pending) (Each-filter (AsksFor Q) left s.pending h.pending)) where
        lists : Lists
        lists = new_lists (cleared s from a) x y (asked_for from a l r)

        left : Pending → Bool
        left = is_left_to (gated_reach (cleared s from a) x y (asked_for from a l r)) from
  seat_goes _ _ _ m is h = tt

-- ---- the invariant

-- an envelope goes to a node, and names nodes
record GoesIn (g : Setting) (v : Envelope) : Type 0 where
  receiver : Contains g.nodes v.receiver
  joins : Joins (Contains g.nodes) v.message
  carries : Carries (Q (Contains g.nodes)) (L (Contains g.nodes)) v.receiver v.message

record ReceiversHold (g : Setting) (w : World) : Type 0 where
  sent : Each (GoesIn g) (sent_in w.past)
  pending : (y : Id) → Each (AsksFor (Q (Contains g.nodes))) (w.states y).pending

-- so far each Join went by way of a node
abbrev ViasHold : Setting → World → Type 0
ViasHold g w = (e : Entry) → Contains w.past e → ViaIs g e.event

-- then each message went to one
record IfVias (g : Setting) (w : World) : Type 0 where
  hold : ViasHold g w → ReceiversHold g w

-- ---- one step keeps it

commanded_names : (g : Setting) (x : Id) (n : Number) (c : NodeCommand) → Contains g.nodes x → ViaIs g (event.Command x n c) →
    Named (Contains g.nodes) (Command n c) × CommandCarries (Q (Contains g.nodes)) (L (Contains g.nodes)) x n c
commanded_names g x n (command.Join via) p h = (h, tt)
commanded_names g x n (command.Lookup key) p h = (tt, p)
commanded_names g x n (command.Insert file copies bytes) p h = (tt, p)
commanded_names g x n (command.Fetch file) p h = (tt, p)
commanded_names g x n command.GiveUp p h = (tt, tt)
commanded_names g x n (command.Reclaim file) p h = (tt, p)

input_names : (g : Setting) (w : World) (v : Event) (x : Id) (i : Input) → MessagesHold g w → ReceiversHold g w → Arrives w v x i → Contains g.nodes x →
    ViaIs g v →
    Named (Contains g.nodes) i × InputCarries (Q (Contains g.nodes)) (L (Contains g.nodes)) x i
input_names g w _ _ _ h k (commanded x n c f) p via = commanded_names g x n c p via
input_names g w _ _ _ h k (noised x) p via = (tt, tt)
input_names g w _ _ _ h k (delivered m v f) p via =
    let b = Each-slice_get (GoesIn g) (sent_in w.past) m v k.sent f in
    (((Each-slice_get (Holds g w.states) (sent_in w.past) m v h.sent f).sender, b.joins), b.carries)

keeps : (g : Setting) (w : World) (e : Entry) (x : Id) (i : Input) → MessagesHold g w → MessagesHold g (after_step w e x i) → ReceiversHold g w →
    Takes g w e x i → ViaIs g e.event →
    ReceiversHold g (after_step w e x i)
keeps g w e x i h h' k t via = record {
  sent = subst (Each (GoesIn g)) (sym (sent_in-push w.past e)) (Each-append (GoesIn g) (sent_in w.past) _ k.sent fresh);
  pending = λ y. state_at-each (λ z (s : State). Each (AsksFor (Q P)) s.pending) w.states x o.state y asks.pending (k.pending y);
} where
  P : Id → Type 0
  P = Contains g.nodes

  o : Outcome
  o = step (w.states x) i

  named : Named P i × InputCarries (Q P) (L P) x i
  named = input_names g w e.event x i h k t.arrives t.member via

  carries : InputCarries (Q P) (L P) (w.states x).me i
  carries = subst (λ y. InputCarries (Q P) (L P) y i) (sym (h.me x)) named.1

  asks : Requested (Q P) (L P) (w.states x) o
  asks = seat_requested (Q P) (L P) (w.states x) i o (step_seat (w.states x) i) refl (record { next = λ a n key hops y p f. p }) carries (k.pending x)

  nodes : Nodes P (w.states x) i o
  nodes = record {
    me = subst P (sym (h.me x)) t.member;
    knows = Knows-weaker (ReadyIn w.states) P (w.states x) h.nodes (h.knows x);
    knew = subst (Knows P) (state_at-itself w.states x o.state) (Knows-weaker _ P _ h'.nodes (h'.knows x));
    named = named.0;
    carries = carries;
    pending = k.pending x;
  }

  fresh : Each (GoesIn g) e.messages
  fresh = each_envelope (GoesIn g) x e.messages o.sends t.messages
      (Each-both (Goes P) (λ m. Carries (Q P) (L P) m.receiver m.message) (λ m. (v : Envelope) → IsFrom x m v → GoesIn g v) o.sends
      (λ m p q v f. record { receiver = rw f.receiver p.0; joins = rw f.message p.1; carries = rw (f.receiver, f.message) q })
      (seat_goes P (w.states x) i o (step_seat (w.states x) i) refl nodes) asks.sends)

-- the invariants of messages and of whom they go to
record NodesHold (g : Setting) (w : World) : Type 0 where
  messages : MessagesHold g w
  receivers : IfVias g w

nodes_keep : (g : Setting) → IsSetting g → Keeps g (NodesHold g)
nodes_keep g set = record {
  keeps = λ w e x i h t. let messages = (messages_keep g set).keeps w e x i h.messages t in record {
    messages = messages;
    receivers = record {
      hold = λ vias. keeps g w e x i h.messages messages (h.receivers.hold (λ d c. vias d (Contains-append_left w.past (e ∷ []) d c))) t
          (vias e (Contains-push w.past e));
    };
  };
}

nodes_at_start : (g : Setting) → IsSetting g → NodesHold g (world_at_start g)
nodes_at_start g set = record {
  messages = messages_at_start g set;
  receivers = record { hold = λ vias. record { sent = tt; pending = λ y. start_pending (AsksFor (Q (Contains g.nodes))) y (y == g.founder) } };
}

-- ---- the law

pub receivers_are_nodes : (g : Setting) (es : List Entry) → IsRecord g es → ViasAre g es → ReceiversAre g es
receivers_are_nodes g es r vias =
    Each-all (λ v. Contains g.nodes v.receiver) (sent_in es)
    (Each-weaker (GoesIn g) (λ v. Contains g.nodes v.receiver) (sent_in es) (λ v b. b.receiver) (subst (λ fs. Each (GoesIn g) (sent_in fs)) all hold.sent))
  where
    w : World
    w = world_after g es (length es)

    all : w.past ≡ es
    all = past_after g es (length es) ∙ take-length es

    hold : ReceiversHold g w
    hold = (always g (NodesHold g) (nodes_at_start g r.setting) (nodes_keep g r.setting) es r (length es)).receivers.hold
        (λ e c. All-contains (λ d. ViaIs g d.event) es e vias (subst (λ fs. Contains fs e) all c))
