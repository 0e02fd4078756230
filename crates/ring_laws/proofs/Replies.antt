-- Each reply that a step sends is noted by it: a reply message to an origin goes with the note Answered of that origin, number and reply.
use Rattle.std.proofs.Common.{◌≡◌, ℕ, not, ◌&&◌, ◌==◌, if◌then◌else◌, Option, Some, None, List, [], ◌∷◌, ◌++◌, filter, position, slice_get, Contains, refl, sym}
use Rattle.std.proofs.Common.{subst, arith}
use Rattle.std.proofs.lemmas.Bool.{cond_both}
use Rattle.std.proofs.lemmas.List.Elements.{Contains-append_left, Contains-append_right}
use Rattle.ring_math.specs.Bytewise.{same_bytes}
use Rattle.ring_math.specs.Keys.{key_of}
use Rattle.ring_math.specs.Sides.{is_in, leaves}
use Rattle.ring_math.specs.Files.{Slot, slot_of, with_slot, has_room}
use Rattle.wire_msg.specs.declared.command.Command.TheVariants as command
use Rattle.wire_msg.specs.declared.note.Note.{Note}
use Rattle.wire_msg.specs.declared.note.Note.TheVariants as note
use Rattle.wire_msg.specs.declared.reply.Answer.TheVariants as answer
use Rattle.wire_msg.specs.declared.reply.Reply.{Reply}
use Rattle.wire_msg.specs.declared.reply.Reply.TheVariants as reply
use Rattle.wire_msg.specs.Words.{Message, Lookup, LookupReply, Insert, InsertReply, Fetch, FetchReply, JoinRequest, JoinReply, JoinRefuse, Probe, ProbeReply}
use Rattle.wire_msg.specs.Words.{LeaseRequest, Grant, Deny, Handover, Release, Confirm, Announce, Replicate, ReplicaAck, Reclaim, ReclaimReply}
use Rattle.ring_math.specs.Names.{Id, Key, FileId, Content, Attempt, Number, Hops}
use Rattle.coverage.specs.GapFiles.{Lists}
use Rattle.overlay_rules.specs.declared.gate.Gate.{Gate}
use Rattle.overlay_rules.specs.declared.request.Asked.{Asked}
use Rattle.overlay_rules.specs.declared.request.Asked.TheVariants as asked
use Rattle.overlay_rules.specs.declared.request.Pending.{Pending}
use Rattle.overlay_rules.specs.declared.request.Way.{Way}
use Rattle.overlay_rules.specs.declared.request.Way.TheVariants as way
use Rattle.overlay_rules.specs.State.{State, Phase, Waiting, Asking, Probing, Leasing, Ready}
use Rattle.overlay_rules.specs.Outcome.{Outcome, Input, Command, Comes, Noise, Sent, nothing, becomes, before, to_both, to_each, replied, reply_message}
use Rattle.overlay_rules.specs.Routed.{way_of, one_more, served, on_lookup}
use Rattle.overlay_rules.specs.Roots.{targets_of, replicated, has_too_few, accepted, inserted, on_insert, is_of, replied_each, emptied, reclaimed, on_reclaim}
use Rattle.overlay_rules.specs.Roots.{on_fetch}
use Rattle.overlay_rules.specs.Replicas.{holding, replicate_at, ack_taken, ack_of, ack_at, awaits, handover_at, on_reply}
use Rattle.overlay_rules.specs.ReadyTest.{ready_test_in, has_all}
use Rattle.overlay_rules.specs.Gates.{asked_for}
use Rattle.overlay_rules.specs.Gatekeeper.{cleared, is_left_to, gated_reach, newly_gated, granted, lists_of}
use Rattle.overlay_rules.specs.Step.{step, waits_for}
use Rattle.overlay_rules.proofs.Each.{Each, Each-append, Each-weaker}
use Rattle.overlay_rules.proofs.Seat.{Seat, IsServiceInput}
use Rattle.overlay_rules.proofs.Seat as rule
use Rattle.overlay_rules.proofs.SeatStep.{new_lists}
use Rattle.overlay_rules.proofs.Sends.{Each-to_both, Each-to_each, Each-handovers}

abbrev pub IsNoted : List Note → Id → Message → Type 0
IsNoted notes to (LookupReply number r) = Contains notes (note.Answered to number r)
IsNoted notes to (InsertReply number r) = Contains notes (note.Answered to number r)
IsNoted notes to (FetchReply number r) = Contains notes (note.Answered to number r)
IsNoted notes to (ReclaimReply number r) = Contains notes (note.Answered to number r)
IsNoted notes to (Lookup origin number key hops) = Unit {0}
IsNoted notes to (Insert origin number hops file copies bytes) = Unit {0}
IsNoted notes to (Fetch origin number hops file) = Unit {0}
IsNoted notes to (Reclaim origin number hops file) = Unit {0}
IsNoted notes to (JoinRequest joiner a hops) = Unit {0}
IsNoted notes to (JoinReply a members) = Unit {0}
IsNoted notes to (JoinRefuse a w) = Unit {0}
IsNoted notes to (Probe a) = Unit {0}
IsNoted notes to (ProbeReply a members) = Unit {0}
IsNoted notes to (LeaseRequest a l r) = Unit {0}
IsNoted notes to (Grant a manifest tombs) = Unit {0}
IsNoted notes to (Deny a w) = Unit {0}
IsNoted notes to (Handover file bytes) = Unit {0}
IsNoted notes to (Release a) = Unit {0}
IsNoted notes to (Confirm a) = Unit {0}
IsNoted notes to Announce = Unit {0}
IsNoted notes to (Replicate origin number file bytes) = Unit {0}
IsNoted notes to (ReplicaAck origin number file) = Unit {0}

pub record AllNoted (o : Outcome) : Type 0 where
  pub each : Each (λ m. IsNoted o.notes m.receiver m.message) o.sends

abbrev NotedBy : List Note → Sent → Type 0
NotedBy notes m = IsNoted notes m.receiver m.message

-- with more notes they are still noted
noted_more : (old new : List Note) (to : Id) (m : Message) → ((n : Note) → Contains old n → Contains new n) → IsNoted old to m → IsNoted new to m
noted_more old new to (LookupReply number r) f h = f (note.Answered to number r) h
noted_more old new to (InsertReply number r) f h = f (note.Answered to number r) h
noted_more old new to (FetchReply number r) f h = f (note.Answered to number r) h
noted_more old new to (ReclaimReply number r) f h = f (note.Answered to number r) h
noted_more old new to _ f h = tt

each_more : (old new : List Note) (sends : List Sent) → ((n : Note) → Contains old n → Contains new n) → Each (NotedBy old) sends → Each (NotedBy new) sends
each_more old new sends f h = Each-weaker (NotedBy old) (NotedBy new) sends (λ m. noted_more old new m.receiver m.message f) h

first_of_notes : (n : Note) (ns : List Note) → Contains (n ∷ ns) n
first_of_notes n ns = (0, omega arith, refl)

reply_noted : (what : Asked) (to : Id) (number : Number) (r : Reply) (notes : List Note) → Contains notes (note.Answered to number r) →
    IsNoted notes to (reply_message what number r)
reply_noted asked.Lookup to number r notes c = c
reply_noted asked.Insert to number r notes c = c
reply_noted asked.Fetch to number r notes c = c
reply_noted asked.Reclaim to number r notes c = c

replied_noted : (t : State) (what : Asked) (o : Id) (n : Number) (r : Reply) → AllNoted (replied t what o n r)
replied_noted t what o n r = record { each = (reply_noted what o n r (note.Answered o n r ∷ []) (first_of_notes (note.Answered o n r) []), tt) }

served_noted : (t : State) (what : Asked) (o : Id) (n : Number) (w : Way) (next : Message) (here : Outcome) →
    ((notes : List Note) (y : Id) → IsNoted notes y next) → AllNoted here → AllNoted (served t what o n w next here)
served_noted t what o n way.NotReady next here f h = replied_noted t what o n (reply.NotReady t.me)
served_noted t what o n way.Here next here f h = h
served_noted t what o n (way.Gap j) next here f h = replied_noted t what o n (reply.Busy t.me j)
served_noted t what o n (way.To y) next here f h = record { each = (f [] y, tt) }

-- more notes before those of an outcome
noted_before : (ns : List Note) (x : Outcome) → AllNoted x → AllNoted (before [] ns x)
noted_before ns x h = record { each = each_more x.notes (ns ++ x.notes) x.sends (λ n c. Contains-append_right ns x.notes n c) h.each }

lookup_noted : (t : State) (o : Id) (n : Number) (key : Key) (hops : Hops) → AllNoted (on_lookup t o n key hops)
lookup_noted t o n key hops =
    served_noted t asked.Lookup o n (way_of t key) (Lookup o n key (one_more hops)) _ (λ notes y. tt)
    (noted_before (note.Delivered o n key hops ∷ []) _ (replied_noted t asked.Lookup o n (reply.Delivered t.me hops)))

fetch_noted : (t : State) (o : Id) (n : Number) (hops : Hops) (file : FileId) → AllNoted (on_fetch t o n hops file)
fetch_noted t o n hops file = served_noted t asked.Fetch o n (way_of t (key_of file)) (Fetch o n (one_more hops) file) _ (λ notes y. tt)
    (replied_noted t asked.Fetch o n _)

replicated_noted : (t : State) (o : Id) (n : Number) (file : FileId) (bytes : Content) (targets : List Id) → AllNoted (replicated t o n file bytes targets)
replicated_noted t o n file bytes [] = replied_noted t asked.Insert o n _
replicated_noted t o n file bytes (x ∷ xs) = record { each = Each-to_each (NotedBy []) (x ∷ xs) (Replicate o n file bytes) (λ y. tt) }

accepted_noted : (t : State) (o : Id) (n : Number) (file : FileId) (copies : ℕ) (bytes : Content) → AllNoted (accepted t o n file copies bytes)
accepted_noted t o n file copies bytes =
    cond_both (has_room t.files) _ _ AllNoted
    (λ _. noted_before (note.Accepted file bytes ∷ []) _
    (replicated_noted (record t { files = with_slot t.files file (Some bytes) }) o n file bytes (targets_of t file copies)))
    (λ _. replied_noted t asked.Insert o n _)

inserted_noted : (t : State) (o : Id) (n : Number) (file : FileId) (copies : ℕ) (bytes : Content) (h : Option Slot) →
    AllNoted (inserted t o n file copies bytes h)
inserted_noted t o n file copies bytes (Some None) = replied_noted t asked.Insert o n _
inserted_noted t o n file copies bytes (Some (Some held)) =
    cond_both (not (same_bytes held bytes)) _ _ AllNoted (λ _. replied_noted t asked.Insert o n _)
    (λ _. cond_both (has_too_few t copies) _ _ AllNoted (λ _. replied_noted t asked.Insert o n _)
    (λ _. replicated_noted t o n file bytes (targets_of t file copies)))
inserted_noted t o n file copies bytes None =
    cond_both (has_too_few t copies) _ _ AllNoted (λ _. replied_noted t asked.Insert o n _) (λ _. accepted_noted t o n file copies bytes)

insert_noted : (t : State) (o : Id) (n : Number) (hops : Hops) (file : FileId) (copies : ℕ) (bytes : Content) →
    AllNoted (on_insert t o n hops file copies bytes)
insert_noted t o n hops file copies bytes =
    served_noted t asked.Insert o n (way_of t (key_of file)) (Insert o n (one_more hops) file copies bytes) _ (λ notes y. tt)
    (inserted_noted t o n file copies bytes (slot_of t.files file))

each_noted : (t : State) (r : Reply) (ps : List Pending) → Each (NotedBy (replied_each t r ps).notes) (replied_each t r ps).sends
each_noted t r [] = tt
each_noted t r (x ∷ xs) = (
  first_of_notes (note.Answered x.origin x.number r) (replied_each t r xs).notes,
  each_more (replied_each t r xs).notes (replied_each t r (x ∷ xs)).notes (replied_each t r xs).sends
      (λ n c. Contains-append_right (note.Answered x.origin x.number r ∷ []) (replied_each t r xs).notes n c) (each_noted t r xs),
)

reclaimed_noted : (t : State) (o : Id) (n : Number) (file : FileId) (h : Option Slot) → AllNoted (reclaimed t o n file h)
reclaimed_noted t o n file None = replied_noted t asked.Reclaim o n _
reclaimed_noted t o n file (Some None) = replied_noted t asked.Reclaim o n _
reclaimed_noted t o n file (Some (Some bytes)) = record {
  each = Each-append (NotedBy all) ended.sends _
      (each_more ended.notes all ended.sends (λ k c. Contains-append_left (note.Reclaimed file ∷ ended.notes) last k
      (Contains-append_right (note.Reclaimed file ∷ []) ended.notes k c)) (each_noted _ _ ps))
      (Contains-append_right (note.Reclaimed file ∷ ended.notes) last (note.Answered o n (reply.Reclaimed t.me)) (first_of_notes _ []), tt);
} where
  ps : List Pending
  ps = filter (is_of file) t.pending

  ended : Outcome
  ended = replied_each (emptied t file) (reply.Gone t.me) ps

  last : List Note
  last = note.Answered o n (reply.Reclaimed t.me) ∷ []

  all : List Note
  all = (note.Reclaimed file ∷ ended.notes) ++ last

reclaim_noted : (t : State) (o : Id) (n : Number) (hops : Hops) (file : FileId) → AllNoted (on_reclaim t o n hops file)
reclaim_noted t o n hops file =
    served_noted t asked.Reclaim o n (way_of t (key_of file)) (Reclaim o n (one_more hops) file) _ (λ notes y. tt)
    (reclaimed_noted t o n file (slot_of t.files file))

quiet : (t : State) → AllNoted (nothing t)
quiet t = record { each = tt }

replicate_noted : (t : State) (from o : Id) (n : Number) (file : FileId) (bytes : Content) (h : Option Slot) → AllNoted (replicate_at t from o n file bytes h)
replicate_noted t from o n file bytes None = cond_both (has_room t.files) _ _ AllNoted (λ _. record { each = (tt, tt) }) (λ _. quiet t)
replicate_noted t from o n file bytes (Some None) = quiet t
replicate_noted t from o n file bytes (Some (Some held)) = cond_both (same_bytes held bytes) _ _ AllNoted (λ _. record { each = (tt, tt) }) (λ _. quiet t)

taken_noted : (t : State) (place : ℕ) (p : Pending) (left : List Id) → AllNoted (ack_taken t place p left)
taken_noted t place p [] = record { each = (first_of_notes _ [], tt) }
taken_noted t place p (y ∷ ys) = record { each = tt }

ack_of_noted : (t : State) (from : Id) (place : ℕ) (p : Option Pending) → AllNoted (ack_of t from place p)
ack_of_noted t from place None = quiet t
ack_of_noted t from place (Some p) = taken_noted t place p (filter (λ y. not (y == from)) p.awaited)

ack_noted : (t : State) (from : Id) (place : Option ℕ) → AllNoted (ack_at t from place)
ack_noted t from None = quiet t
ack_noted t from (Some place) = ack_of_noted t from place (slice_get t.pending place)

ready_sends : (notes : List Note) (l r : Id) (a : Attempt) (ys : List Id) → Each (NotedBy notes) (to_both l r (Confirm a) ++ to_each ys Announce)
ready_sends notes l r a ys = Each-append (NotedBy notes) (to_both l r (Confirm a)) _ (Each-to_both (NotedBy notes) l r (Confirm a) (λ y. tt))
    (Each-to_each (NotedBy notes) ys Announce (λ y. tt))

ready_noted : (t : State) (p : Phase) → AllNoted (ready_test_in t p)
ready_noted t (Leasing a m l r (Some gl) (Some gr)) =
    cond_both (has_all t gl && has_all t gr) _ _ AllNoted
    (λ _. record { each = ready_sends (note.Closed m (answer.Joined l r) ∷ []) l r a (leaves t.me t.known) }) (λ _. quiet t)
ready_noted t (Leasing a m l r (Some gl) None) = quiet t
ready_noted t (Leasing a m l r None gr) = quiet t
ready_noted t (Waiting a) = quiet t
ready_noted t (Asking a m) = quiet t
ready_noted t (Probing a m probed) = quiet t
ready_noted t (Ready a l r) = quiet t

handover_noted : (t : State) (file : FileId) (bytes : Content) (h : Option Slot) → AllNoted (handover_at t file bytes h)
handover_noted t file bytes None = cond_both (has_room t.files) _ _ AllNoted (λ _. ready_noted (holding t file bytes) t.phase) (λ _. quiet t)
handover_noted t file bytes (Some slot) = quiet t

come_noted : (t : State) (n : Number) (r : Reply) → AllNoted (on_reply t n r)
come_noted t n r = cond_both (is_in t.waiting n) _ _ AllNoted (λ _. record { each = tt }) (λ _. quiet t)

service_noted : (s : State) (i : Input) → IsServiceInput i → AllNoted (step s i)
service_noted s (Command n (command.Lookup key)) k = lookup_noted (waits_for s n) s.me n key 0
service_noted s (Command n (command.Insert file copies bytes)) k = insert_noted (waits_for s n) s.me n 0 file copies bytes
service_noted s (Command n (command.Fetch file)) k = fetch_noted (waits_for s n) s.me n 0 file
service_noted s (Command n (command.Reclaim file)) k = reclaim_noted (waits_for s n) s.me n 0 file
service_noted s (Command n (command.Join via)) k = absurd k
service_noted s (Command n command.GiveUp) k = absurd k
service_noted s (Comes from (Lookup o n key hops)) k = lookup_noted s o n key hops
service_noted s (Comes from (LookupReply n r)) k = come_noted s n r
service_noted s (Comes from (Insert o n hops file copies bytes)) k = insert_noted s o n hops file copies bytes
service_noted s (Comes from (InsertReply n r)) k = come_noted s n r
service_noted s (Comes from (Fetch o n hops file)) k = fetch_noted s o n hops file
service_noted s (Comes from (FetchReply n r)) k = come_noted s n r
service_noted s (Comes from (Handover file bytes)) k = handover_noted s file bytes (slot_of s.files file)
service_noted s (Comes from (Replicate o n file bytes)) k = replicate_noted s from o n file bytes (slot_of s.files file)
service_noted s (Comes from (ReplicaAck o n file)) k = ack_noted s from (position (awaits from o n file) s.pending)
service_noted s (Comes from (Reclaim o n hops file)) k = reclaim_noted s o n hops file
service_noted s (Comes from (ReclaimReply n r)) k = come_noted s n r
service_noted s (Comes from (JoinRequest j a hops)) k = absurd k
service_noted s (Comes from (JoinReply a heard)) k = absurd k
service_noted s (Comes from (JoinRefuse a w)) k = absurd k
service_noted s (Comes from (Probe a)) k = absurd k
service_noted s (Comes from (ProbeReply a heard)) k = absurd k
service_noted s (Comes from (LeaseRequest a l r)) k = absurd k
service_noted s (Comes from (Grant a manifest tombs)) k = absurd k
service_noted s (Comes from (Deny a w)) k = absurd k
service_noted s (Comes from (Release a)) k = absurd k
service_noted s (Comes from (Confirm a)) k = absurd k
service_noted s (Comes from Announce) k = absurd k
service_noted s Noise k = absurd k

newly_gated_noted : (t : State) (x y : Id) (g : Gate) → AllNoted (newly_gated t x y g)
newly_gated_noted t x y g = record {
  each = Each-append (NotedBy noted) (granted g.joiner g.attempt lists t.files) _
      (tt, Each-handovers (NotedBy noted) g.joiner t.files lists.manifest (λ f b. tt))
      (each_noted _ (reply.Busy t.me g.joiner) (filter (is_left_to (gated_reach t x y g) g.joiner) t.pending));
} where
  noted : List Note
  noted = (newly_gated t x y g).notes

  lists : Lists
  lists = new_lists t x y g

both_noted : (t : State) (l r : Id) (m : Message) (notes : List Note) → ((ns : List Note) (y : Id) → IsNoted ns y m) →
    AllNoted (becomes t (to_both l r m) notes)
both_noted t l r m notes h = record { each = Each-to_both (NotedBy notes) l r m (h notes) }

to_each_noted : (t : State) (ys : List Id) (m : Message) (notes : List Note) → ((ns : List Note) (y : Id) → IsNoted ns y m) →
    AllNoted (becomes t (to_each ys m) notes)
to_each_noted t ys m notes h = record { each = Each-to_each (NotedBy notes) ys m (h notes) }

readied_noted : (t : State) (l r : Id) (a : Attempt) (ys : List Id) (notes : List Note) →
    AllNoted (becomes t (to_both l r (Confirm a) ++ to_each ys Announce) notes)
readied_noted t l r a ys notes = record { each = ready_sends notes l r a ys }

pub seat_noted : (s : State) (i : Input) (o : Outcome) → Seat s i o → o ≡ step s i → AllNoted o
seat_noted _ _ _ (rule.serves s i o e f g q) is = subst AllNoted (sym is) (service_noted s i q)
seat_noted _ _ _ (rule.stops_leasing s n a m l r fl fr e) is = both_noted _ l r (Release a) _ (λ ns y. tt)
seat_noted _ _ _ (rule.probes s from a m heard known y ys e f g) is = to_each_noted _ (y ∷ ys) (Probe a) _ (λ ns z. tt)
seat_noted _ _ _ (rule.probes_on s from a m heard known old probed new e f g k) is = to_each_noted _ new (Probe a) _ (λ ns z. tt)
seat_noted _ _ _ (rule.leases s from a m heard known old e f) is = both_noted _ _ _ (LeaseRequest a _ _) _ (λ ns y. tt)
seat_noted _ _ _ (rule.denied s from a m l r fl fr w e) is = both_noted _ l r (Release a) _ (λ ns y. tt)
seat_noted _ _ _ (rule.grant_readies s t from a m l r fl fr left right manifest tombs e f g k i) is = readied_noted _ l r a _ _
seat_noted _ _ _ (rule.file_readies s from a m l r left right file bytes e f g k) is = readied_noted _ l r a _ _
seat_noted _ _ _ (rule.lease_again s from a l r b x y e f) is =
    record { each = (tt, Each-handovers (NotedBy []) from s.files (lists_of (if s.me == l then s.right_gate else s.left_gate)).manifest (λ f b. tt)) }
seat_noted _ _ _ (rule.lease_new s from a l r b x y e f g) is = newly_gated_noted (cleared s from a) x y (asked_for from a l r)
seat_noted _ _ _ (rule.not_begun s n via reason e) is = record { each = tt }
seat_noted _ _ _ (rule.idles s n e) is = record { each = tt }
seat_noted _ _ _ (rule.stops_asking s n a m e) is = record { each = tt }
seat_noted _ _ _ (rule.stops_probing s n a m probed e) is = record { each = tt }
seat_noted _ _ _ (rule.refused s from a m w e) is = record { each = tt }
seat_noted _ _ _ (rule.unmoved s i) is = record { each = tt }
seat_noted _ _ _ (rule.grant_kept s from a m l r fl fr manifest tombs e w) is = record { each = tt }
seat_noted _ _ _ (rule.released s from a) is = record { each = tt }
seat_noted _ _ _ (rule.confirms s from a b x y e f) is = record { each = tt }
seat_noted _ _ _ (rule.announced s from) is = record { each = tt }
seat_noted _ _ _ m is = record { each = (tt, tt) }
