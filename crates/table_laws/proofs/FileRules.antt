-- What one step may do to the files of a node and to the table: a file is accepted, reclaimed, put or buried, or nothing of that kind happens.
-- And each file that a step sends stands with its bytes in the state that it leads to.
use Rattle.std.proofs.Common.{◌≡◌, ℕ, Bool, true, false, not, ◌&&◌, ◌==◌, if◌then◌else◌, Option, Some, None, List, [], ◌∷◌, ◌++◌, filter, position, slice_get}
use Rattle.std.proofs.Common.{refl, sym, subst, ap, ◌∙◌}
use Rattle.std.proofs.lemmas.Bool.{cond_both}
use Rattle.ring_math.specs.Names.{Id, Key, FileId, Content, Attempt, Number, Hops}
use Rattle.ring_math.specs.Bytewise.{same_bytes}
use Rattle.ring_math.specs.Keys.{key_of}
use Rattle.ring_math.specs.Sides.{is_in, leaves}
use Rattle.ring_math.specs.Files.{Slot, slot_of, with_slot, has_room, buried_all}
use Rattle.ring_math.specs.declared.file.Held.{Held}
use Rattle.coverage.specs.GapFiles.{Lists}
use Rattle.wire_msg.specs.declared.command.Command.{Command as NodeCommand}
use Rattle.wire_msg.specs.declared.command.Command.TheVariants as command
use Rattle.wire_msg.specs.declared.note.Note.{Note}
use Rattle.wire_msg.specs.declared.note.Note.TheVariants as note
use Rattle.wire_msg.specs.declared.reply.Reply.{Reply}
use Rattle.wire_msg.specs.declared.reply.Reply.TheVariants as reply
use Rattle.wire_msg.specs.Words.{Message, Lookup, LookupReply, Insert, InsertReply, Fetch, FetchReply, JoinRequest, JoinReply, JoinRefuse, Probe, ProbeReply}
use Rattle.wire_msg.specs.Words.{LeaseRequest, Grant, Deny, Handover, Release, Confirm, Announce, Replicate, ReplicaAck, Reclaim, ReclaimReply}
use Rattle.overlay_rules.specs.declared.gate.Gate.{Gate}
use Rattle.overlay_rules.specs.declared.request.Asked.{Asked}
use Rattle.overlay_rules.specs.declared.request.Asked.TheVariants as asked
use Rattle.overlay_rules.specs.declared.request.Pending.{Pending}
use Rattle.overlay_rules.specs.declared.request.Way.{Way}
use Rattle.overlay_rules.specs.declared.request.Way.TheVariants as way
use Rattle.overlay_rules.specs.State.{State, Phase, Waiting, Asking, Probing, Leasing, Ready}
use Rattle.overlay_rules.specs.Outcome.{Outcome, Input, Command, Comes, Noise, Sent, nothing, to_both, to_each, replied, reply_message}
use Rattle.overlay_rules.specs.Routed.{way_of, one_more, served, on_lookup}
use Rattle.overlay_rules.specs.Roots.{targets_of, replicated, has_too_few, accepted, inserted, on_insert, is_of, replied_each, emptied, reclaimed, on_reclaim}
use Rattle.overlay_rules.specs.Roots.{fetched, on_fetch}
use Rattle.overlay_rules.specs.Replicas.{holding, replicate_at, ack_taken, ack_of, ack_at, awaits, handover_at, on_reply}
use Rattle.overlay_rules.specs.ReadyTest.{ready_test_in, has_all}
use Rattle.overlay_rules.specs.Gates.{asked_for}
use Rattle.overlay_rules.specs.Gatekeeper.{cleared, is_left_to, gated_reach, newly_gated, granted, handovers, with_handover, lists_of}
use Rattle.overlay_rules.specs.Step.{step}
use Rattle.overlay_rules.proofs.Each.{Each, Each-append}
use Rattle.overlay_rules.proofs.Seat.{Seat, IsServiceInput}
use Rattle.overlay_rules.proofs.Seat as rule
use Rattle.overlay_rules.proofs.SeatStep.{step_seat, new_lists}
use Rattle.overlay_rules.proofs.Sends.{Each-to_both, Each-to_each}
use Rattle.table_laws.proofs.Slots.{same-is, slot-itself}
use Rattle.table_laws.proofs.Tables.{IsQuiet, AllQuiet}

-- a request that an input gives to a node or brings to it: of node o, with number n
pub data Requests (me : Id) : Input → Id → Number → NodeCommand → Type 0 where
  told : (n : Number) (c : NodeCommand) → Requests me (Command n c) me n c
  lookup_came : (from o : Id) (n : Number) (key : Key) (hops : Hops) → Requests me (Comes from (Lookup o n key hops)) o n (command.Lookup key)
  insert_came : (from o : Id) (n : Number) (hops : Hops) (f : FileId) (copies : ℕ) (b : Content) →
      Requests me (Comes from (Insert o n hops f copies b)) o n (command.Insert f copies b)
  fetch_came : (from o : Id) (n : Number) (hops : Hops) (f : FileId) → Requests me (Comes from (Fetch o n hops f)) o n (command.Fetch f)
  reclaim_came : (from o : Id) (n : Number) (hops : Hops) (f : FileId) → Requests me (Comes from (Reclaim o n hops f)) o n (command.Reclaim f)

-- a file that comes with its bytes from another node
pub data Carries : Input → FileId → Content → Type 0 where
  handed : (from : Id) (f : FileId) (b : Content) → Carries (Comes from (Handover f b)) f b
  copied : (from o : Id) (n : Number) (f : FileId) (b : Content) → Carries (Comes from (Replicate o n f b)) f b

pub data FileRule : State → Input → Outcome → Type 0 where
  same : (s : State) (i : Input) (o : Outcome) → o.state.files ≡ s.files → AllQuiet o.notes → FileRule s i o
  accepts : (s : State) (i : Input) (o : Outcome) (from : Id) (n : Number) (f : FileId) (copies : ℕ) (b : Content) (rest : List Note) →
      Requests s.me i from n (command.Insert f copies b) →
      way_of s (key_of f) ≡ way.Here → slot_of s.files f ≡ None → has_room s.files ≡ true → o.state.files ≡ with_slot s.files f (Some b) →
      o.notes ≡ note.Accepted f b ∷ rest → AllQuiet rest → FileRule s i o
  reclaims : (s : State) (i : Input) (o : Outcome) (from : Id) (n : Number) (f : FileId) (b : Content) (rest : List Note) →
      Requests s.me i from n (command.Reclaim f) →
      way_of s (key_of f) ≡ way.Here → slot_of s.files f ≡ Some (Some b) → o.state.files ≡ with_slot s.files f None → o.notes ≡ note.Reclaimed f ∷ rest →
      AllQuiet rest → FileRule s i o
  puts : (s : State) (i : Input) (o : Outcome) (f : FileId) (b : Content) → Carries i f b → slot_of s.files f ≡ None → has_room s.files ≡ true →
      o.state.files ≡ with_slot s.files f (Some b) → AllQuiet o.notes → FileRule s i o
  buries : (s : State) (o : Outcome) (from : Id) (a : Attempt) (manifest tombs : List FileId) → o.state.files ≡ buried_all s.files tombs → AllQuiet o.notes →
      FileRule s (Comes from (Grant a manifest tombs)) o

-- what a message says of files, where its sender has these
abbrev pub Shown : List Held → Message → Type 0
Shown files (Handover f b) = slot_of files f ≡ Some (Some b)
Shown files (Replicate o n f b) = slot_of files f ≡ Some (Some b)
Shown files (ReplicaAck o n f) = (b : Content) × (slot_of files f ≡ Some (Some b))
Shown files (Lookup origin number key hops) = Unit {0}
Shown files (LookupReply number r) = Unit {0}
Shown files (Insert origin number hops f copies b) = Unit {0}
Shown files (InsertReply number r) = Unit {0}
Shown files (Fetch origin number hops f) = Unit {0}
Shown files (FetchReply number r) = Unit {0}
Shown files (JoinRequest joiner a hops) = Unit {0}
Shown files (JoinReply a members) = Unit {0}
Shown files (JoinRefuse a w) = Unit {0}
Shown files (Probe a) = Unit {0}
Shown files (ProbeReply a members) = Unit {0}
Shown files (LeaseRequest a l r) = Unit {0}
Shown files (Grant a manifest tombs) = Unit {0}
Shown files (Deny a w) = Unit {0}
Shown files (Release a) = Unit {0}
Shown files (Confirm a) = Unit {0}
Shown files Announce = Unit {0}
Shown files (Reclaim origin number hops f) = Unit {0}
Shown files (ReclaimReply number r) = Unit {0}

abbrev pub AllShown : List Held → List Sent → Type 0
AllShown files sends = Each (λ m. Shown files m.message) sends

pub record Filed (s : State) (i : Input) (o : Outcome) : Type 0 where
  pub does : FileRule s i o
  pub shows : AllShown o.state.files o.sends

-- nothing of files happens
quiet : (s : State) (i : Input) (o : Outcome) → o.state.files ≡ s.files → Each IsQuiet o.notes → AllShown o.state.files o.sends → Filed s i o
quiet s i o e q h = record { does = same s i o e (record { each = q }); shows = h }

reply_shown : (files : List Held) (what : Asked) (n : Number) (r : Reply) → Shown files (reply_message what n r)
reply_shown files asked.Lookup n r = tt
reply_shown files asked.Insert n r = tt
reply_shown files asked.Fetch n r = tt
reply_shown files asked.Reclaim n r = tt

answered : (s t : State) (i : Input) (what : Asked) (o : Id) (n : Number) (r : Reply) → t.files ≡ s.files → Filed s i (replied t what o n r)
answered s t i what o n r e = quiet s i _ e (tt, tt) (reply_shown t.files what n r, tt)

served_filed : (s t : State) (i : Input) (what : Asked) (o : Id) (n : Number) (w : Way) (next : Message) (here : Outcome) → t.files ≡ s.files →
    Shown t.files next → (w ≡ way.Here → Filed s i here) → Filed s i (served t what o n w next here)
served_filed s t i what o n way.NotReady next here e f h = answered s t i what o n (reply.NotReady t.me) e
served_filed s t i what o n way.Here next here e f h = h refl
served_filed s t i what o n (way.Gap j) next here e f h = answered s t i what o n (reply.Busy t.me j) e
served_filed s t i what o n (way.To y) next here e f h = quiet s i _ e tt (f, tt)

-- ---- Lookup, Fetch, Insert and Reclaim, where numbers may have been added to those that wait

module _ (s : State) (i : Input) (waiting : List Number) where
  -- the state, with these numbers waiting
  abbrev with_waiting : State
  with_waiting = record s { waiting = waiting }

  lookup_filed : (o : Id) (n : Number) (key : Key) (hops : Hops) → Filed s i (on_lookup with_waiting o n key hops)
  lookup_filed o n key hops = served_filed s with_waiting i asked.Lookup o n (way_of with_waiting key)
      (Lookup o n key (one_more hops)) _ refl tt
      (λ _. quiet s i _ refl (tt, (tt, tt)) (tt, tt))

  fetch_filed : (o : Id) (n : Number) (hops : Hops) (f : FileId) → Filed s i (on_fetch with_waiting o n hops f)
  fetch_filed o n hops f = served_filed s with_waiting i asked.Fetch o n (way_of with_waiting (key_of f))
      (Fetch o n (one_more hops) f) _ refl tt
      (λ _. answered s with_waiting i asked.Fetch o n (fetched with_waiting (slot_of s.files f)) refl)

  -- replicas are asked for of a file that is held
  replicated_shown : (u : State) (o : Id) (n : Number) (f : FileId) (b : Content) (targets : List Id) → slot_of u.files f ≡ Some (Some b) →
      AllShown u.files (replicated u o n f b targets).sends
  replicated_shown u o n f b [] e = (tt, tt)
  replicated_shown u o n f b (x ∷ xs) e = Each-to_each (λ m. Shown u.files m.message) (x ∷ xs) (Replicate o n f b) (λ y. e)

  replicated_quiet : (u : State) (o : Id) (n : Number) (f : FileId) (b : Content) (targets : List Id) → Each IsQuiet (replicated u o n f b targets).notes
  replicated_quiet u o n f b [] = (tt, tt)
  replicated_quiet u o n f b (x ∷ xs) = tt

  replicated_files : (u : State) (o : Id) (n : Number) (f : FileId) (b : Content) (targets : List Id) → (replicated u o n f b targets).state.files ≡ u.files
  replicated_files u o n f b [] = refl
  replicated_files u o n f b (x ∷ xs) = refl

  replicated_filed : (o : Id) (n : Number) (f : FileId) (b : Content) (targets : List Id) → slot_of s.files f ≡ Some (Some b) →
      Filed s i (replicated with_waiting o n f b targets)
  replicated_filed o n f b targets e = quiet s i _ (replicated_files with_waiting o n f b targets)
      (replicated_quiet with_waiting o n f b targets)
      (subst (λ files. AllShown files (replicated with_waiting o n f b targets).sends)
      (sym (replicated_files with_waiting o n f b targets))
      (replicated_shown with_waiting o n f b targets e))

  accepted_filed : (o : Id) (n : Number) (f : FileId) (copies : ℕ) (b : Content) → Requests s.me i o n (command.Insert f copies b) →
      way_of s (key_of f) ≡ way.Here → slot_of s.files f ≡ None →
      Filed s i (accepted with_waiting o n f copies b)
  accepted_filed o n f copies b q w e =
      cond_both (has_room s.files) _ _ (Filed s i) (λ room. record {
        does = accepts s i _ o n f copies b (replicated u o n f b targets).notes q w e room (replicated_files u o n f b targets) refl
            (record { each = replicated_quiet u o n f b targets });
        shows = subst (λ files. AllShown files (replicated u o n f b targets).sends) (sym (replicated_files u o n f b targets))
            (replicated_shown u o n f b targets (slot-itself s.files f (Some b)));
      }) (λ _. answered s with_waiting i asked.Insert o n (reply.Full s.me) refl) where
        u : State
        u = record s { waiting = waiting; files = with_slot s.files f (Some b) }

        targets : List Id
        targets = targets_of with_waiting f copies

  inserted_filed : (o : Id) (n : Number) (f : FileId) (copies : ℕ) (b : Content) (h : Option Slot) → Requests s.me i o n (command.Insert f copies b) →
      way_of s (key_of f) ≡ way.Here → slot_of s.files f ≡ h →
      Filed s i (inserted with_waiting o n f copies b h)
  inserted_filed o n f copies b (Some None) q w e = answered s with_waiting i asked.Insert o n (reply.Gone s.me) refl
  inserted_filed o n f copies b (Some (Some held)) q w e =
      cond_both (not (same_bytes held b)) _ _ (Filed s i) (λ _. answered s with_waiting i asked.Insert o n (reply.Collision s.me) refl)
      (λ other. cond_both (has_too_few with_waiting copies) _ _ (Filed s i)
      (λ _. answered s with_waiting i asked.Insert o n _ refl)
      (λ _. replicated_filed o n f b (targets_of with_waiting f copies)
      (e ∙ ap (λ x. Some (Some x)) (same-is held b (twice (same_bytes held b) other))))) where
        twice : (x : Bool) → not x ≡ false → x ≡ true
        twice true d = refl
        twice false d = cc
  inserted_filed o n f copies b None q w e =
      cond_both (has_too_few with_waiting copies) _ _ (Filed s i)
      (λ _. answered s with_waiting i asked.Insert o n _ refl) (λ _. accepted_filed o n f copies b q w e)

  insert_filed : (o : Id) (n : Number) (hops : Hops) (f : FileId) (copies : ℕ) (b : Content) → Requests s.me i o n (command.Insert f copies b) →
      Filed s i (on_insert with_waiting o n hops f copies b)
  insert_filed o n hops f copies b q =
      served_filed s with_waiting i asked.Insert o n (way_of with_waiting (key_of f))
      (Insert o n (one_more hops) f copies b) _ refl tt
      (λ w. inserted_filed o n f copies b (slot_of s.files f) q w refl)

  -- pending inserts that are replied
  each_shown : (files : List Held) (u : State) (r : Reply) (ps : List Pending) → AllShown files (replied_each u r ps).sends
  each_shown files u r [] = tt
  each_shown files u r (p ∷ ps) = (tt, each_shown files u r ps)

  pub each_quiet : (u : State) (r : Reply) (ps : List Pending) → Each IsQuiet (replied_each u r ps).notes
  each_quiet u r [] = tt
  each_quiet u r (p ∷ ps) = (tt, each_quiet u r ps)

  reclaimed_filed : (o : Id) (n : Number) (f : FileId) (h : Option Slot) → Requests s.me i o n (command.Reclaim f) → way_of s (key_of f) ≡ way.Here →
      slot_of s.files f ≡ h →
      Filed s i (reclaimed with_waiting o n f h)
  reclaimed_filed o n f None q w e = answered s with_waiting i asked.Reclaim o n (reply.NotFound s.me) refl
  reclaimed_filed o n f (Some None) q w e = answered s with_waiting i asked.Reclaim o n (reply.Reclaimed s.me) refl
  reclaimed_filed o n f (Some (Some b)) q w e = record {
    does = reclaims s i _ o n f b (ended.notes ++ note.Answered o n (reply.Reclaimed s.me) ∷ []) q w e refl refl
        (record { each = Each-append IsQuiet ended.notes _ (each_quiet u (reply.Gone s.me) (filter (is_of f) s.pending)) (tt, tt) });
    shows = Each-append _ ended.sends _ (each_shown u.files u (reply.Gone s.me) (filter (is_of f) s.pending)) (tt, tt);
  } where
    u : State
    u = emptied with_waiting f

    ended : Outcome
    ended = replied_each u (reply.Gone s.me) (filter (is_of f) s.pending)

  reclaim_filed : (o : Id) (n : Number) (hops : Hops) (f : FileId) → Requests s.me i o n (command.Reclaim f) →
      Filed s i (on_reclaim with_waiting o n hops f)
  reclaim_filed o n hops f q =
      served_filed s with_waiting i asked.Reclaim o n (way_of with_waiting (key_of f))
      (Reclaim o n (one_more hops) f) _ refl tt
      (λ w. reclaimed_filed o n f (slot_of s.files f) q w refl)

-- ---- replicas, files handed over, and replies that come back

still : (s : State) (i : Input) → Filed s i (nothing s)
still s i = quiet s i _ refl tt tt

put_shown : (s : State) (f : FileId) (b : Content) → slot_of (holding s f b).files f ≡ Some (Some b)
put_shown s f b = slot-itself s.files f (Some b)

replicate_filed : (s : State) (from o : Id) (n : Number) (f : FileId) (b : Content) (h : Option Slot) → slot_of s.files f ≡ h →
    Filed s (Comes from (Replicate o n f b)) (replicate_at s from o n f b h)
replicate_filed s from o n f b None e =
    cond_both (has_room s.files) _ _ (Filed s (Comes from (Replicate o n f b)))
    (λ room. record { does = puts s _ _ f b (copied from o n f b) e room refl (record { each = tt }); shows = ((b, put_shown s f b), tt) }) (λ _. still s _)
replicate_filed s from o n f b (Some None) e = still s _
replicate_filed s from o n f b (Some (Some held)) e =
    cond_both (same_bytes held b) _ _ (Filed s (Comes from (Replicate o n f b))) (λ _. quiet s _ _ refl tt ((held, e), tt)) (λ _. still s _)

taken_filed : (s : State) (i : Input) (place : ℕ) (p : Pending) (left : List Id) → Filed s i (ack_taken s place p left)
taken_filed s i place p [] = quiet s i _ refl (tt, tt) (tt, tt)
taken_filed s i place p (y ∷ ys) = quiet s i _ refl tt tt

ack_of_filed : (s : State) (i : Input) (from : Id) (place : ℕ) (p : Option Pending) → Filed s i (ack_of s from place p)
ack_of_filed s i from place None = still s i
ack_of_filed s i from place (Some p) = taken_filed s i place p (filter (λ y. not (y == from)) p.awaited)

ack_filed : (s : State) (i : Input) (from : Id) (place : Option ℕ) → Filed s i (ack_at s from place)
ack_filed s i from None = still s i
ack_filed s i from (Some place) = ack_of_filed s i from place (slice_get s.pending place)

ready_shown : (files : List Held) (l r : Id) (a : Attempt) (ys : List Id) → AllShown files (to_both l r (Confirm a) ++ to_each ys Announce)
ready_shown files l r a ys = Each-append _ (to_both l r (Confirm a)) _ (Each-to_both (λ m. Shown files m.message) l r (Confirm a) (λ y. tt))
    (Each-to_each (λ m. Shown files m.message) ys Announce (λ y. tt))

-- what the ready test adds says nothing of files
record Tested (t : State) (o : Outcome) : Type 0 where
  files : o.state.files ≡ t.files
  notes : Each IsQuiet o.notes
  shows : AllShown o.state.files o.sends

tested : (t : State) (p : Phase) → Tested t (ready_test_in t p)
tested t (Leasing a m l r (Some gl) (Some gr)) =
    cond_both (has_all t gl && has_all t gr) _ _ (Tested t)
    (λ _. record { files = refl; notes = (tt, tt); shows = ready_shown t.files l r a (leaves t.me t.known) })
    (λ _. record { files = refl; notes = tt; shows = tt })
tested t (Leasing a m l r (Some gl) None) = record { files = refl; notes = tt; shows = tt }
tested t (Leasing a m l r None gr) = record { files = refl; notes = tt; shows = tt }
tested t (Waiting a) = record { files = refl; notes = tt; shows = tt }
tested t (Asking a m) = record { files = refl; notes = tt; shows = tt }
tested t (Probing a m probed) = record { files = refl; notes = tt; shows = tt }
tested t (Ready a l r) = record { files = refl; notes = tt; shows = tt }

handover_filed : (s : State) (from : Id) (f : FileId) (b : Content) (h : Option Slot) → slot_of s.files f ≡ h →
    Filed s (Comes from (Handover f b)) (handover_at s f b h)
handover_filed s from f b None e =
    cond_both (has_room s.files) _ _ (Filed s (Comes from (Handover f b)))
    (λ room. let done = tested (holding s f b) s.phase in
    record { does = puts s _ _ f b (handed from f b) e room done.files (record { each = done.notes }); shows = done.shows }) (λ _. still s _)
handover_filed s from f b (Some slot) e = still s _

reply_filed : (s : State) (i : Input) (n : Number) (r : Reply) → Filed s i (on_reply s n r)
reply_filed s i n r = cond_both (is_in s.waiting n) _ _ (Filed s i) (λ _. quiet s i _ refl (tt, tt) tt) (λ _. still s i)

service_filed : (s : State) (i : Input) → IsServiceInput i → Filed s i (step s i)
service_filed s (Command n (command.Lookup key)) k = lookup_filed s _ (s.waiting ++ n ∷ []) s.me n key 0
service_filed s (Command n (command.Insert f copies b)) k = insert_filed s _ (s.waiting ++ n ∷ []) s.me n 0 f copies b (told n _)
service_filed s (Command n (command.Fetch f)) k = fetch_filed s _ (s.waiting ++ n ∷ []) s.me n 0 f
service_filed s (Command n (command.Reclaim f)) k = reclaim_filed s _ (s.waiting ++ n ∷ []) s.me n 0 f (told n _)
service_filed s (Command n (command.Join via)) k = absurd k
service_filed s (Command n command.GiveUp) k = absurd k
service_filed s (Comes from (Lookup o n key hops)) k = lookup_filed s _ s.waiting o n key hops
service_filed s (Comes from (LookupReply n r)) k = reply_filed s _ n r
service_filed s (Comes from (Insert o n hops f copies b)) k = insert_filed s _ s.waiting o n hops f copies b (insert_came from o n hops f copies b)
service_filed s (Comes from (InsertReply n r)) k = reply_filed s _ n r
service_filed s (Comes from (Fetch o n hops f)) k = fetch_filed s _ s.waiting o n hops f
service_filed s (Comes from (FetchReply n r)) k = reply_filed s _ n r
service_filed s (Comes from (Handover f b)) k = handover_filed s from f b (slot_of s.files f) refl
service_filed s (Comes from (Replicate o n f b)) k = replicate_filed s from o n f b (slot_of s.files f) refl
service_filed s (Comes from (ReplicaAck o n f)) k = ack_filed s _ from (position (awaits from o n f) s.pending)
service_filed s (Comes from (Reclaim o n hops f)) k = reclaim_filed s _ s.waiting o n hops f (reclaim_came from o n hops f)
service_filed s (Comes from (ReclaimReply n r)) k = reply_filed s _ n r
service_filed s (Comes from (JoinRequest j a hops)) k = absurd k
service_filed s (Comes from (JoinReply a heard)) k = absurd k
service_filed s (Comes from (JoinRefuse a w)) k = absurd k
service_filed s (Comes from (Probe a)) k = absurd k
service_filed s (Comes from (ProbeReply a heard)) k = absurd k
service_filed s (Comes from (LeaseRequest a l r)) k = absurd k
service_filed s (Comes from (Grant a manifest tombs)) k = absurd k
service_filed s (Comes from (Deny a w)) k = absurd k
service_filed s (Comes from (Release a)) k = absurd k
service_filed s (Comes from (Confirm a)) k = absurd k
service_filed s (Comes from Announce) k = absurd k
service_filed s Noise k = absurd k

-- ---- every rule

-- a file that is handed over stands with its bytes
handovers_shown : (to : Id) (files : List Held) (manifest : List FileId) → AllShown files (handovers to files manifest)
handovers_shown to files [] = tt
handovers_shown to files (f ∷ fs) = one to files f (slot_of files f) _ refl (handovers_shown to files fs) where
  one : (to : Id) (files : List Held) (f : FileId) (o : Option Slot) (rest : List Sent) → slot_of files f ≡ o → AllShown files rest →
      AllShown files (with_handover to f o rest)
  one to files f (Some (Some b)) rest e h = (e, h)
  one to files f (Some None) rest e h = h
  one to files f None rest e h = h

newly_gated_filed : (s u : State) (i : Input) (x y : Id) (g : Gate) → u.files ≡ s.files → Filed s i (newly_gated u x y g)
newly_gated_filed s u i x y g e = quiet s i _ e (each_quiet s i [] _ (reply.Busy u.me g.joiner) gone)
    (Each-append _ (granted g.joiner g.attempt lists u.files) _ (tt, handovers_shown g.joiner u.files lists.manifest)
    (each_shown s i [] u.files _ (reply.Busy u.me g.joiner) gone)) where
      lists : Lists
      lists = new_lists u x y g

      gone : List Pending
      gone = filter (is_left_to (gated_reach u x y g) g.joiner) u.pending

pub seat_filed : (s : State) (i : Input) (o : Outcome) → Seat s i o → o ≡ step s i → Filed s i o
seat_filed _ _ _ (rule.serves s i o e f g q) is = subst (Filed s i) (sym is) (service_filed s i q)
seat_filed _ _ _ (rule.stops_leasing s n a m l r fl fr e) is = quiet s _ _ refl (tt, (tt, tt)) (Each-to_both _ l r (Release a) (λ y. tt))
seat_filed _ _ _ (rule.probes s from a m heard known y ys e f g) is = quiet s _ _ refl tt (Each-to_each _ (y ∷ ys) (Probe a) (λ z. tt))
seat_filed _ _ _ (rule.probes_on s from a m heard known old probed new e f g k) is = quiet s _ _ refl tt (Each-to_each _ new (Probe a) (λ z. tt))
seat_filed _ _ _ (rule.leases s from a m heard known old e f) is = quiet s _ _ refl tt (Each-to_both _ _ _ (LeaseRequest a _ _) (λ y. tt))
seat_filed _ _ _ (rule.denied s from a m l r fl fr w e) is = quiet s _ _ refl (tt, tt) (Each-to_both _ l r (Release a) (λ y. tt))
seat_filed _ _ _ (rule.grant_kept s from a m l r fl fr manifest tombs e w) is =
    record { does = buries s _ from a manifest tombs refl (record { each = tt }); shows = tt }
seat_filed _ _ _ (rule.grant_readies s t from a m l r fl fr left right manifest tombs e f g k w) is =
    record {
      does = buries s _ from a manifest tombs (ap (λ (u : State). u.files) f) (record { each = (tt, tt) });
      shows = ready_shown t.files l r a (leaves t.me t.known);
    }
seat_filed _ _ _ (rule.file_readies s from a m l r left right file bytes e f g k) is =
    record {
      does = puts s _ _ file bytes (handed from file bytes) f g refl (record { each = (tt, tt) });
      shows = ready_shown (holding s file bytes).files l r a (leaves s.me s.known);
    }
seat_filed _ _ _ (rule.lease_again s from a l r b x y e f) is =
    quiet s _ _ refl tt (tt, handovers_shown from s.files (lists_of (if s.me == l then s.right_gate else s.left_gate)).manifest)
seat_filed _ _ _ (rule.lease_new s from a l r b x y e f g) is = newly_gated_filed s (cleared s from a) _ x y (asked_for from a l r) refl
seat_filed _ _ _ (rule.not_begun s n via reason e) is = quiet s _ _ refl (tt, tt) tt
seat_filed _ _ _ (rule.idles s n e) is = quiet s _ _ refl (tt, tt) tt
seat_filed _ _ _ (rule.stops_asking s n a m e) is = quiet s _ _ refl (tt, (tt, tt)) tt
seat_filed _ _ _ (rule.stops_probing s n a m probed e) is = quiet s _ _ refl (tt, (tt, tt)) tt
seat_filed _ _ _ (rule.refused s from a m w e) is = quiet s _ _ refl (tt, tt) tt
seat_filed _ _ _ (rule.unmoved s i) is = still s i
seat_filed _ _ _ (rule.released s from a) is = quiet s _ _ refl tt tt
seat_filed _ _ _ (rule.confirms s from a b x y e f) is = quiet s _ _ refl tt tt
seat_filed _ _ _ (rule.announced s from) is = quiet s _ _ refl tt tt
seat_filed _ _ _ (rule.request_on s from j a hops y e) is = quiet s _ _ refl tt (tt, tt)
seat_filed _ _ _ (rule.request_served s from j a hops b l r e w) is = quiet s _ _ refl tt (tt, tt)
seat_filed _ _ _ (rule.request_unready s from j a hops e) is = quiet s _ _ refl tt (tt, tt)
seat_filed _ _ _ (rule.request_busy s from j a hops i e) is = quiet s _ _ refl tt (tt, tt)
seat_filed _ _ _ (rule.begins s n via a e f) is = quiet s _ _ refl tt (tt, tt)
seat_filed _ _ _ (rule.grant_older s from a manifest tombs e) is = quiet s _ _ refl tt (tt, tt)
seat_filed _ _ _ (rule.grant_settled s from a l r manifest tombs e) is = quiet s _ _ refl tt (tt, tt)
seat_filed _ _ _ (rule.probed s from a b l r e) is = quiet s _ _ refl tt (tt, tt)
seat_filed _ _ _ (rule.lease_unready s from a l r e) is = quiet s _ _ refl tt (tt, tt)
seat_filed _ _ _ (rule.lease_busy s from a l r b x y j e f) is = quiet s _ _ refl tt (tt, tt)
seat_filed _ _ _ (rule.lease_moved s from a l r b x y e) is = quiet s _ _ refl tt (tt, tt)

pub step_filed : (s : State) (i : Input) → Filed s i (step s i)
step_filed s i = seat_filed s i (step s i) (step_seat s i) refl
