-- Each step is one of the rules of `Seat`.
use Rattle.std.proofs.Common.{◌≡◌, ◌≢◌, ◌<◌, inl, inr, ℕ, ◌∙◌, true, false, not, nat_lt, ◌&&◌, ◌||◌, ◌==◌, Option, Some, None, is_none, List, [], ◌∷◌, ◌++◌}
use Rattle.std.proofs.Common.{filter, map, position, slice_get, refl, sym, subst, ap, arith}
use Rattle.std.specs.List.{list_all, list_any}
use Rattle.std.proofs.lemmas.Bool.{cond_both, and_parts}
use Rattle.std.proofs.lemmas.Bool.Decides.{Decides-eqb, nat_tests}
use Rattle.ring_math.specs.Names.{Id, Key, FileId, Content, Attempt, Number, Hops}
use Rattle.ring_math.specs.Bytewise.{same_bytes}
use Rattle.ring_math.specs.Keys.{key_of}
use Rattle.ring_math.specs.Sides.{leaves, is_in, learn_all}
use Rattle.ring_math.specs.Files.{Slot, slot_of, has_room}
use Rattle.ring_math.specs.declared.file.Held.{Held}
use Rattle.coverage.specs.declared.Hop.{Hop}
use Rattle.coverage.specs.declared.Hop.TheVariants as hop
use Rattle.coverage.specs.GapFiles.{Lists, lists_in_gap}
use Rattle.wire_msg.specs.declared.limits.TheConstants.{LAST_ATTEMPT}
use Rattle.wire_msg.specs.declared.command.Command.TheVariants as command
use Rattle.wire_msg.specs.declared.note.Note.TheVariants as note
use Rattle.wire_msg.specs.declared.reply.Own.TheVariants as own
use Rattle.wire_msg.specs.declared.reply.Reply.{Reply}
use Rattle.wire_msg.specs.declared.reply.Reply.TheVariants as reply
use Rattle.wire_msg.specs.declared.reply.Why.{Why}
use Rattle.wire_msg.specs.Words.{Message, Lookup, LookupReply, Insert, InsertReply, Fetch, FetchReply, JoinRequest, JoinReply, JoinRefuse, Probe, ProbeReply}
use Rattle.wire_msg.specs.Words.{LeaseRequest, Grant, Deny, Handover, Release, Confirm, Announce, Replicate, ReplicaAck, Reclaim, ReclaimReply}
use Rattle.overlay_rules.specs.declared.gate.Gate.{Gate}
use Rattle.overlay_rules.specs.declared.gate.Verdict.{Verdict}
use Rattle.overlay_rules.specs.declared.gate.Verdict.TheVariants as verdict
use Rattle.overlay_rules.specs.declared.request.Asked.{Asked}
use Rattle.overlay_rules.specs.declared.request.Asked.TheVariants as asked
use Rattle.overlay_rules.specs.declared.request.Pending.{Pending}
use Rattle.overlay_rules.specs.declared.request.Way.{Way}
use Rattle.overlay_rules.specs.declared.request.Way.TheVariants as way
use Rattle.overlay_rules.specs.State.{State, Phase, Waiting, Asking, Probing, Leasing, Ready, attempt_of, is_ready, is_joining}
use Rattle.overlay_rules.specs.Outcome.{Outcome, Input, Command, Comes, Noise, Sent, nothing, before, sent, to_each, reply_message}
use Rattle.overlay_rules.specs.Routed.{way_by, way_in, way_of, one_more, served, on_lookup, join_request_by}
use Rattle.overlay_rules.specs.Roots.{targets_of, replicated, has_too_few, inserted, accepted, is_of, replied_each, reclaimed, on_fetch, on_insert, on_reclaim}
use Rattle.overlay_rules.specs.Replicas.{holding, replicate_at, ack_taken, ack_of, ack_at, handover_at, awaits, on_reply}
use Rattle.overlay_rules.specs.Joining.{join_in, give_up_in, refuse_in, probing, join_reply_in, is_unanswered, answered_by, unanswered, was_probed, probed_on}
use Rattle.overlay_rules.specs.Joining.{probe_reply_in, deny_in, kept_first, with_grant, older_grant, grant_in}
use Rattle.overlay_rules.specs.ReadyTest.{has_all, ready_test_in}
use Rattle.overlay_rules.specs.Gates.{asked_for, verdict_unless, blocked_by, fits, is_again, holds_gate}
use Rattle.overlay_rules.specs.Gatekeeper.{probe_in, handovers, granted, links_of, gated_reach, is_left_to, newly_gated, lease_by, lease_in, confirm_in}
use Rattle.overlay_rules.specs.Step.{step, waits_for}
use Rattle.overlay_rules.proofs.Each.{Each, Each-append, Each-weaker}
use Rattle.overlay_rules.proofs.Sends.{Each-to_each, Each-handovers}
use Rattle.overlay_rules.proofs.Seat.{SameSeat, IsService, AllService, IsServiceNote, AllServiceNotes, IsServiceInput, Seat, serves, unmoved, request_on}
use Rattle.overlay_rules.proofs.Seat.{request_served, request_unready, request_busy, begins, not_begun, stops_asking, stops_probing, stops_leasing, idles}
use Rattle.overlay_rules.proofs.Seat.{refused, probes, probes_on, leases, denied, grant_older, grant_settled, grant_kept, grant_readies, file_readies, probed}
use Rattle.overlay_rules.proofs.Seat.{lease_unready, lease_again, lease_busy, lease_moved, lease_new, released, confirms, announced}

-- ---- tests as facts

same : (a b : ℕ) → a == b ≡ true → a ≡ b
same a b e = (Decides-eqb a b).0 e

below : (a b : ℕ) → nat_lt a b ≡ true → a < b
below a b e = grind (arith, nat_tests)

differ : (a b : ℕ) → a == b ≡ false → a ≢ b
differ a b e f = grind (arith, nat_tests)

-- ---- lookups and files

-- only files, pending inserts and waiting numbers change, and only messages and notes of lookups and files are made
record Service (s : State) (o : Outcome) : Type 0 where
  seat : SameSeat s o.state
  sends : AllService o.sends
  notes : AllServiceNotes o.notes

SameSeat-itself : (s : State) → SameSeat s s
SameSeat-itself s = record { me = refl; phase = refl; left_gate = refl; right_gate = refl; known = refl }

-- the same parts, whatever the files, pending inserts and waiting numbers are
SameSeat-but : (s t u : State) → SameSeat s t → u.me ≡ t.me → u.phase ≡ t.phase → u.left_gate ≡ t.left_gate → u.right_gate ≡ t.right_gate → u.known ≡ t.known →
    SameSeat s u
SameSeat-but s t u e a b c d f = record { me = a ∙ e.me; phase = b ∙ e.phase; left_gate = c ∙ e.left_gate; right_gate = d ∙ e.right_gate; known = f ∙ e.known }

service : (s : State) (o : Outcome) → SameSeat s o.state → Each (λ x. IsService x.message) o.sends → Each IsServiceNote o.notes → Service s o
service s o e f g = record { seat = e; sends = record { each = f }; notes = record { each = g } }

seat_of : (s : State) (i : Input) (o : Outcome) → IsServiceInput i → Service s o → Seat s i o
seat_of s i o q h = serves s i o h.seat h.sends h.notes q

reply_service : (what : Asked) (n : Number) (r : Reply) → IsService (reply_message what n r)
reply_service asked.Lookup n r = tt
reply_service asked.Insert n r = tt
reply_service asked.Fetch n r = tt
reply_service asked.Reclaim n r = tt

served_service : (s t : State) (what : Asked) (o : Id) (n : Number) (w : Way) (next : Message) (here : Outcome) → SameSeat s t → IsService next →
    Service s here →
    Service s (served t what o n w next here)
served_service s t what o n way.NotReady next here e f h = service s _ e (reply_service what n _, tt) (tt, tt)
served_service s t what o n way.Here next here e f h = h
served_service s t what o n (way.Gap j) next here e f h = service s _ e (reply_service what n _, tt) (tt, tt)
served_service s t what o n (way.To y) next here e f h = service s _ e (f, tt) tt

to_each_service : (m : Message) → IsService m → (ys : List Id) → Each (λ x. IsService x.message) (to_each ys m)
to_each_service m f ys = Each-to_each (λ x. IsService x.message) ys m (λ y. f)

replicated_service : (s t : State) (o : Id) (n : Number) (file : FileId) (bytes : Content) (targets : List Id) → SameSeat s t →
    Service s (replicated t o n file bytes targets)
replicated_service s t o n file bytes [] e = service s _ e (tt, tt) (tt, tt)
replicated_service s t o n file bytes (x ∷ xs) e =
    service s _ (SameSeat-but s t _ e refl refl refl refl refl) (tt, to_each_service (Replicate o n file bytes) tt xs) tt

accepted_service : (s t : State) (o : Id) (n : Number) (file : FileId) (copies : ℕ) (bytes : Content) → SameSeat s t →
    Service s (accepted t o n file copies bytes)
accepted_service s t o n file copies bytes e =
    cond_both (has_room t.files) _ _ (Service s)
    (λ _. with_note (replicated_service s _ o n file bytes (targets_of t file copies) (SameSeat-but s t _ e refl refl refl refl refl)))
    (λ _. service s _ e (tt, tt) (tt, tt)) where
      with_note : {x : Outcome} → Service s x → Service s (before [] (note.Accepted file bytes ∷ []) x)
      with_note h = service s _ h.seat h.sends.each (tt, h.notes.each)

inserted_service : (s t : State) (o : Id) (n : Number) (file : FileId) (copies : ℕ) (bytes : Content) (h : Option Slot) → SameSeat s t →
    Service s (inserted t o n file copies bytes h)
inserted_service s t o n file copies bytes (Some None) e = service s _ e (tt, tt) (tt, tt)
inserted_service s t o n file copies bytes (Some (Some held)) e =
    cond_both (not (same_bytes held bytes)) _ _ (Service s) (λ _. service s _ e (tt, tt) (tt, tt))
    (λ _. cond_both (has_too_few t copies) _ _ (Service s) (λ _. service s _ e (tt, tt) (tt, tt))
    (λ _. replicated_service s t o n file bytes (targets_of t file copies) e))
inserted_service s t o n file copies bytes None e =
    cond_both (has_too_few t copies) _ _ (Service s) (λ _. service s _ e (tt, tt) (tt, tt)) (λ _. accepted_service s t o n file copies bytes e)

pub replied_each_sends : (s : State) (r : Reply) (ps : List Pending) → Each (λ x. IsService x.message) (replied_each s r ps).sends
replied_each_sends s r [] = tt
replied_each_sends s r (p ∷ ps) = (tt, replied_each_sends s r ps)

replied_each_notes : (s : State) (r : Reply) (ps : List Pending) → Each IsServiceNote (replied_each s r ps).notes
replied_each_notes s r [] = tt
replied_each_notes s r (p ∷ ps) = (tt, replied_each_notes s r ps)

reclaimed_service : (s t : State) (o : Id) (n : Number) (file : FileId) (h : Option Slot) → SameSeat s t → Service s (reclaimed t o n file h)
reclaimed_service s t o n file None e = service s _ e (tt, tt) (tt, tt)
reclaimed_service s t o n file (Some None) e = service s _ e (tt, tt) (tt, tt)
reclaimed_service s t o n file (Some (Some bytes)) e =
    service s _ (SameSeat-but s t _ e refl refl refl refl refl)
    (Each-append _ _ _ (replied_each_sends _ _ (filter (is_of file) t.pending)) (tt, tt))
    (tt, Each-append _ _ _ (replied_each_notes _ _ (filter (is_of file) t.pending)) (tt, tt))

waits : (s : State) (n : Number) → SameSeat s (waits_for s n)
waits s n = record { me = refl; phase = refl; left_gate = refl; right_gate = refl; known = refl }

lookup_seat : (s t : State) (i : Input) (o : Id) (n : Number) (key : Key) (hops : Hops) → IsServiceInput i → SameSeat s t → Seat s i (on_lookup t o n key hops)
lookup_seat s t i o n key hops q e =
    seat_of s i _ q (served_service s t asked.Lookup o n (way_of t key) (Lookup o n key (one_more hops)) _ e tt (service s _ e (tt, tt) (tt, (tt, tt))))

fetch_seat : (s t : State) (i : Input) (o : Id) (n : Number) (hops : Hops) (file : FileId) → IsServiceInput i → SameSeat s t →
    Seat s i (on_fetch t o n hops file)
fetch_seat s t i o n hops file q e =
    seat_of s i _ q (served_service s t asked.Fetch o n (way_of t (key_of file)) (Fetch o n (one_more hops) file) _ e tt (service s _ e (tt, tt) (tt, tt)))

insert_seat : (s t : State) (i : Input) (o : Id) (n : Number) (hops : Hops) (file : FileId) (copies : ℕ) (bytes : Content) → IsServiceInput i → SameSeat s t →
    Seat s i (on_insert t o n hops file copies bytes)
insert_seat s t i o n hops file copies bytes q e =
    seat_of s i _ q (served_service s t asked.Insert o n (way_of t (key_of file)) (Insert o n (one_more hops) file copies bytes) _ e tt
    (inserted_service s t o n file copies bytes (slot_of t.files file) e))

reclaim_seat : (s t : State) (i : Input) (o : Id) (n : Number) (hops : Hops) (file : FileId) → IsServiceInput i → SameSeat s t →
    Seat s i (on_reclaim t o n hops file)
reclaim_seat s t i o n hops file q e =
    seat_of s i _ q (served_service s t asked.Reclaim o n (way_of t (key_of file)) (Reclaim o n (one_more hops) file) _ e tt
    (reclaimed_service s t o n file (slot_of t.files file) e))

reply_seat : (s : State) (i : Input) (q : IsServiceInput i) (n : Number) (r : Reply) → Seat s i (on_reply s n r)
reply_seat s i q n r =
    cond_both (is_in s.waiting n) _ _ (Seat s i)
    (λ _. serves s i _ (SameSeat-but s s _ (SameSeat-itself s) refl refl refl refl refl) (record { each = tt }) (record { each = (tt, tt) }) q)
    (λ _. unmoved s i)

replicate_seat : (s : State) (i : Input) (q : IsServiceInput i) (from o : Id) (n : Number) (file : FileId) (bytes : Content) (h : Option Slot) →
    Seat s i (replicate_at s from o n file bytes h)
replicate_seat s i q from o n file bytes None =
    cond_both (has_room s.files) _ _ (Seat s i)
    (λ _. serves s i _ (SameSeat-but s s _ (SameSeat-itself s) refl refl refl refl refl) (record { each = (tt, tt) }) (record { each = tt }) q)
    (λ _. unmoved s i)
replicate_seat s i q from o n file bytes (Some None) = unmoved s i
replicate_seat s i q from o n file bytes (Some (Some held)) =
    cond_both (same_bytes held bytes) _ _ (Seat s i) (λ _. serves s i _ (SameSeat-itself s) (record { each = (tt, tt) }) (record { each = tt }) q)
    (λ _. unmoved s i)

taken_seat : (s : State) (i : Input) (q : IsServiceInput i) (place : ℕ) (p : Pending) (left : List Id) → Seat s i (ack_taken s place p left)
taken_seat s i q place p [] = serves s i _ (SameSeat-but s s _ (SameSeat-itself s) refl refl refl refl refl) (record { each = (tt, tt) })
    (record { each = (tt, tt) }) q
taken_seat s i q place p (y ∷ ys) = serves s i _ (SameSeat-but s s _ (SameSeat-itself s) refl refl refl refl refl) (record { each = tt })
    (record { each = tt }) q

ack_of_seat : (s : State) (i : Input) (q : IsServiceInput i) (from : Id) (place : ℕ) (p : Option Pending) → Seat s i (ack_of s from place p)
ack_of_seat s i q from place None = unmoved s i
ack_of_seat s i q from place (Some p) = taken_seat s i q place p (filter (λ y. not (y == from)) p.awaited)

ack_seat : (s : State) (i : Input) (q : IsServiceInput i) (from : Id) (place : Option ℕ) → Seat s i (ack_at s from place)
ack_seat s i q from None = unmoved s i
ack_seat s i q from (Some place) = ack_of_seat s i q from place (slice_get s.pending place)

-- ---- the join request

ready_way : (s : State) (key : Key) (w : Hop) (p : Phase) → s.phase ≡ p → way_in s key p ≡ way_by w →
    (b : Attempt) × ((l : Id) × ((r : Id) × (s.phase ≡ Ready b l r)))
ready_way s key w (Ready b l r) e f = (b, (l, (r, e)))
ready_way s key hop.Here (Waiting a) e f = cc
ready_way s key (hop.Gap j) (Waiting a) e f = cc
ready_way s key (hop.To y) (Waiting a) e f = cc
ready_way s key hop.Here (Asking a m) e f = cc
ready_way s key (hop.Gap j) (Asking a m) e f = cc
ready_way s key (hop.To y) (Asking a m) e f = cc
ready_way s key hop.Here (Probing a m ps) e f = cc
ready_way s key (hop.Gap j) (Probing a m ps) e f = cc
ready_way s key (hop.To y) (Probing a m ps) e f = cc
ready_way s key hop.Here (Leasing a m l r fl fr) e f = cc
ready_way s key (hop.Gap j) (Leasing a m l r fl fr) e f = cc
ready_way s key (hop.To y) (Leasing a m l r fl fr) e f = cc

way_by-ready : (w : Hop) → way_by w ≡ way.NotReady → ⊥
way_by-ready hop.Here e = cc
way_by-ready (hop.Gap j) e = cc
way_by-ready (hop.To y) e = cc

pub unready_way : (s : State) (key : Key) (p : Phase) → way_in s key p ≡ way.NotReady → is_ready p ≡ false
unready_way s key (Ready b l r) e = absurd (way_by-ready _ e)
unready_way s key (Waiting a) e = refl
unready_way s key (Asking a m) e = refl
unready_way s key (Probing a m ps) e = refl
unready_way s key (Leasing a m l r fl fr) e = refl

request_seat : (s : State) (from j : Id) (a : Attempt) (hops : Hops) (w : Way) → way_of s j ≡ w →
    Seat s (Comes from (JoinRequest j a hops)) (join_request_by s j a hops w)
request_seat s from j a hops way.NotReady e = request_unready s from j a hops (unready_way s j s.phase e)
request_seat s from j a hops way.Here e =
    let f = ready_way s j hop.Here s.phase refl e in request_served s from j a hops f.0 f.1.0 f.1.1.0 f.1.1.1 (inl e)
request_seat s from j a hops (way.Gap i) e =
    cond_both (i == j) _ _ (Seat s (Comes from (JoinRequest j a hops)))
    (λ f. let g = ready_way s j (hop.Gap i) s.phase refl e in request_served s from j a hops g.0 g.1.0 g.1.1.0 g.1.1.1 (inr (e ∙ ap way.Gap (same i j f))))
    (λ _. request_busy s from j a hops i e)
request_seat s from j a hops (way.To y) e = request_on s from j a hops y e

-- ---- the commands Join and GiveUp

join_seat : (s : State) (n : Number) (via : Id) (p : Phase) → s.phase ≡ p → Seat s (Command n (command.Join via)) (join_in s n via p)
join_seat s n via (Waiting a) e =
    cond_both (a == LAST_ATTEMPT) _ _ (Seat s (Command n (command.Join via)))
    (λ f. not_begun s n via own.Spent (e ∙ ap Waiting (same a LAST_ATTEMPT f))) (λ f. begins s n via a e (differ a LAST_ATTEMPT f))
join_seat s n via (Asking a m) e = not_begun s n via own.Already (λ b f. let g : Asking a m ≡ Waiting b = sym e ∙ f in cc)
join_seat s n via (Probing a m ps) e = not_begun s n via own.Already (λ b f. let g : Probing a m ps ≡ Waiting b = sym e ∙ f in cc)
join_seat s n via (Leasing a m l r fl fr) e = not_begun s n via own.Already (λ b f. let g : Leasing a m l r fl fr ≡ Waiting b = sym e ∙ f in cc)
join_seat s n via (Ready a l r) e = not_begun s n via own.Already (λ b f. let g : Ready a l r ≡ Waiting b = sym e ∙ f in cc)

give_up_seat : (s : State) (n : Number) (p : Phase) → s.phase ≡ p → Seat s (Command n command.GiveUp) (give_up_in s n p)
give_up_seat s n (Asking a m) e = stops_asking s n a m e
give_up_seat s n (Probing a m ps) e = stops_probing s n a m ps e
give_up_seat s n (Leasing a m l r fl fr) e = stops_leasing s n a m l r fl fr e
give_up_seat s n (Waiting a) e = idles s n (ap is_joining e)
give_up_seat s n (Ready a l r) e = idles s n (ap is_joining e)

-- ---- the joiner

refuse_seat : (s : State) (from : Id) (a : Attempt) (w : Why) (p : Phase) → s.phase ≡ p → Seat s (Comes from (JoinRefuse a w)) (refuse_in s from a w p)
refuse_seat s from a w (Asking b m) e =
    cond_both (a == b) _ _ (Seat s (Comes from (JoinRefuse a w)))
    (λ f. let g : a ≡ b = same a b f in rw (← g) (refused s from a m w (rw g e))) (λ _. unmoved s _)
refuse_seat s from a w (Waiting b) e = unmoved s _
refuse_seat s from a w (Probing b m ps) e = unmoved s _
refuse_seat s from a w (Leasing b m l r fl fr) e = unmoved s _
refuse_seat s from a w (Ready b l r) e = unmoved s _

probing_seat : (s : State) (from : Id) (a : Attempt) (m : Number) (heard known ys : List Id) → s.phase ≡ Asking a m → known ≡ learn_all s.me s.known heard →
    ys ≡ leaves s.me known →
    Seat s (Comes from (JoinReply a heard)) (probing s a m known ys)
probing_seat s from a m heard known [] e f g = unmoved s _
probing_seat s from a m heard known (y ∷ ys) e f g = probes s from a m heard known y ys e f g

join_reply_seat : (s : State) (from : Id) (a : Attempt) (heard : List Id) (p : Phase) → s.phase ≡ p →
    Seat s (Comes from (JoinReply a heard)) (join_reply_in s a (learn_all s.me s.known heard) p)
join_reply_seat s from a heard (Asking b m) e =
    cond_both (a == b) _ _ (Seat s (Comes from (JoinReply a heard)))
    (λ f. let g : a ≡ b = same a b f in rw (← g) (probing_seat s from a m heard _ _ (rw g e) refl refl)) (λ _. unmoved s _)
join_reply_seat s from a heard (Waiting b) e = unmoved s _
join_reply_seat s from a heard (Probing b m ps) e = unmoved s _
join_reply_seat s from a heard (Leasing b m l r fl fr) e = unmoved s _
join_reply_seat s from a heard (Ready b l r) e = unmoved s _

probe_reply_seat : (s : State) (from : Id) (a : Attempt) (heard : List Id) (p : Phase) → s.phase ≡ p →
    Seat s (Comes from (ProbeReply a heard)) (probe_reply_in s from a (learn_all s.me s.known heard) p)
probe_reply_seat s from a heard (Probing b m ps) e =
    cond_both ((a == b) && list_any (is_unanswered from) ps) _ _ (Seat s (Comes from (ProbeReply a heard)))
    (λ f. let g : a ≡ b = same a b (and_parts (a == b) (list_any (is_unanswered from) ps) f).0 in rw (← g) (on (rw g e)))
    (λ _. unmoved s _) where
      known : List ℕ
      known = learn_all s.me s.known heard

      new : List ℕ
      new = filter (λ y. not (was_probed ps y)) (leaves s.me known)

      on : s.phase ≡ Probing a m ps → Seat s (Comes from (ProbeReply a heard)) (probed_on s a m known (map (answered_by from) ps) new)
      on h =
          cond_both (list_all (λ p. p.1) (map (answered_by from) ps ++ map unanswered new)) _ _ (Seat s (Comes from (ProbeReply a heard)))
          (λ _. leases s from a m heard known ps h refl) (λ _. probes_on s from a m heard known ps (map (answered_by from) ps) new h refl refl refl)
probe_reply_seat s from a heard (Waiting b) e = unmoved s _
probe_reply_seat s from a heard (Asking b m) e = unmoved s _
probe_reply_seat s from a heard (Leasing b m l r fl fr) e = unmoved s _
probe_reply_seat s from a heard (Ready b l r) e = unmoved s _

deny_seat : (s : State) (from : Id) (a : Attempt) (w : Why) (p : Phase) → s.phase ≡ p → Seat s (Comes from (Deny a w)) (deny_in s from a w p)
deny_seat s from a w (Leasing b m l r fl fr) e =
    cond_both (a == b) _ _ (Seat s (Comes from (Deny a w)))
    (λ f. let g : a ≡ b = same a b f in rw (← g) (denied s from a m l r fl fr w (rw g e))) (λ _. unmoved s _)
deny_seat s from a w (Waiting b) e = unmoved s _
deny_seat s from a w (Asking b m) e = unmoved s _
deny_seat s from a w (Probing b m ps) e = unmoved s _
deny_seat s from a w (Ready b l r) e = unmoved s _

older_seat : (s : State) (from : Id) (a b : Attempt) (manifest tombs : List FileId) → b ≡ attempt_of s.phase →
    Seat s (Comes from (Grant a manifest tombs)) (older_grant s from a b)
older_seat s from a b manifest tombs e =
    cond_both (nat_lt a b) _ _ (Seat s (Comes from (Grant a manifest tombs)))
    (λ f. grant_older s from a manifest tombs (subst (λ n. a < n) e (below a b f))) (λ _. unmoved s _)

then_test_seat : (s : State) (from : Id) (a : Attempt) (m : Number) (l r : Id) (fl fr : Option Lists) (manifest tombs : List FileId) (gl gr : Option Lists) →
    s.phase ≡ Leasing a m l r fl fr →
    ((from == l) && is_none fl) || ((from == r) && is_none fr) ≡ true →
    kept_first (from == l) fl (record { manifest = manifest; tombs = tombs }) ≡ gl →
    kept_first (from == r) fr (record { manifest = manifest; tombs = tombs }) ≡ gr →
    Seat s (Comes from (Grant a manifest tombs))
    (ready_test_in (with_grant s from (record { manifest = manifest; tombs = tombs }) (Leasing a m l r fl fr)) (Leasing a m l r gl gr))
then_test_seat s from a m l r fl fr manifest tombs (Some gl) (Some gr) e w f g =
    cond_both (has_all kept gl && has_all kept gr) _ _ (Seat s (Comes from (Grant a manifest tombs)))
    (λ h. grant_readies s kept from a m l r fl fr gl gr manifest tombs e refl f g h) (λ _. grant_kept s from a m l r fl fr manifest tombs e w) where
      kept : State
      kept = with_grant s from (record { manifest = manifest; tombs = tombs }) (Leasing a m l r fl fr)
then_test_seat s from a m l r fl fr manifest tombs None gr e w f g = grant_kept s from a m l r fl fr manifest tombs e w
then_test_seat s from a m l r fl fr manifest tombs (Some gl) None e w f g = grant_kept s from a m l r fl fr manifest tombs e w

grant_seat : (s : State) (from : Id) (a : Attempt) (manifest tombs : List FileId) (p : Phase) → s.phase ≡ p →
    Seat s (Comes from (Grant a manifest tombs)) (grant_in s from a (record { manifest = manifest; tombs = tombs }) p)
grant_seat s from a manifest tombs (Leasing b m l r fl fr) e =
    cond_both (a == b) _ _ P
    (λ f. let g : a ≡ b = same a b f in rw (← g) (cond_both (((from == l) && is_none fl) || ((from == r) && is_none fr)) _ _ P
    (λ w. then_test_seat s from a m l r fl fr manifest tombs _ _ (rw g e) w refl refl) (λ _. unmoved s _)))
    (λ _. older_seat s from a b manifest tombs (sym (ap attempt_of e))) where
      P : Outcome → Type 0
      P = Seat s (Comes from (Grant a manifest tombs))
grant_seat s from a manifest tombs (Ready b l r) e =
    cond_both (a == b) _ _ (Seat s (Comes from (Grant a manifest tombs)))
    (λ f. let g : a ≡ b = same a b f in grant_settled s from a l r manifest tombs (rw g e)) (λ _. older_seat s from a b manifest tombs (sym (ap attempt_of e)))
grant_seat s from a manifest tombs (Waiting b) e = older_seat s from a b manifest tombs (sym (ap attempt_of e))
grant_seat s from a manifest tombs (Asking b m) e = older_seat s from a b manifest tombs (sym (ap attempt_of e))
grant_seat s from a manifest tombs (Probing b m ps) e = older_seat s from a b manifest tombs (sym (ap attempt_of e))

put_unready : (s : State) (from : Id) (file : FileId) (bytes : Content) → Seat s (Comes from (Handover file bytes)) (nothing (holding s file bytes))
put_unready s from file bytes = serves s _ _ (SameSeat-but s s _ (SameSeat-itself s) refl refl refl refl refl) (record { each = tt }) (record { each = tt }) tt

-- a file that is put readies the joiner, or it does not
put_seat : (s : State) (from : Id) (file : FileId) (bytes : Content) (p : Phase) → s.phase ≡ p → slot_of s.files file ≡ None → has_room s.files ≡ true →
    Seat s (Comes from (Handover file bytes)) (ready_test_in (holding s file bytes) p)
put_seat s from file bytes (Leasing a m l r (Some gl) (Some gr)) e f g =
    cond_both (has_all (holding s file bytes) gl && has_all (holding s file bytes) gr) _ _ (Seat s (Comes from (Handover file bytes)))
    (λ h. file_readies s from a m l r gl gr file bytes e f g h) (λ _. put_unready s from file bytes)
put_seat s from file bytes (Leasing a m l r (Some gl) None) e f g = put_unready s from file bytes
put_seat s from file bytes (Leasing a m l r None gr) e f g = put_unready s from file bytes
put_seat s from file bytes (Waiting a) e f g = put_unready s from file bytes
put_seat s from file bytes (Asking a m) e f g = put_unready s from file bytes
put_seat s from file bytes (Probing a m ps) e f g = put_unready s from file bytes
put_seat s from file bytes (Ready a l r) e f g = put_unready s from file bytes

handover_seat : (s : State) (from : Id) (file : FileId) (bytes : Content) (h : Option Slot) → slot_of s.files file ≡ h →
    Seat s (Comes from (Handover file bytes)) (handover_at s file bytes h)
handover_seat s from file bytes None e =
    cond_both (has_room s.files) _ _ (Seat s (Comes from (Handover file bytes))) (λ f. put_seat s from file bytes s.phase refl e f) (λ _. unmoved s _)
handover_seat s from file bytes (Some slot) e = unmoved s _

-- ---- the gatekeeper

probe_seat : (s : State) (from : Id) (a : Attempt) (p : Phase) → s.phase ≡ p → Seat s (Comes from (Probe a)) (probe_in s from a p)
probe_seat s from a (Ready b l r) e = probed s from a b l r e
probe_seat s from a (Waiting b) e = unmoved s _
probe_seat s from a (Asking b m) e = unmoved s _
probe_seat s from a (Probing b m ps) e = unmoved s _
probe_seat s from a (Leasing b m l r fl fr) e = unmoved s _

pub handovers_service : (to : Id) (files : List Held) (manifest : List FileId) → Each (λ x. IsService x.message) (handovers to files manifest)
handovers_service to files manifest = Each-handovers (λ x. IsService x.message) to files manifest (λ f b. tt)

unless_seat : (s : State) (from : Id) (a : Attempt) (l r : Id) (b : Attempt) (x y : Id) (j : Option Id) → s.phase ≡ Ready b x y →
    blocked_by (links_of s x y) s.me (asked_for from a l r) ≡ j →
    Seat s (Comes from (LeaseRequest a l r)) (lease_by s x y (asked_for from a l r) (verdict_unless (links_of s x y) s.me (asked_for from a l r) j))
unless_seat s from a l r b x y (Some j) e f = lease_busy s from a l r b x y j e f
unless_seat s from a l r b x y None e f =
    cond_both (fits (links_of s x y) s.me (asked_for from a l r)) verdict.Grant (verdict.Moved x y)
    (λ (v : Verdict). Seat s (Comes from (LeaseRequest a l r)) (lease_by s x y (asked_for from a l r) v))
    (λ g. lease_new s from a l r b x y e f g) (λ _. lease_moved s from a l r b x y e)

lease_seat : (s : State) (from : Id) (a : Attempt) (l r : Id) (p : Phase) → s.phase ≡ p →
    Seat s (Comes from (LeaseRequest a l r)) (lease_in s (asked_for from a l r) p)
lease_seat s from a l r (Ready b x y) e =
    cond_both (is_again (links_of s x y) s.me (asked_for from a l r)) verdict.Again
    (verdict_unless (links_of s x y) s.me (asked_for from a l r) (blocked_by (links_of s x y) s.me (asked_for from a l r)))
    (λ (v : Verdict). Seat s (Comes from (LeaseRequest a l r)) (lease_by s x y (asked_for from a l r) v))
    (λ f. lease_again s from a l r b x y e f) (λ _. unless_seat s from a l r b x y _ e refl)
lease_seat s from a l r (Waiting b) e = lease_unready s from a l r (ap is_ready e)
lease_seat s from a l r (Asking b m) e = lease_unready s from a l r (ap is_ready e)
lease_seat s from a l r (Probing b m ps) e = lease_unready s from a l r (ap is_ready e)
lease_seat s from a l r (Leasing b m x y fl fr) e = lease_unready s from a l r (ap is_ready e)

confirm_seat : (s : State) (from : Id) (a : Attempt) (p : Phase) → s.phase ≡ p → Seat s (Comes from (Confirm a)) (confirm_in s from a p)
confirm_seat s from a (Ready b x y) e =
    cond_both (holds_gate (links_of s x y) from a) _ _ (Seat s (Comes from (Confirm a))) (λ f. confirms s from a b x y e f) (λ _. unmoved s _)
confirm_seat s from a (Waiting b) e = unmoved s _
confirm_seat s from a (Asking b m) e = unmoved s _
confirm_seat s from a (Probing b m ps) e = unmoved s _
confirm_seat s from a (Leasing b m l r fl fr) e = unmoved s _

-- what holds of the Grant and of each message of files holds of all that goes with it
pub granted_sends : (P : Sent → Type 0) (from : Id) (a : Attempt) (lists : Lists) (files : List Held) → P (sent from (Grant a lists.manifest lists.tombs)) →
    ((x : Sent) → IsService x.message → P x) → Each P (granted from a lists files)
granted_sends P from a lists files g f =
    (g, Each-weaker (λ x. IsService x.message) P (handovers from files lists.manifest) f (handovers_service from files lists.manifest))

-- the lists of a new lease
abbrev pub new_lists : State → Id → Id → Gate → Lists
new_lists t x y g = lists_in_gap (gated_reach t x y g) g.joiner t.files

pub newly_gated_sends : (P : Sent → Type 0) (t : State) (x y : Id) (g : Gate) →
    P (sent g.joiner (Grant g.attempt (new_lists t x y g).manifest (new_lists t x y g).tombs)) → ((m : Sent) → IsService m.message → P m) →
    Each P (newly_gated t x y g).sends
newly_gated_sends P t x y g p f =
    Each-append P (granted g.joiner g.attempt (new_lists t x y g) t.files) _ (granted_sends P g.joiner g.attempt (new_lists t x y g) t.files p f)
    (Each-weaker (λ m. IsService m.message) P _ f
    (replied_each_sends _ (reply.Busy t.me g.joiner) (filter (is_left_to (gated_reach t x y g) g.joiner) t.pending)))

-- ---- every input

pub step_seat : (s : State) (i : Input) → Seat s i (step s i)
step_seat s (Command n (command.Join via)) = join_seat s n via s.phase refl
step_seat s (Command n (command.Lookup key)) = lookup_seat s (waits_for s n) _ s.me n key 0 tt (waits s n)
step_seat s (Command n (command.Insert file copies bytes)) = insert_seat s (waits_for s n) _ s.me n 0 file copies bytes tt (waits s n)
step_seat s (Command n (command.Fetch file)) = fetch_seat s (waits_for s n) _ s.me n 0 file tt (waits s n)
step_seat s (Command n command.GiveUp) = give_up_seat s n s.phase refl
step_seat s (Command n (command.Reclaim file)) = reclaim_seat s (waits_for s n) _ s.me n 0 file tt (waits s n)
step_seat s (Comes from (Lookup o n key hops)) = lookup_seat s s _ o n key hops tt (SameSeat-itself s)
step_seat s (Comes from (LookupReply n r)) = reply_seat s _ tt n r
step_seat s (Comes from (Insert o n hops file copies bytes)) = insert_seat s s _ o n hops file copies bytes tt (SameSeat-itself s)
step_seat s (Comes from (InsertReply n r)) = reply_seat s _ tt n r
step_seat s (Comes from (Fetch o n hops file)) = fetch_seat s s _ o n hops file tt (SameSeat-itself s)
step_seat s (Comes from (FetchReply n r)) = reply_seat s _ tt n r
step_seat s (Comes from (JoinRequest j a hops)) = request_seat s from j a hops (way_of s j) refl
step_seat s (Comes from (JoinReply a heard)) = join_reply_seat s from a heard s.phase refl
step_seat s (Comes from (JoinRefuse a w)) = refuse_seat s from a w s.phase refl
step_seat s (Comes from (Probe a)) = probe_seat s from a s.phase refl
step_seat s (Comes from (ProbeReply a heard)) = probe_reply_seat s from a heard s.phase refl
step_seat s (Comes from (LeaseRequest a l r)) = lease_seat s from a l r s.phase refl
step_seat s (Comes from (Grant a manifest tombs)) = grant_seat s from a manifest tombs s.phase refl
step_seat s (Comes from (Deny a w)) = deny_seat s from a w s.phase refl
step_seat s (Comes from (Handover file bytes)) = handover_seat s from file bytes (slot_of s.files file) refl
step_seat s (Comes from (Release a)) = released s from a
step_seat s (Comes from (Confirm a)) = confirm_seat s from a s.phase refl
step_seat s (Comes from Announce) = announced s from
step_seat s (Comes from (Replicate o n file bytes)) = replicate_seat s _ tt from o n file bytes (slot_of s.files file)
step_seat s (Comes from (ReplicaAck o n file)) = ack_seat s _ tt from (position (awaits from o n file) s.pending)
step_seat s (Comes from (Reclaim o n hops file)) = reclaim_seat s s _ o n hops file tt (SameSeat-itself s)
step_seat s (Comes from (ReclaimReply n r)) = reply_seat s _ tt n r
step_seat s Noise = unmoved s _
