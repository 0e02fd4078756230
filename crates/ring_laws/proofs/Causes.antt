-- Why a join was refused or denied: the sender of the answer shows the cause in the state after the entry that sent it.
use Rattle.std.proofs.Common.{◌≡◌, ◌⊎◌, inl, inr, ℕ, ◌+◌, Bool, true, false, ◌==◌, if◌then◌else◌, Option, Some, None, List, ◌∷◌, ◌++◌, take, slice_get, refl}
use Rattle.std.proofs.Common.{sym, subst, ap, ◌∙◌, rules}
use Rattle.ring_math.specs.Names.{Id, Key, Attempt}
use Rattle.coverage.specs.declared.Hop.{Hop}
use Rattle.coverage.specs.declared.Hop.TheVariants as hop
use Rattle.coverage.specs.Coverage.{or_else}
use Rattle.coverage.specs.NextHop.{next_hop_of}
use Rattle.coverage.proofs.Ends.{joiner_on, gap_of-some}
use Rattle.coverage.proofs.Onward.{next_hop-gap}
use Rattle.wire_msg.specs.declared.note.Note.{Note}
use Rattle.wire_msg.specs.declared.reply.Why.{Why}
use Rattle.wire_msg.specs.declared.reply.Why.TheVariants as why
use Rattle.wire_msg.specs.Words.{Message, Envelope, Sent, Lookup, LookupReply, Insert, InsertReply, Fetch, FetchReply, JoinRequest, JoinReply, JoinRefuse}
use Rattle.wire_msg.specs.Words.{Probe, ProbeReply, LeaseRequest, Grant, Deny, Handover, Release, Confirm, Announce, Replicate, ReplicaAck, Reclaim}
use Rattle.wire_msg.specs.Words.{ReclaimReply}
use Rattle.overlay_rules.specs.declared.entry.Event.{Event}
use Rattle.overlay_rules.specs.declared.entry.Event.TheVariants as event
use Rattle.overlay_rules.specs.declared.entry.Entry.{Entry}
use Rattle.overlay_rules.specs.declared.gate.Gate.{Gate}
use Rattle.overlay_rules.specs.declared.request.Way.TheVariants as way
use Rattle.overlay_rules.specs.State.{State, Lease, Phase, Waiting, Asking, Probing, Leasing, Ready, is_ready, bare, joiner_of, reach}
use Rattle.overlay_rules.specs.Outcome.{Outcome, Input, becomes, to_both, to_each}
use Rattle.overlay_rules.specs.Routed.{way_by, way_in, way_of}
use Rattle.overlay_rules.specs.Gates.{is_older, unless, asked_for, busy_with, blocked_by}
use Rattle.overlay_rules.specs.Gatekeeper.{links_of, unless_lease, cleared, newly_gated, lists_of}
use Rattle.overlay_rules.specs.Step.{step}
use Rattle.overlay_rules.specs.Record.{Setting, World, Follows, after, IsRecord, sent_in, state_at, world_after}
use Rattle.overlay_rules.specs.Rightly.{KeepsFor, ShowsWhy, IsDenial}
use Rattle.overlay_rules.proofs.Each.{Each, Each-append, Each-contains, Each-weaker}
use Rattle.overlay_rules.proofs.Histories.{IsSentAt, sent_before, state_at-itself, IsFrom, each_envelope, follows_at, world_after-next}
use Rattle.overlay_rules.proofs.Seat.{Seat, IsService}
use Rattle.overlay_rules.proofs.Seat as rule
use Rattle.overlay_rules.proofs.SeatStep.{step_seat, granted_sends, newly_gated_sends}
use Rattle.overlay_rules.proofs.Sends.{Each-to_both, Each-to_each}
use Rattle.step_facts.proofs.Always.{stepped-after}
use Rattle.ring_laws.proofs.Leases.{bare-unless}

-- ---- a key that is kept for a joiner

to_gap : (h : Hop) (j : Id) → way_by h ≡ way.Gap j → h ≡ hop.Gap j
to_gap hop.Here j e = cc
to_gap (hop.Gap i) j e = let same : i ≡ j = cc in ap hop.Gap same
to_gap (hop.To y) j e = cc

gap_shown : (s : State) (key : Key) (j : Id) (p : Phase) → s.phase ≡ p → way_in s key p ≡ way.Gap j → KeepsFor s j key
gap_shown s key j (Ready a l r) e f =
    let found = gap_of-some (reach s l r) key j (next_hop-gap (reach s l r) s.known key j (to_gap (next_hop_of (reach s l r) s.known key) j f)) in
    (a, (l, (r, (e, side found.0.0 found.0.1, found.1)))) where
      side : (right : Bool) → joiner_on right (reach s l r) ≡ Some j → (joiner_of s.left_gate ≡ Some j) ⊎ (joiner_of s.right_gate ≡ Some j)
      side true g = inr g
      side false g = inl g
gap_shown s key j (Waiting a) e f = cc
gap_shown s key j (Asking a n) e f = cc
gap_shown s key j (Probing a n probed) e f = cc
gap_shown s key j (Leasing a n l r fl fr) e f = cc

pub shows_busy : (s : State) (key : Key) (j : Id) → way_of s key ≡ way.Gap j → KeepsFor s j key
shows_busy s key j e = gap_shown s key j s.phase refl e

busy_is_why : (s : State) (key : Key) (j : Id) → KeepsFor s j key → ShowsWhy s (why.Busy j)
busy_is_why s key j h = (ap is_ready h.1.1.1.0, h.1.1.1.1)

-- ---- the gate that stands in the way

or_else-some : (a b : Option Id) (j : Id) → or_else a b ≡ Some j → (a ≡ Some j) ⊎ (b ≡ Some j)
or_else-some None b j e = inr e
or_else-some (Some x) b j e = inl e

busy_with-some : (asked : Bool) (o : Option Lease) (j : Id) → busy_with asked (bare o) ≡ Some j → joiner_of o ≡ Some j
busy_with-some true (Some lease) j e = e
busy_with-some true None j e = cc
busy_with-some false o j e = cc

blocked_is_why : (s : State) (b : Attempt) (x y : Id) (g : Gate) (j : Id) → s.phase ≡ Ready b x y → blocked_by (links_of s x y) s.me g ≡ Some j →
    ShowsWhy (cleared s g.joiner g.attempt) (why.Busy j)
blocked_is_why s b x y g j e f = (
  ap is_ready e,
  elim (or_else-some (busy_with (s.me == g.left) (unless older (bare s.right_gate))) (busy_with (s.me == g.right) (unless older (bare s.left_gate))) j f) [
    | inl h ↦ inr (busy_with-some (s.me == g.left) (unless_lease older s.right_gate) j (ap (busy_with (s.me == g.left)) (bare-unless older s.right_gate) ∙ h))
    | inr h ↦ inl (busy_with-some (s.me == g.right) (unless_lease older s.left_gate) j (ap (busy_with (s.me == g.right)) (bare-unless older s.left_gate) ∙ h))
  ],
) where
  older : Gate → Bool
  older = is_older g.joiner g.attempt

-- ---- every rule

abbrev pub HasCause : State → Message → Type 0
HasCause s (JoinRefuse a w) = ShowsWhy s w
HasCause s (Deny a w) = ShowsWhy s w
HasCause s (Lookup origin number key hops) = Unit {0}
HasCause s (LookupReply number r) = Unit {0}
HasCause s (Insert origin number hops file copies bytes) = Unit {0}
HasCause s (InsertReply number r) = Unit {0}
HasCause s (Fetch origin number hops file) = Unit {0}
HasCause s (FetchReply number r) = Unit {0}
HasCause s (JoinRequest joiner a hops) = Unit {0}
HasCause s (JoinReply a members) = Unit {0}
HasCause s (Probe a) = Unit {0}
HasCause s (ProbeReply a members) = Unit {0}
HasCause s (LeaseRequest a l r) = Unit {0}
HasCause s (Grant a manifest tombs) = Unit {0}
HasCause s (Handover file bytes) = Unit {0}
HasCause s (Release a) = Unit {0}
HasCause s (Confirm a) = Unit {0}
HasCause s Announce = Unit {0}
HasCause s (Replicate origin number file bytes) = Unit {0}
HasCause s (ReplicaAck origin number file) = Unit {0}
HasCause s (Reclaim origin number hops file) = Unit {0}
HasCause s (ReclaimReply number r) = Unit {0}

pub record AllCaused (o : Outcome) : Type 0 where
  pub each : Each (λ m. HasCause o.state m.message) o.sends

service_caused : (s : State) (m : Message) → IsService m → HasCause s m
service_caused s (JoinRefuse a w) h = absurd h
service_caused s (Deny a w) h = absurd h
service_caused s _ h = tt

both_caused : (t : State) (l r : Id) (m : Message) (notes : List Note) → ((u : State) → HasCause u m) → AllCaused (becomes t (to_both l r m) notes)
both_caused t l r m notes h = record { each = Each-to_both (λ (z : Sent). HasCause t z.message) l r m (λ y. h t) }

each_caused : (t : State) (ys : List Id) (m : Message) (notes : List Note) → ((u : State) → HasCause u m) → AllCaused (becomes t (to_each ys m) notes)
each_caused t ys m notes h = record { each = Each-to_each (λ (z : Sent). HasCause t z.message) ys m (λ y. h t) }

ready_caused : (t : State) (l r : Id) (a : Attempt) (ys : List Id) (notes : List Note) →
    AllCaused (becomes t (to_both l r (Confirm a) ++ to_each ys Announce) notes)
ready_caused t l r a ys notes = record {
  each = Each-append (λ (z : Sent). HasCause t z.message) (to_both l r (Confirm a)) _
      (Each-to_both (λ (z : Sent). HasCause t z.message) l r (Confirm a) (λ y. tt)) (Each-to_each (λ (z : Sent). HasCause t z.message) ys Announce (λ y. tt));
}

pub seat_caused : (s : State) (i : Input) (o : Outcome) → Seat s i o → AllCaused o
seat_caused _ _ _ (rule.serves s i o e f g q) =
    record { each = Each-weaker (λ m. IsService m.message) (λ m. HasCause o.state m.message) o.sends (λ m. service_caused o.state m.message) f.each }
seat_caused _ _ _ (rule.request_unready s from j a hops e) = record { each = (e, tt) }
seat_caused _ _ _ (rule.request_busy s from j a hops i e) = record { each = (busy_is_why s j i (shows_busy s j i e), tt) }
seat_caused _ _ _ (rule.stops_leasing s n a m l r fl fr e) = both_caused _ l r (Release a) _ (λ u. tt)
seat_caused _ _ _ (rule.probes s from a m heard known y ys e f g) = each_caused _ (y ∷ ys) (Probe a) _ (λ u. tt)
seat_caused _ _ _ (rule.probes_on s from a m heard known old probed new e f g k) = each_caused _ new (Probe a) _ (λ u. tt)
seat_caused _ _ _ (rule.leases s from a m heard known old e f) = both_caused _ _ _ (LeaseRequest a _ _) _ (λ u. tt)
seat_caused _ _ _ (rule.denied s from a m l r fl fr w e) = both_caused _ l r (Release a) _ (λ u. tt)
seat_caused _ _ _ (rule.grant_readies s t from a m l r fl fr left right manifest tombs e f g k i) = ready_caused _ l r a _ _
seat_caused _ _ _ (rule.file_readies s from a m l r left right file bytes e f g k) = ready_caused _ l r a _ _
seat_caused _ _ _ (rule.lease_unready s from a l r e) = record { each = (e, tt) }
seat_caused _ _ _ (rule.lease_busy s from a l r b x y j e f) = record { each = (blocked_is_why s b x y (asked_for from a l r) j e f, tt) }
seat_caused _ _ _ (rule.lease_moved s from a l r b x y e) = record { each = ((b, e), tt) }
seat_caused _ _ _ (rule.lease_again s from a l r b x y e f) =
    record {
      each = granted_sends (λ m. HasCause s m.message) from a (lists_of (if s.me == l then s.right_gate else s.left_gate)) s.files tt
          (λ m. service_caused s m.message);
    }
seat_caused _ _ _ (rule.lease_new s from a l r b x y e f g) =
    let after = (newly_gated (cleared s from a) x y (asked_for from a l r)).state in
    record { each = newly_gated_sends (λ m. HasCause after m.message) (cleared s from a) x y (asked_for from a l r) tt (λ m. service_caused after m.message) }
seat_caused _ _ _ m = record { each = search rules }

-- ---- over every legal record

-- what an envelope of an entry shows in the states after it
record ShowsCause (states : Id → State) (v : Envelope) : Type 0 where
  cause : HasCause (states v.sender) v.message

entry_causes : (g : Setting) (w : World) (e : Entry) → Follows g w e → Each (ShowsCause (after w e).states) e.messages
entry_causes g w e f = subst (λ (v : World). Each (ShowsCause v.states) e.messages) (stepped-after g w e f)
    (each_envelope (ShowsCause next) x e.messages o.sends f.messages
    (Each-weaker (λ m. HasCause o.state m.message) (λ m. (v : Envelope) → IsFrom x m v → ShowsCause next v) o.sends
    (λ m c v k. record { cause = rw (k.sender, k.message) (subst (λ s. HasCause s m.message) (sym (state_at-itself w.states x o.state)) c) })
    (seat_caused (w.states x) f.at.input o (step_seat (w.states x) f.at.input)).each)) where
      x : Id
      x = f.at.node

      o : Outcome
      o = step (w.states x) f.at.input

      next : Id → State
      next = state_at w.states x o.state

sent_cause : (g : Setting) (es : List Entry) (m : ℕ) (v : Envelope) → IsRecord g es → (h : IsSentAt es m v) →
    HasCause ((world_after g es (h.place + 1)).states v.sender) v.message
sent_cause g es m v r h =
    subst (λ (w : World). HasCause (w.states v.sender) v.message) (sym (world_after-next g es h.place h.entry h.at))
    (Each-contains (ShowsCause (after (world_after g es h.place) h.entry).states) h.entry.messages v
    (entry_causes g (world_after g es h.place) h.entry (follows_at g es h.place h.entry r.legal h.at)) h.has).cause

is_why : (s : State) (m n : Message) → HasCause s m → m ≡ n → HasCause s n
is_why s m n h e = subst (HasCause s) e h

-- a refusal or a denial that is delivered after the first i entries
pub refusal : (g : Setting) (es : List Entry) (i m : ℕ) (v : Envelope) (d : Event) (a : Attempt) (w : Why) → IsRecord g es → d ≡ event.Deliver m →
    slice_get (sent_in (take i es)) m ≡ Some v →
    v.message ≡ JoinRefuse a w → IsDenial g es d v.sender w
refusal g es i m v d a w r e f is = let h =
    sent_before es i m v f in (
      m,
      (
        h.place,
        (
          e,
          h.sent,
          is_why ((world_after g es (h.place + 1)).states v.sender) v.message (JoinRefuse a w) (sent_cause g es m v r h) is,
        ),
      ),
    )

pub denial : (g : Setting) (es : List Entry) (i m : ℕ) (v : Envelope) (d : Event) (a : Attempt) (w : Why) → IsRecord g es → d ≡ event.Deliver m →
    slice_get (sent_in (take i es)) m ≡ Some v →
    v.message ≡ Deny a w → IsDenial g es d v.sender w
denial g es i m v d a w r e f is = let h =
    sent_before es i m v f in (
      m,
      (
        h.place,
        (
          e,
          h.sent,
          is_why ((world_after g es (h.place + 1)).states v.sender) v.message (Deny a w) (sent_cause g es m v r h) is,
        ),
      ),
    )
