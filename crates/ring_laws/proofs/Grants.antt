-- Grants and what a joiner keeps of them: while the joiner's attempt stands and it is not ready, the sender of each has the lease that the Grant gave.
use Rattle.std.proofs.Common.{◌≡◌, inl, inr, Bool, true, false, not, ◌&&◌, ◌||◌, ◌==◌, if◌then◌else◌, Option, Some, None, List, ◌∷◌, refl, sym, subst, ap, ◌∙◌}
use Rattle.std.proofs.Common.{rules}
use Rattle.std.proofs.lemmas.Bool.{cond-true, cond-false, cases_Bool, and_parts, or_cases}
use Rattle.std.proofs.lemmas.Bool.Decides.{Decides-eqb}
use Rattle.coverage.specs.GapFiles.{Lists}
use Rattle.wire_msg.specs.Words.{Message, Lookup, LookupReply, Insert, InsertReply, Fetch, FetchReply, JoinRequest, JoinReply, JoinRefuse, Probe, ProbeReply}
use Rattle.wire_msg.specs.Words.{LeaseRequest, Grant, Deny, Handover, Release, Confirm, Announce, Replicate, ReplicaAck, Reclaim, ReclaimReply}
use Rattle.ring_math.specs.Names.{Id, Attempt, Number}
use Rattle.overlay_rules.specs.declared.gate.Gate.{Gate}
use Rattle.overlay_rules.specs.State.{State, Lease, Phase, Waiting, Asking, Probing, Leasing, Ready, is_ready, bare}
use Rattle.overlay_rules.specs.Outcome.{Outcome, Input, Command, Comes, Noise, Sent, to_both, to_each}
use Rattle.overlay_rules.specs.Joining.{kept_first}
use Rattle.overlay_rules.specs.Gates.{asked_for, is_gate_of, is_again, fits}
use Rattle.overlay_rules.specs.Gatekeeper.{links_of, cleared, lists_of}
use Rattle.overlay_rules.proofs.Each.{Each, Each-append, Each-weaker}
use Rattle.overlay_rules.proofs.Seat.{Seat, IsService}
use Rattle.overlay_rules.proofs.Seat as rule
use Rattle.overlay_rules.proofs.SeatStep.{granted_sends, newly_gated_sends, new_lists}
use Rattle.overlay_rules.proofs.Sends.{Each-to_both, Each-to_each}
use Rattle.ring_laws.proofs.Leases.{implied, lease_on, lease_on-but, end_in, leased_to, new_lease, asks_rightly, new_stands}

-- the lease of joiner i with attempt a, with these lists, stands on that side
pub record HasLease (right : Bool) (s : State) (i : Id) (a : Attempt) (lists : Lists) : Type 0 where
  pub lease : Lease
  pub at : lease_on right s ≡ Some lease
  pub joiner : lease.gate.joiner ≡ i
  pub attempt : lease.gate.attempt ≡ a
  pub same : lease.lists ≡ lists

-- ---- a Grant is sent with its lease

abbrev pub GrantedBy : State → Id → Message → Type 0
GrantedBy s to (Grant a manifest tombs) = (right : Bool) × HasLease right s to a (record { manifest = manifest; tombs = tombs })
GrantedBy s to (Lookup origin number key hops) = Unit {0}
GrantedBy s to (LookupReply number r) = Unit {0}
GrantedBy s to (Insert origin number hops file copies bytes) = Unit {0}
GrantedBy s to (InsertReply number r) = Unit {0}
GrantedBy s to (Fetch origin number hops file) = Unit {0}
GrantedBy s to (FetchReply number r) = Unit {0}
GrantedBy s to (JoinRequest joiner a hops) = Unit {0}
GrantedBy s to (JoinReply a members) = Unit {0}
GrantedBy s to (JoinRefuse a w) = Unit {0}
GrantedBy s to (Probe a) = Unit {0}
GrantedBy s to (ProbeReply a members) = Unit {0}
GrantedBy s to (LeaseRequest a l r) = Unit {0}
GrantedBy s to (Deny a w) = Unit {0}
GrantedBy s to (Handover file bytes) = Unit {0}
GrantedBy s to (Release a) = Unit {0}
GrantedBy s to (Confirm a) = Unit {0}
GrantedBy s to Announce = Unit {0}
GrantedBy s to (Replicate origin number file bytes) = Unit {0}
GrantedBy s to (ReplicaAck origin number file) = Unit {0}
GrantedBy s to (Reclaim origin number hops file) = Unit {0}
GrantedBy s to (ReclaimReply number r) = Unit {0}

pub record AllGranted (s : State) (sends : List Sent) : Type 0 where
  pub each : Each (λ m. GrantedBy s m.receiver m.message) sends

service_granted : (s : State) (to : Id) (m : Message) → IsService m → GrantedBy s to m
service_granted s to (Grant a manifest tombs) h = absurd h
service_granted s to _ h = tt

to_both_granted : (s : State) (l r : Id) (m : Message) → ((y : Id) → GrantedBy s y m) → Each (λ x. GrantedBy s x.receiver x.message) (to_both l r m)
to_both_granted s l r m h = Each-to_both (λ x. GrantedBy s x.receiver x.message) l r m h

to_each_granted : (s : State) (ys : List Id) (m : Message) → ((y : Id) → GrantedBy s y m) → Each (λ x. GrantedBy s x.receiver x.message) (to_each ys m)
to_each_granted s ys m h = Each-to_each (λ x. GrantedBy s x.receiver x.message) ys m h

-- the side of a gate that is found
found_gate : (right : Bool) (s : State) (from : Id) (a : Attempt) → is_gate_of from a (bare (lease_on right s)) ≡ true → (lists : Lists) →
    lists ≡ lists_of (lease_on right s) → HasLease right s from a lists
found_gate right s from a h lists e = by (lease_on right s) refl h e where
  by : (o : Option Lease) → lease_on right s ≡ o → is_gate_of from a (bare o) ≡ true → lists ≡ lists_of o → HasLease right s from a lists
  by None at f g = cc
  by (Some lease) at f g = record {
    lease = lease;
    at = at;
    joiner = (Decides-eqb lease.gate.joiner from).0 (and_parts (lease.gate.joiner == from) (lease.gate.attempt == a) f).0;
    attempt = (Decides-eqb lease.gate.attempt a).0 (and_parts (lease.gate.joiner == from) (lease.gate.attempt == a) f).1;
    same = sym g;
  }

or_other : (a b : Bool) → a || b ≡ true → a ≡ false → b ≡ true
or_other true b e f = cc
or_other false b e f = e

again_has : (s : State) (x y : Id) (g : Gate) → is_again (links_of s x y) s.me g ≡ true →
    (right : Bool) × HasLease right s g.joiner g.attempt (lists_of (if s.me == g.left then s.right_gate else s.left_gate))
again_has s x y g h =
    elim (cases_Bool (s.me == g.left)) [
      | inl e ↦ (
        true,
        found_gate true s g.joiner g.attempt (implied (s.me == g.left) on_right sides.0 e) _
            (ap lists_of (cond-true (s.me == g.left) s.right_gate s.left_gate e)),
      )
      | inr e ↦ (
        false,
        found_gate false s g.joiner g.attempt (implied (s.me == g.right) on_left sides.1 (or_other (s.me == g.left) (s.me == g.right) parts.0 e)) _
            (ap lists_of (cond-false (s.me == g.left) s.right_gate s.left_gate e)),
      )
    ] where
      on_right : Bool
      on_right = is_gate_of g.joiner g.attempt (bare s.right_gate)

      on_left : Bool
      on_left = is_gate_of g.joiner g.attempt (bare s.left_gate)

      parts : ((s.me == g.left) || (s.me == g.right) ≡ true) × ((not (s.me == g.left) || on_right) && (not (s.me == g.right) || on_left) ≡ true)
      parts = and_parts ((s.me == g.left) || (s.me == g.right)) ((not (s.me == g.left) || on_right) && (not (s.me == g.right) || on_left)) h

      sides : (not (s.me == g.left) || on_right ≡ true) × (not (s.me == g.right) || on_left ≡ true)
      sides = and_parts (not (s.me == g.left) || on_right) (not (s.me == g.right) || on_left) parts.1

-- a side is asked for
pub asked_side : (s : State) (x y : Id) (g : Gate) → fits (links_of s x y) s.me g ≡ true → (right : Bool) × (s.me ≡ end_in (not right) g)
asked_side s x y g f =
    elim (or_cases (s.me == g.left) (s.me == g.right) (asks_rightly s.me (links_of s x y) g f).some) [
      | inl e ↦ (true, (Decides-eqb s.me g.left).0 e)
      | inr e ↦ (false, (Decides-eqb s.me g.right).0 e)
    ]

new_has : (s : State) (x y : Id) (g : Gate) (lists : Lists) → fits (links_of s x y) s.me g ≡ true →
    (right : Bool) × HasLease right (leased_to s g lists) g.joiner g.attempt lists
new_has s x y g lists f =
    let asked = asked_side s x y g f in
    (asked.0, record { lease = new_lease g lists; at = new_stands s g lists asked.0 asked.1; joiner = refl; attempt = refl; same = refl })

-- it stands where the gates are the same
lease_moves : (s t : State) (i : Id) (a : Attempt) (lists : Lists) → t.left_gate ≡ s.left_gate → t.right_gate ≡ s.right_gate →
    (right : Bool) × HasLease right s i a lists → (right : Bool) × HasLease right t i a lists
lease_moves s t i a lists e f (right, h) =
    (right, record { lease = h.lease; at = lease_on-but s t e f right ∙ h.at; joiner = h.joiner; attempt = h.attempt; same = h.same })

pub seat_grants : (s : State) (i : Input) (o : Outcome) → Seat s i o → AllGranted o.state o.sends
seat_grants _ _ _ (rule.serves s i o e f g q) =
    record {
      each = Each-weaker (λ m. IsService m.message) (λ m. GrantedBy o.state m.receiver m.message) o.sends
          (λ m. service_granted o.state m.receiver m.message) f.each;
    }
seat_grants _ _ _ (rule.stops_leasing s n a m l r fl fr e) = record { each = to_both_granted _ l r (Release a) (λ y. tt) }
seat_grants _ _ _ (rule.probes s from a m heard known y ys e f g) = record { each = to_each_granted _ (y ∷ ys) (Probe a) (λ y. tt) }
seat_grants _ _ _ (rule.probes_on s from a m heard known old probed new e f g h) = record { each = to_each_granted _ new (Probe a) (λ y. tt) }
seat_grants _ _ _ (rule.leases s from a m heard known old e f) = record { each = to_both_granted _ _ _ (LeaseRequest a _ _) (λ y. tt) }
seat_grants _ _ _ (rule.denied s from a m l r fl fr w e) = record { each = to_both_granted _ l r (Release a) (λ y. tt) }
seat_grants _ _ _ (rule.grant_readies s t from a m l r fl fr left right manifest tombs e f g h i) =
    record { each = Each-append _ (to_both l r (Confirm a)) _ (to_both_granted _ l r (Confirm a) (λ y. tt)) (to_each_granted _ _ Announce (λ y. tt)) }
seat_grants _ _ _ (rule.file_readies s from a m l r left right file bytes e f g h) =
    record { each = Each-append _ (to_both l r (Confirm a)) _ (to_both_granted _ l r (Confirm a) (λ y. tt)) (to_each_granted _ _ Announce (λ y. tt)) }
seat_grants _ _ _ (rule.lease_again s from a l r b x y e f) =
    record {
      each = granted_sends (λ m. GrantedBy s m.receiver m.message) from a (lists_of (if s.me == l then s.right_gate else s.left_gate)) s.files
          (again_has s x y (asked_for from a l r) f) (λ m. service_granted s m.receiver m.message);
    }
seat_grants _ _ _ (rule.lease_new s from a l r b x y e f g) =
    let asked = asked_for from a l r in
    let lists = new_lists (cleared s from a) x y asked in
    record {
      each = newly_gated_sends (λ m. GrantedBy _ m.receiver m.message) (cleared s from a) x y asked
          (lease_moves (leased_to s asked lists) _ from a lists refl refl (new_has s x y asked lists g)) (λ m. service_granted _ m.receiver m.message);
    }
seat_grants _ _ _ m = record { each = search rules }

-- ---- what a joiner keeps

abbrev pub OnKept : (Lists → Type 0) → Option Lists → Type 0
OnKept P None = Unit {0}
OnKept P (Some lists) = P lists

-- the lists that a joiner keeps for a side are those of a lease there; F tells the states of all nodes
abbrev pub PhaseKept : (Id → State) → Id → Phase → Type 0
PhaseKept F i (Leasing a n l r from_left from_right) = OnKept (HasLease true (F l) i a) from_left × OnKept (HasLease false (F r) i a) from_right
PhaseKept F i (Waiting a) = Unit {0}
PhaseKept F i (Asking a n) = Unit {0}
PhaseKept F i (Probing a n probed) = Unit {0}
PhaseKept F i (Ready a l r) = Unit {0}

-- a Grant from a neighbour that a joiner asks comes with the lease there
pub record GrantBrings (F : Id → State) (i : Id) (p : Phase) (from : Id) (a : Attempt) (lists : Lists) : Type 0 where
  pub left : (n : Number) (l r : Id) (from_left from_right : Option Lists) → p ≡ Leasing a n l r from_left from_right → from ≡ l → HasLease true (F l) i a lists
  pub right : (n : Number) (l r : Id) (from_left from_right : Option Lists) → p ≡ Leasing a n l r from_left from_right → from ≡ r →
      HasLease false (F r) i a lists

abbrev pub MessageBrings : (Id → State) → Id → Phase → Id → Message → Type 0
MessageBrings F i p from (Grant a manifest tombs) = GrantBrings F i p from a (record { manifest = manifest; tombs = tombs })
MessageBrings F i p from (Lookup origin number key hops) = Unit {0}
MessageBrings F i p from (LookupReply number r) = Unit {0}
MessageBrings F i p from (Insert origin number hops file copies bytes) = Unit {0}
MessageBrings F i p from (InsertReply number r) = Unit {0}
MessageBrings F i p from (Fetch origin number hops file) = Unit {0}
MessageBrings F i p from (FetchReply number r) = Unit {0}
MessageBrings F i p from (JoinRequest joiner a hops) = Unit {0}
MessageBrings F i p from (JoinReply a members) = Unit {0}
MessageBrings F i p from (JoinRefuse a w) = Unit {0}
MessageBrings F i p from (Probe a) = Unit {0}
MessageBrings F i p from (ProbeReply a members) = Unit {0}
MessageBrings F i p from (LeaseRequest a l r) = Unit {0}
MessageBrings F i p from (Deny a w) = Unit {0}
MessageBrings F i p from (Handover file bytes) = Unit {0}
MessageBrings F i p from (Release a) = Unit {0}
MessageBrings F i p from (Confirm a) = Unit {0}
MessageBrings F i p from Announce = Unit {0}
MessageBrings F i p from (Replicate origin number file bytes) = Unit {0}
MessageBrings F i p from (ReplicaAck origin number file) = Unit {0}
MessageBrings F i p from (Reclaim origin number hops file) = Unit {0}
MessageBrings F i p from (ReclaimReply number r) = Unit {0}

abbrev pub Brings : (Id → State) → Id → Phase → Input → Type 0
Brings F i p (Comes from m) = MessageBrings F i p from m
Brings F i p (Command n c) = Unit {0}
Brings F i p Noise = Unit {0}

kept_first-on : (P : Lists → Type 0) (is_side : Bool) (old : Option Lists) (new : Lists) → OnKept P old → (is_side ≡ true → P new) →
    OnKept P (kept_first is_side old new)
kept_first-on P is_side (Some lists) new h g = h
kept_first-on P true None new h g = g refl
kept_first-on P false None new h g = tt

pub on_some : (P : Lists → Type 0) (o : Option Lists) (lists : Lists) → OnKept P o → o ≡ Some lists → P lists
on_some P o lists h e = subst (OnKept P) e h

pub kept_at : (F : Id → State) (i : Id) (p q : Phase) → PhaseKept F i p → p ≡ q → PhaseKept F i q
kept_at F i p q h e = subst (PhaseKept F i) e h

-- what is kept once a Grant has come
pub kept_then : (F : Id → State) (i : Id) (p : Phase) (from : Id) (a : Attempt) (n : Number) (l r : Id) (fl fr : Option Lists) (lists : Lists) →
    p ≡ Leasing a n l r fl fr → GrantBrings F i p from a lists → PhaseKept F i p →
    OnKept (HasLease true (F l) i a) (kept_first (from == l) fl lists) × OnKept (HasLease false (F r) i a) (kept_first (from == r) fr lists)
kept_then F i p from a n l r fl fr lists e b h =
    let k = kept_at F i p (Leasing a n l r fl fr) h e in (
      kept_first-on _ (from == l) fl lists k.0 (λ f. b.left n l r fl fr e ((Decides-eqb from l).0 f)),
      kept_first-on _ (from == r) fr lists k.1 (λ f. b.right n l r fl fr e ((Decides-eqb from r).0 f)),
    )

pub seat_kept : (F : Id → State) (i : Id) (s : State) (j : Input) (o : Outcome) → Seat s j o → Brings F i s.phase j → PhaseKept F i s.phase →
    PhaseKept F i o.state.phase
seat_kept F i _ _ _ (rule.serves s j o e f g q) b h = kept_at F i s.phase o.state.phase h (sym e.phase)
seat_kept F i _ _ _ (rule.begins s n via a e f) b h = tt
seat_kept F i _ _ _ (rule.stops_asking s n a m e) b h = tt
seat_kept F i _ _ _ (rule.stops_probing s n a m probed e) b h = tt
seat_kept F i _ _ _ (rule.stops_leasing s n a m l r fl fr e) b h = tt
seat_kept F i _ _ _ (rule.refused s from a m w e) b h = tt
seat_kept F i _ _ _ (rule.probes s from a m heard known y ys e f g) b h = tt
seat_kept F i _ _ _ (rule.probes_on s from a m heard known old probed new e f g k) b h = tt
seat_kept F i _ _ _ (rule.leases s from a m heard known old e f) b h = (tt, tt)
seat_kept F i _ _ _ (rule.denied s from a m l r fl fr w e) b h = tt
seat_kept F i _ _ _ (rule.grant_kept s from a m l r fl fr manifest tombs e w) b h =
    kept_then F i s.phase from a m l r fl fr (record { manifest = manifest; tombs = tombs }) e b h
seat_kept F i _ _ _ (rule.grant_readies s t from a m l r fl fr left right manifest tombs e f g k w) b h = tt
seat_kept F i _ _ _ (rule.file_readies s from a m l r left right file bytes e f g k) b h = tt
seat_kept F i _ _ _ (rule.confirms s from a c x y e f) b h = tt
seat_kept F i s _ _ m b h = h

-- ---- who becomes ready has both leases

-- a joiner in this state has the leases of both whom it asks
pub record HasBoth (F : Id → State) (i : Id) (s : State) : Type 0 where
  pub attempt : Attempt
  pub number : Number
  pub left : Id
  pub right : Id
  pub from_left : Option Lists
  pub from_right : Option Lists
  pub left_lists : Lists
  pub right_lists : Lists
  pub phase : s.phase ≡ Leasing attempt number left right from_left from_right
  pub has_left : HasLease true (F left) i attempt left_lists
  pub has_right : HasLease false (F right) i attempt right_lists

pub unready_with : (F : Id → State) (i : Id) (s : State) → HasBoth F i s → is_ready s.phase ≡ false
unready_with F i s has = ap is_ready has.phase

-- those that the joiner was given are kept for these lists
abbrev pub both_had : (F : Id → State) (i : Id) (s : State) (a : Attempt) (n : Number) (l r : Id) (fl fr : Option Lists) (left right : Lists) →
    s.phase ≡ Leasing a n l r fl fr →
    HasLease true (F l) i a left × HasLease false (F r) i a right → HasBoth F i s
both_had F i s a n l r fl fr left right e has = record {
  attempt = a;
  number = n;
  left = l;
  right = r;
  from_left = fl;
  from_right = fr;
  left_lists = left;
  right_lists = right;
  phase = e;
  has_left = has.0;
  has_right = has.1;
}

pub data Becomes (F : Id → State) (i : Id) (s : State) (o : Outcome) : Type 0 where
  is_same : is_ready o.state.phase ≡ is_ready s.phase → Becomes F i s o
  is_new : (has : HasBoth F i s) → o.state.phase ≡ Ready has.attempt has.left has.right → o.state.left_gate ≡ s.left_gate → o.state.right_gate ≡ s.right_gate →
      Becomes F i s o

both_unready : (F : Id → State) (i : Id) (s : State) (o : Outcome) (p : Phase) → s.phase ≡ p → is_ready p ≡ false → is_ready o.state.phase ≡ false →
    Becomes F i s o
both_unready F i s o p e f g = is_same (g ∙ sym (ap is_ready e ∙ f))

pub seat_becomes : (F : Id → State) (i : Id) (s : State) (j : Input) (o : Outcome) → Seat s j o → Brings F i s.phase j → PhaseKept F i s.phase → Becomes F i s o
seat_becomes F i _ _ _ (rule.serves s j o e f g q) b h = is_same (ap is_ready e.phase)
seat_becomes F i _ _ _ (rule.begins s n via a e f) b h = both_unready F i s _ _ e refl refl
seat_becomes F i _ _ _ (rule.stops_asking s n a m e) b h = both_unready F i s _ _ e refl refl
seat_becomes F i _ _ _ (rule.stops_probing s n a m probed e) b h = both_unready F i s _ _ e refl refl
seat_becomes F i _ _ _ (rule.stops_leasing s n a m l r fl fr e) b h = both_unready F i s _ _ e refl refl
seat_becomes F i _ _ _ (rule.refused s from a m w e) b h = both_unready F i s _ _ e refl refl
seat_becomes F i _ _ _ (rule.probes s from a m heard known y ys e f g) b h = both_unready F i s _ _ e refl refl
seat_becomes F i _ _ _ (rule.probes_on s from a m heard known old probed new e f g k) b h = both_unready F i s _ _ e refl refl
seat_becomes F i _ _ _ (rule.leases s from a m heard known old e f) b h = both_unready F i s _ _ e refl refl
seat_becomes F i _ _ _ (rule.denied s from a m l r fl fr w e) b h = both_unready F i s _ _ e refl refl
seat_becomes F i _ _ _ (rule.grant_kept s from a m l r fl fr manifest tombs e w) b h = both_unready F i s _ _ e refl refl
seat_becomes F i _ _ _ (rule.grant_readies s t from a m l r fl fr left right manifest tombs e f g k w) b h =
    let kept = kept_then F i s.phase from a m l r fl fr (record { manifest = manifest; tombs = tombs }) e b h in
    is_new (both_had F i s a m l r fl fr left right e (on_some _ _ left kept.0 g, on_some _ _ right kept.1 k)) refl (ap (λ (u : State). u.left_gate) f)
    (ap (λ (u : State). u.right_gate) f)
seat_becomes F i _ _ _ (rule.file_readies s from a m l r left right file bytes e f g k) b h =
    let kept = kept_at F i s.phase (Leasing a m l r (Some left) (Some right)) h e in
    is_new (both_had F i s a m l r (Some left) (Some right) left right e kept) refl refl refl
seat_becomes F i _ _ _ (rule.confirms s from a c x y e f) b h = is_same (sym (ap is_ready e))
seat_becomes F i s _ _ m b h = is_same refl
