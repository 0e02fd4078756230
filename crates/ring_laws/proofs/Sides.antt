-- The sides of a ready node, as the laws of coverage speak of them, and what one step makes of them.
use Rattle.std.proofs.Common.{◌≡◌, inl, inr, ◌<◌, ◌≤◌, ◌^◌, Bool, true, false, not, ◌==◌, Option, Some, None, refl, sym, subst, ap, ◌∙◌}
use Rattle.std.proofs.lemmas.Bool.{cases_Bool, cond-true, cond-false, and_parts}
use Rattle.std.proofs.lemmas.Bool.Decides.{Decides-eqb}
use Rattle.ring_math.specs.Names.{Id, Attempt}
use Rattle.ring_math.specs.Ring.{is_between}
use Rattle.ring_math.specs.Members.{InRing}
use Rattle.coverage.specs.Links as links
use Rattle.coverage.specs.Links.{Side, HasSide, stands}
use Rattle.coverage.proofs.Gates.{side_granted}
use Rattle.coverage.proofs.Rows as rows
use Rattle.coverage.specs.GapFiles.{Lists}
use Rattle.wire_msg.specs.Words.{Message, Lookup, LookupReply, Insert, InsertReply, Fetch, FetchReply, JoinRequest, JoinReply, JoinRefuse, Probe, ProbeReply}
use Rattle.wire_msg.specs.Words.{LeaseRequest, Grant, Deny, Handover, Release, Confirm, Announce, Replicate, ReplicaAck, Reclaim, ReclaimReply}
use Rattle.overlay_rules.specs.declared.gate.Gate.{Gate}
use Rattle.overlay_rules.specs.State.{State, Lease, Phase, Waiting, Asking, Probing, Leasing, Ready, is_ready, bare}
use Rattle.overlay_rules.specs.Outcome.{Outcome, Input, Command, Comes, Noise}
use Rattle.overlay_rules.specs.Gates.{is_of, is_older, asked_for, gate_on, link_after}
use Rattle.overlay_rules.specs.Gatekeeper.{unless_lease, without_gates, cleared, confirmed}
use Rattle.overlay_rules.proofs.Seat.{Seat}
use Rattle.overlay_rules.proofs.Seat as rule
use Rattle.overlay_rules.proofs.SeatStep.{new_lists}
use Rattle.ring_laws.proofs.Leases.{lease_on, pick, end_in, IsGranted, cleared_for, leased_to, new_lease, free_side}

-- a lease without its ends and lists
abbrev pub short : Option Lease → Option links.Lease
short None = None
short (Some lease) = Some (record { joiner = lease.gate.joiner; attempt = lease.gate.attempt })

-- the link of a ready node
abbrev pub link_of : Bool → Phase → Id
link_of right (Ready a l r) = pick right l r
link_of right (Waiting a) = 0
link_of right (Asking a n) = 0
link_of right (Probing a n probed) = 0
link_of right (Leasing a n l r from_left from_right) = 0

abbrev pub side_of : State → Bool → Side
side_of s right = record { link = link_of right s.phase; gate = short (lease_on right s) }

-- ---- the rules of a side

abbrev side : Id → Option links.Lease → Side
side link gate = record { link = link; gate = gate }

side_is : (link : Id) (gate : Option links.Lease) (link' : Id) (gate' : Option links.Lease) → link ≡ link' → gate ≡ gate' → side link gate ≡ side link' gate'
side_is link gate link' gate' e f = λ i. record { link = e i; gate = f i }

cleared_side : (from : Id) (a : Attempt) (link : Id) (o : Option Lease) →
    side link (short (unless_lease (is_older from a) o)) ≡ rows.cleared from a (side link (short o))
cleared_side from a link None = refl
cleared_side from a link (Some lease) = elim (cases_Bool (is_older from a lease.gate)) [
  | inl e ↦ side_is link _ link None refl (ap short (cond-true (is_older from a lease.gate) None (Some lease) e))
      ∙ sym (cond-true (is_older from a lease.gate) _ _ e)
  | inr e ↦ side_is link _ link (short (Some lease)) refl (ap short (cond-false (is_older from a lease.gate) None (Some lease) e))
      ∙ sym (cond-false (is_older from a lease.gate) _ _ e)
]

released_side : (from : Id) (a : Attempt) (link : Id) (o : Option Lease) →
    side link (short (unless_lease (is_of from a) o)) ≡ rows.released from a (side link (short o))
released_side from a link None = refl
released_side from a link (Some lease) = elim (cases_Bool (is_of from a lease.gate)) [
  | inl e ↦ side_is link _ link None refl (ap short (cond-true (is_of from a lease.gate) None (Some lease) e)) ∙ sym (cond-true (is_of from a lease.gate) _ _ e)
  | inr e ↦ side_is link _ link (short (Some lease)) refl (ap short (cond-false (is_of from a lease.gate) None (Some lease) e))
      ∙ sym (cond-false (is_of from a lease.gate) _ _ e)
]

confirmed_side : (from : Id) (a : Attempt) (link : Id) (o : Option Lease) →
    side (link_after from a (bare o) link) (short (unless_lease (is_of from a) o)) ≡ rows.confirmed from a (side link (short o))
confirmed_side from a link None = refl
confirmed_side from a link (Some lease) = elim (cases_Bool (is_of from a lease.gate)) [
  | inl e ↦ side_is _ _ from None (cond-true (is_of from a lease.gate) from link e) (ap short (cond-true (is_of from a lease.gate) None (Some lease) e))
      ∙ sym (cond-true (is_of from a lease.gate) _ _ e)
  | inr e ↦ side_is _ _ link (short (Some lease)) (cond-false (is_of from a lease.gate) from link e)
      (ap short (cond-false (is_of from a lease.gate) None (Some lease) e)) ∙ sym (cond-false (is_of from a lease.gate) _ _ e)
]

pub side_of-cleared : (s : State) (from : Id) (a : Attempt) (right : Bool) → side_of (cleared s from a) right ≡ rows.cleared from a (side_of s right)
side_of-cleared s from a true = cleared_side from a (link_of true s.phase) s.right_gate
side_of-cleared s from a false = cleared_side from a (link_of false s.phase) s.left_gate

pub side_of-released : (s : State) (from : Id) (a : Attempt) (right : Bool) →
    side_of (without_gates (is_of from a) s) right ≡ rows.released from a (side_of s right)
side_of-released s from a true = released_side from a (link_of true s.phase) s.right_gate
side_of-released s from a false = released_side from a (link_of false s.phase) s.left_gate

pub side_of-confirmed : (s : State) (from : Id) (a b : Attempt) (x y : Id) (right : Bool) → s.phase ≡ Ready b x y →
    side_of (confirmed s from a b x y) right ≡ rows.confirmed from a (side_of s right)
side_of-confirmed s from a b x y true e =
    confirmed_side from a y s.right_gate ∙ ap (λ l. rows.confirmed from a (side l (short s.right_gate))) (sym (ap (link_of true) e))
side_of-confirmed s from a b x y false e =
    confirmed_side from a x s.left_gate ∙ ap (λ l. rows.confirmed from a (side l (short s.left_gate))) (sym (ap (link_of false) e))

-- ---- what an input must show

abbrev pub MessageKeeps : (Id → Type 0) → (Id → Attempt) → Id → Message → Type 0
MessageKeeps P attempt from (Release a) = a < attempt from
MessageKeeps P attempt from (Confirm a) = P from
MessageKeeps P attempt from (LeaseRequest a l r) = (a ≤ attempt from) × (from < 2 ^ 128)
MessageKeeps P attempt from (Lookup origin number key hops) = Unit {0}
MessageKeeps P attempt from (LookupReply number r) = Unit {0}
MessageKeeps P attempt from (Insert origin number hops file copies bytes) = Unit {0}
MessageKeeps P attempt from (InsertReply number r) = Unit {0}
MessageKeeps P attempt from (Fetch origin number hops file) = Unit {0}
MessageKeeps P attempt from (FetchReply number r) = Unit {0}
MessageKeeps P attempt from (JoinRequest joiner a hops) = Unit {0}
MessageKeeps P attempt from (JoinReply a members) = Unit {0}
MessageKeeps P attempt from (JoinRefuse a w) = Unit {0}
MessageKeeps P attempt from (Probe a) = Unit {0}
MessageKeeps P attempt from (ProbeReply a members) = Unit {0}
MessageKeeps P attempt from (Grant a manifest tombs) = Unit {0}
MessageKeeps P attempt from (Deny a w) = Unit {0}
MessageKeeps P attempt from (Handover file bytes) = Unit {0}
MessageKeeps P attempt from Announce = Unit {0}
MessageKeeps P attempt from (Replicate origin number file bytes) = Unit {0}
MessageKeeps P attempt from (ReplicaAck origin number file) = Unit {0}
MessageKeeps P attempt from (Reclaim origin number hops file) = Unit {0}
MessageKeeps P attempt from (ReclaimReply number r) = Unit {0}

abbrev pub InputKeeps : (Id → Type 0) → (Id → Attempt) → Input → Type 0
InputKeeps P attempt (Comes from m) = MessageKeeps P attempt from m
InputKeeps P attempt (Command n c) = Unit {0}
InputKeeps P attempt Noise = Unit {0}

-- ---- one step keeps the sides of a ready node

side_but : (s t : State) (right : Bool) → t.phase ≡ s.phase → t.left_gate ≡ s.left_gate → t.right_gate ≡ s.right_gate → side_of t right ≡ side_of s right
side_but s t true e f g = side_is _ _ _ _ (ap (link_of true) e) (ap short g)
side_but s t false e f g = side_is _ _ _ _ (ap (link_of false) e) (ap short f)

unless_ready : {A : Type 0} (s : State) (p : Phase) → is_ready s.phase ≡ true → s.phase ≡ p → is_ready p ≡ false → A
unless_ready s p h e f = let g : is_ready s.phase ≡ false = ap is_ready e ∙ f in absurd (cc)

between_of : (right : Bool) (g : Gate) (me x y : Id) → is_between g.left g.joiner g.right ≡ true → me ≡ end_in (not right) g → end_in right g ≡ pick right x y →
    stands right me g.joiner (pick right x y) ≡ true
between_of true g me x y b e f = rw (e, sym f) b
between_of false g me x y b e f = rw (e, sym f) b

-- the lease of a joiner that is in the ring and at this attempt takes a side as the laws of coverage want it
new_side : (right : Bool) (P : Id → Type 0) (attempt : Id → Attempt) (s : State) (b : Attempt) (x y : Id) (g : Gate) (lists : Lists) → InRing P → P s.me →
    s.phase ≡ Ready b x y →
    IsGranted s x y g → g.attempt ≤ attempt g.joiner → g.joiner < 2 ^ 128 →
    HasSide right P attempt s.me (side_of (cleared_for s g) right) → HasSide right P attempt s.me (side_of (leased_to s g lists) right)
new_side right P attempt s b x y g lists range px e is le hf h =
    elim (cases_Bool (s.me == end_in (not right) g)) [
      | inl asked ↦
          let k = free_side s x y g right is asked in
          let m : s.me ≡ end_in (not right) g = (Decides-eqb s.me (end_in (not right) g)).0 asked in
          let link : link_of right s.phase ≡ pick right x y = ap (link_of right) e ∙ is_link right in
          let inside : stands right s.me g.joiner (link_of right s.phase) ≡ true =
          subst (λ z. stands right s.me g.joiner z ≡ true) (sym link) (between_of right g s.me x y between m k.link) in
          subst (HasSide right P attempt s.me) (sym (taken right asked))
          (side_granted right P attempt s.me g.joiner g.attempt (side_of (cleared_for s g) right) range px h (ap short k.gate) hf inside le)
      | inr unasked ↦ subst (HasSide right P attempt s.me) (sym (kept right unasked)) h
    ] where
      between : is_between g.left g.joiner g.right ≡ true
      between = (and_parts (is_between g.left g.joiner g.right) _ is.fitting).0

      is_link : (right : Bool) → link_of right (Ready b x y) ≡ pick right x y
      is_link right = refl

      taken : (right : Bool) → s.me == end_in (not right) g ≡ true →
          side_of (leased_to s g lists) right ≡ side (link_of right s.phase) (Some (record { joiner = g.joiner; attempt = g.attempt }))
      taken true asked = side_is _ _ _ _ refl (ap (λ z. short (gate_on z (new_lease g lists) (cleared_for s g).right_gate)) asked)
      taken false asked = side_is _ _ _ _ refl (ap (λ z. short (gate_on z (new_lease g lists) (cleared_for s g).left_gate)) asked)

      kept : (right : Bool) → s.me == end_in (not right) g ≡ false → side_of (leased_to s g lists) right ≡ side_of (cleared_for s g) right
      kept true unasked = side_is _ _ _ _ refl (ap (λ z. short (gate_on z (new_lease g lists) (cleared_for s g).right_gate)) unasked)
      kept false unasked = side_is _ _ _ _ refl (ap (λ z. short (gate_on z (new_lease g lists) (cleared_for s g).left_gate)) unasked)

cleared_has : (right : Bool) (P : Id → Type 0) (attempt : Id → Attempt) (s : State) (from : Id) (a : Attempt) → a ≤ attempt from →
    HasSide right P attempt s.me (side_of s right) → HasSide right P attempt s.me (side_of (cleared s from a) right)
cleared_has right P attempt s from a le h =
    subst (HasSide right P attempt s.me) (sym (side_of-cleared s from a right)) (rows.cleared_keeps right P attempt s.me from a (side_of s right) le h)

pub seat_sides : (right : Bool) (P : Id → Type 0) (attempt : Id → Attempt) (s : State) (i : Input) (o : Outcome) → Seat s i o → is_ready s.phase ≡ true →
    InRing P → P s.me → InputKeeps P attempt i →
    HasSide right P attempt s.me (side_of s right) → HasSide right P attempt s.me (side_of o.state right)
seat_sides right P attempt _ _ _ (rule.serves s i o e f g q) ready range px k h =
    subst (HasSide right P attempt s.me) (sym (side_but s o.state right e.phase e.left_gate e.right_gate)) h
seat_sides right P attempt _ _ _ (rule.begins s n via a e f) ready range px k h = unless_ready s _ ready e refl
seat_sides right P attempt _ _ _ (rule.stops_asking s n a m e) ready range px k h = unless_ready s _ ready e refl
seat_sides right P attempt _ _ _ (rule.stops_probing s n a m probed e) ready range px k h = unless_ready s _ ready e refl
seat_sides right P attempt _ _ _ (rule.stops_leasing s n a m l r fl fr e) ready range px k h = unless_ready s _ ready e refl
seat_sides right P attempt _ _ _ (rule.refused s from a m w e) ready range px k h = unless_ready s _ ready e refl
seat_sides right P attempt _ _ _ (rule.probes s from a m heard known y ys e f g) ready range px k h = unless_ready s _ ready e refl
seat_sides right P attempt _ _ _ (rule.probes_on s from a m heard known old probed new e f g z) ready range px k h = unless_ready s _ ready e refl
seat_sides right P attempt _ _ _ (rule.leases s from a m heard known old e f) ready range px k h = unless_ready s _ ready e refl
seat_sides right P attempt _ _ _ (rule.denied s from a m l r fl fr w e) ready range px k h = unless_ready s _ ready e refl
seat_sides right P attempt _ _ _ (rule.grant_kept s from a m l r fl fr manifest tombs e w) ready range px k h = unless_ready s _ ready e refl
seat_sides right P attempt _ _ _ (rule.grant_readies s t from a m l r fl fr left right' manifest tombs e f g z w) ready range px k h =
    unless_ready s _ ready e refl
seat_sides right P attempt _ _ _ (rule.file_readies s from a m l r left right' file bytes e f g z) ready range px k h = unless_ready s _ ready e refl
seat_sides right P attempt _ _ _ (rule.lease_busy s from a l r b x y j e f) ready range px k h = cleared_has right P attempt s from a k.0 h
seat_sides right P attempt _ _ _ (rule.lease_moved s from a l r b x y e) ready range px k h = cleared_has right P attempt s from a k.0 h
seat_sides right P attempt _ _ _ (rule.lease_new s from a l r b x y e f g) ready range px k h =
    let asked = asked_for from a l r in
    let lists = new_lists (cleared s from a) x y asked in
    subst (HasSide right P attempt s.me) (sym (side_but (leased_to s asked lists) _ right refl refl refl))
    (new_side right P attempt s b x y asked lists range px e (record { free = f; fitting = g }) k.0 k.1 (cleared_has right P attempt s from a k.0 h))
seat_sides right P attempt _ _ _ (rule.released s from a) ready range px k h =
    subst (HasSide right P attempt s.me) (sym (side_of-released s from a right)) (rows.released_keeps right P attempt s.me from a (side_of s right) k h)
seat_sides right P attempt _ _ _ (rule.confirms s from a b x y e f) ready range px k h =
    subst (HasSide right P attempt s.me) (sym (side_of-confirmed s from a b x y right e))
    (rows.confirmed_keeps right P attempt s.me from a (side_of s right) k h)
seat_sides right P attempt s _ _ m ready range px k h = subst (HasSide right P attempt s.me) (sym (side_but s _ right refl refl refl)) h
