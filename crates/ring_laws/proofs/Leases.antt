-- The leases of a ready node, one definition for both sides: what they name, and what one step makes of them.
use Rattle.std.proofs.Common.{◌≡◌, ◌⊎◌, inl, inr, ℕ, Bool, true, false, not, ◌&&◌, ◌||◌, ◌==◌, Option, Some, None, refl, sym, subst, ap, ◌∙◌}
use Rattle.std.proofs.lemmas.Bool.{cond-true, cond-false, cases_Bool, and_parts}
use Rattle.std.proofs.lemmas.Bool.Decides.{Decides-eqb}
use Rattle.ring_math.specs.Names.{Id, Attempt}
use Rattle.ring_math.specs.Ring.{is_between}
use Rattle.coverage.specs.Coverage.{or_else}
use Rattle.coverage.specs.GapFiles.{Lists}
use Rattle.wire_msg.specs.Words.{Message, Lookup, LookupReply, Insert, InsertReply, Fetch, FetchReply, JoinRequest, JoinReply, JoinRefuse, Probe, ProbeReply}
use Rattle.wire_msg.specs.Words.{LeaseRequest, Grant, Deny, Handover, Release, Confirm, Announce, Replicate, ReplicaAck, Reclaim, ReclaimReply}
use Rattle.overlay_rules.specs.declared.gate.Gate.{Gate}
use Rattle.overlay_rules.specs.State.{State, Lease, Phase, Waiting, Asking, Probing, Leasing, Ready, is_ready, bare}
use Rattle.overlay_rules.specs.Outcome.{Outcome, Input, Command, Comes, Noise}
use Rattle.overlay_rules.specs.Gates.{Links, is_of, is_older, unless, asked_for, busy_with, blocked_by, fits, gate_on, link_after}
use Rattle.overlay_rules.specs.Gatekeeper.{links_of, unless_lease, without_gates, cleared, confirmed, with_lease}
use Rattle.overlay_rules.proofs.Seat.{Seat, SameSeat}
use Rattle.overlay_rules.proofs.Seat as rule
use Rattle.overlay_rules.proofs.SeatStep.{new_lists}

-- the lease on a side, `right` being true on the right
abbrev pub lease_on : Bool → State → Option Lease
lease_on true s = s.right_gate
lease_on false s = s.left_gate

-- of two, the one on that side
abbrev pub pick : Bool → Id → Id → Id
pick true l r = r
pick false l r = l

-- the neighbour that a gate names on that side
abbrev pub end_in : Bool → Gate → Id
end_in right g = pick right g.left g.right

-- the link of a ready node on that side
abbrev pub IsLinkOf : Bool → Phase → Id → Type 0
IsLinkOf right (Ready a l r) y = y ≡ pick right l r
IsLinkOf right (Waiting a) y = ⊥
IsLinkOf right (Asking a n) y = ⊥
IsLinkOf right (Probing a n probed) y = ⊥
IsLinkOf right (Leasing a n l r from_left from_right) y = ⊥

-- a lease on a side names the node itself and its link there; where it names the node on both sides, it stands on both
pub record Fits (s : State) (right : Bool) (lease : Lease) : Type 0 where
  pub own : end_in (not right) lease.gate ≡ s.me
  pub link : IsLinkOf right s.phase (end_in right lease.gate)
  pub twin : end_in right lease.gate ≡ s.me → lease_on (not right) s ≡ Some lease

pub record LeasesFit (s : State) : Type 0 where
  pub each : (right : Bool) (lease : Lease) → lease_on right s ≡ Some lease → Fits s right lease

-- so only a ready node has one
pub gate_ready : (right : Bool) (p : Phase) (y : Id) → IsLinkOf right p y → is_ready p ≡ true
gate_ready right (Ready a l r) y h = refl
gate_ready right (Waiting a) y h = absurd h
gate_ready right (Asking a n) y h = absurd h
gate_ready right (Probing a n probed) y h = absurd h
gate_ready right (Leasing a n l r from_left from_right) y h = absurd h

-- ---- leases that are taken away

pub unless_some : (test : Gate → Bool) (o : Option Lease) (lease : Lease) → unless_lease test o ≡ Some lease → (o ≡ Some lease) × (test lease.gate ≡ false)
unless_some test None lease e = cc
unless_some test (Some h) lease e =
    elim (cases_Bool (test h.gate)) [
      | inl f ↦ let none : unless_lease test (Some h) ≡ None = cond-true (test h.gate) None (Some h) f in cc
      | inr f ↦ let same : Some h ≡ Some lease = sym (cond-false (test h.gate) None (Some h) f) ∙ e in
          let is : h ≡ lease = cc in (same, subst (λ (g : Lease). test g.gate ≡ false) is f)
    ]

pub unless_kept : (test : Gate → Bool) (o : Option Lease) (lease : Lease) → o ≡ Some lease → test lease.gate ≡ false → unless_lease test o ≡ Some lease
unless_kept test o lease e f = rw e (cond-false (test lease.gate) None (Some lease) f)

-- ---- one step keeps what leases name

same_fits : (s t : State) → SameSeat s t → LeasesFit s → LeasesFit t
same_fits s t e h = record {
  each = λ right lease at. let f = h.each right lease (sym (same_lease right) ∙ at) in record {
    own = f.own ∙ sym e.me;
    link = subst (λ p. IsLinkOf right p (end_in right lease.gate)) (sym e.phase) f.link;
    twin = λ m. same_lease (not right) ∙ f.twin (m ∙ e.me);
  };
} where
  same_lease : (right : Bool) → lease_on right t ≡ lease_on right s
  same_lease true = e.right_gate
  same_lease false = e.left_gate

-- a node that is not ready has none, whatever its phase becomes
none_fits : (s t : State) → is_ready s.phase ≡ false → ((right : Bool) → lease_on right t ≡ lease_on right s) → LeasesFit s → LeasesFit t
none_fits s t e same h = record {
  each = λ right lease at. let f = h.each right lease (sym (same right) ∙ at) in let ready = gate_ready right s.phase _ f.link in absurd (cc);
}

-- only knowledge changes
known_fits : (s t : State) → t.me ≡ s.me → t.phase ≡ s.phase → ((right : Bool) → lease_on right t ≡ lease_on right s) → LeasesFit s → LeasesFit t
known_fits s t m p same h = record {
  each = λ right lease at. let f = h.each right lease (sym (same right) ∙ at) in record {
    own = f.own ∙ sym m;
    link = subst (λ q. IsLinkOf right q (end_in right lease.gate)) (sym p) f.link;
    twin = λ k. same (not right) ∙ f.twin (k ∙ m);
  };
}

pub lease_on-without : (test : Gate → Bool) (s : State) (right : Bool) → lease_on right (without_gates test s) ≡ unless_lease test (lease_on right s)
lease_on-without test s true = refl
lease_on-without test s false = refl

without_fits : (test : Gate → Bool) (s : State) → LeasesFit s → LeasesFit (without_gates test s)
without_fits test s h = record {
  each = λ right lease at.
      let was = unless_some test (lease_on right s) lease (sym (lease_on-without test s right) ∙ at) in
      let f = h.each right lease was.0 in record {
        own = f.own;
        link = f.link;
        twin = λ m. lease_on-without test s (not right) ∙ unless_kept test (lease_on (not right) s) lease (f.twin m) was.1;
      };
}

-- Confirm: the joiners of the gates that go become links
link_after-kept : (from : Id) (a : Attempt) (o : Option Lease) (lease : Lease) (y : Id) → o ≡ Some lease → is_of from a lease.gate ≡ false →
    link_after from a (bare o) y ≡ y
link_after-kept from a o lease y e f = rw e (cond-false (is_of from a lease.gate) from y f)

confirmed_fits : (s t : State) (from : Id) (a b : Attempt) (x y : Id) → s.phase ≡ Ready b x y → t.me ≡ s.me →
    t.phase ≡ Ready b (link_after from a (bare s.left_gate) x) (link_after from a (bare s.right_gate) y) →
    ((right : Bool) → lease_on right t ≡ unless_lease (is_of from a) (lease_on right s)) → LeasesFit s → LeasesFit t
confirmed_fits s t from a b x y e m p gates h = record {
  each = λ right lease at.
      let was = unless_some (is_of from a) (lease_on right s) lease (sym (gates right) ∙ at) in
      let f = h.each right lease was.0 in record {
        own = f.own ∙ sym m;
        link = subst (λ q. IsLinkOf right q (end_in right lease.gate)) (sym p)
            (subst (λ q. IsLinkOf right q (end_in right lease.gate)) e f.link ∙ sym (links right lease was.0 was.1));
        twin = λ k. gates (not right) ∙ unless_kept (is_of from a) (lease_on (not right) s) lease (f.twin (k ∙ m)) was.1;
      };
} where
  links : (right : Bool) (lease : Lease) → lease_on right s ≡ Some lease → is_of from a lease.gate ≡ false →
      pick right (link_after from a (bare s.left_gate) x) (link_after from a (bare s.right_gate) y) ≡ pick right x y
  links true lease g f = link_after-kept from a s.right_gate lease y g f
  links false lease g f = link_after-kept from a s.left_gate lease x g f

-- ---- a new lease

-- what the rule of a new lease knows of the gate that is asked for: nobody stands in its way, and it fits
pub record IsGranted (s : State) (x y : Id) (g : Gate) : Type 0 where
  pub free : blocked_by (links_of s x y) s.me g ≡ None
  pub fitting : fits (links_of s x y) s.me g ≡ true

-- so no gate stands on a side that is asked for, and the link there is the one that the gate names
pub record IsFree (s : State) (right : Bool) (x y : Id) (g : Gate) : Type 0 where
  pub gate : lease_on right s ≡ None
  pub link : end_in right g ≡ pick right x y

-- the state without the joiner's older gates, and with its new lease
abbrev pub cleared_for : State → Gate → State
cleared_for s g = cleared s g.joiner g.attempt

abbrev pub leased_to : State → Gate → Lists → State
leased_to s g lists = with_lease (cleared_for s g) g lists

abbrev pub new_lease : Gate → Lists → Lease
new_lease g lists = record { gate = g; lists = lists }

bare-none : (o : Option Lease) → bare o ≡ None → o ≡ None
bare-none None e = refl
bare-none (Some g) e = cc

pub bare-unless : (test : Gate → Bool) (o : Option Lease) → bare (unless_lease test o) ≡ unless test (bare o)
bare-unless test None = refl
bare-unless test (Some g) = elim (cases_Bool (test g.gate)) [
  | inl e ↦ ap bare (cond-true (test g.gate) None (Some g) e) ∙ sym (cond-true (test g.gate) None (Some g.gate) e)
  | inr e ↦ ap bare (cond-false (test g.gate) None (Some g) e) ∙ sym (cond-false (test g.gate) None (Some g.gate) e)
]

or_else-none : (a b : Option Id) → or_else a b ≡ None → (a ≡ None) × (b ≡ None)
or_else-none None b e = (refl, e)
or_else-none (Some x) b e = cc

busy_with-none : (asked : Bool) (g : Option Gate) → busy_with asked g ≡ None → asked ≡ true → g ≡ None
busy_with-none true None e f = refl
busy_with-none true (Some g) e f = cc
busy_with-none false g e f = cc

-- the second, where the first holds
pub implied : (a b : Bool) → not a || b ≡ true → a ≡ true → b ≡ true
implied true b e f = e
implied false b e f = cc

pub same_number : (m n : ℕ) → m == n ≡ true → m ≡ n
same_number m n e = (Decides-eqb m n).0 e

-- what a gate that fits shows of the sides that are asked for
pub record AsksRightly (me x y : Id) (g : Gate) : Type 0 where
  pub some : (me == g.left) || (me == g.right) ≡ true
  pub right : not (me == g.left) || (y == g.right) ≡ true
  pub left : not (me == g.right) || (x == g.left) ≡ true

pub asks_rightly : (me : Id) (k : Links) (g : Gate) → fits k me g ≡ true → AsksRightly me k.left k.right g
asks_rightly me k g f = record { some = asked.0; right = linked.0; left = linked.1 } where
  links : Bool
  links = (not (me == g.left) || (k.right == g.right)) && (not (me == g.right) || (k.left == g.left))

  asked : ((me == g.left) || (me == g.right) ≡ true) × (links ≡ true)
  asked = and_parts ((me == g.left) || (me == g.right)) links
      (and_parts (is_between g.left g.joiner g.right) (((me == g.left) || (me == g.right)) && links) f).1

  linked : (not (me == g.left) || (k.right == g.right) ≡ true) × (not (me == g.right) || (k.left == g.left) ≡ true)
  linked = and_parts (not (me == g.left) || (k.right == g.right)) (not (me == g.right) || (k.left == g.left)) asked.1

-- the side that is asked for, by the neighbour that the node is to be
pub free_side : (s : State) (x y : Id) (g : Gate) (right : Bool) → IsGranted s x y g → s.me == end_in (not right) g ≡ true →
    IsFree (cleared_for s g) right x y g
free_side s x y g right is asked = by right asked where
  older : Gate → Bool
  older = is_older g.joiner g.attempt

  none : (busy_with (s.me == g.left) (unless older (bare s.right_gate)) ≡ None) × (busy_with (s.me == g.right) (unless older (bare s.left_gate)) ≡ None)
  none = or_else-none (busy_with (s.me == g.left) (unless older (bare s.right_gate))) (busy_with (s.me == g.right) (unless older (bare s.left_gate))) is.free

  sides : AsksRightly s.me x y g
  sides = asks_rightly s.me (links_of s x y) g is.fitting

  by : (right : Bool) → s.me == end_in (not right) g ≡ true → IsFree (cleared_for s g) right x y g
  by true e = record {
    gate = bare-none _ (bare-unless older s.right_gate ∙ busy_with-none (s.me == g.left) _ none.0 e);
    link = sym (same_number y g.right (implied (s.me == g.left) (y == g.right) sides.right e));
  }
  by false e = record {
    gate = bare-none _ (bare-unless older s.left_gate ∙ busy_with-none (s.me == g.right) _ none.1 e);
    link = sym (same_number x g.left (implied (s.me == g.right) (x == g.left) sides.left e));
  }

pub gate_on_some : (asked : Bool) (new : Lease) (old : Option Lease) (lease : Lease) → gate_on asked new old ≡ Some lease →
    ((asked ≡ true) × (new ≡ lease)) ⊎ ((asked ≡ false) × (old ≡ Some lease))
gate_on_some true new old lease e = let same : new ≡ lease = cc in inl (refl, same)
gate_on_some false new old lease e = inr (refl, e)

pub lease_on-new : (c : State) (g : Gate) (lists : Lists) (right : Bool) →
    lease_on right (with_lease c g lists) ≡ gate_on (c.me == end_in (not right) g) (new_lease g lists) (lease_on right c)
lease_on-new c g lists true = refl
lease_on-new c g lists false = refl

-- it takes no other's place
stays_beside : (asked : Bool) (new lease : Lease) (old : Option Lease) → (asked ≡ true → old ≡ None) → old ≡ Some lease → gate_on asked new old ≡ Some lease
stays_beside true new lease old free e = let none : old ≡ None = free refl in cc
stays_beside false new lease old free e = e

pub new_keeps : (s : State) (x y : Id) (g : Gate) (lists : Lists) (right : Bool) (lease : Lease) → IsGranted s x y g →
    lease_on right (cleared_for s g) ≡ Some lease → lease_on right (leased_to s g lists) ≡ Some lease
new_keeps s x y g lists right lease is e =
    lease_on-new (cleared_for s g) g lists right
    ∙ stays_beside (s.me == end_in (not right) g) (new_lease g lists) lease (lease_on right (cleared_for s g))
    (λ asked. (free_side s x y g right is asked).gate) e

-- and stands on each side that is asked for
pub new_stands : (s : State) (g : Gate) (lists : Lists) (right : Bool) → s.me ≡ end_in (not right) g →
    lease_on right (leased_to s g lists) ≡ Some (new_lease g lists)
new_stands s g lists right e =
    lease_on-new (cleared_for s g) g lists right
    ∙ ap (λ asked. gate_on asked (new_lease g lists) (lease_on right (cleared_for s g))) ((Decides-eqb s.me (end_in (not right) g)).1 e)

-- where it is on the other side too
new_twin : (s : State) (g : Gate) (lists : Lists) (right : Bool) → end_in right g ≡ s.me → lease_on (not right) (leased_to s g lists) ≡ Some (new_lease g lists)
new_twin s g lists true e = new_stands s g lists false (sym e)
new_twin s g lists false e = new_stands s g lists true (sym e)

new_fits : (s : State) (b : Attempt) (x y : Id) (g : Gate) (lists : Lists) → s.phase ≡ Ready b x y → IsGranted s x y g → LeasesFit s →
    LeasesFit (leased_to s g lists)
new_fits s b x y g lists e is h = record {
  each = λ right lease at.
      elim (gate_on_some (s.me == end_in (not right) g) (new_lease g lists) (lease_on right c) lease (sym (lease_on-new c g lists right) ∙ at)) [
        | inl (asked, same) ↦ subst (Fits (leased_to s g lists) right) same (record {
          own = sym (same_number s.me (end_in (not right) g) asked);
          link = subst (λ p. IsLinkOf right p (end_in right g)) (sym e) (free_side s x y g right is asked).link;
          twin = λ m. new_twin s g lists right m;
        })
        | inr (unasked, was) ↦ let k = (without_fits (is_older g.joiner g.attempt) s h).each right lease was in record {
          own = k.own;
          link = k.link;
          twin = λ m. new_keeps s x y g lists (not right) lease is (k.twin m);
        }
      ];
} where
  c : State
  c = cleared_for s g

-- ---- every rule

still : (s : State) (right : Bool) → lease_on right s ≡ lease_on right s
still s right = refl

is_unready : (s : State) (p : Phase) → s.phase ≡ p → is_ready p ≡ false → is_ready s.phase ≡ false
is_unready s p e f = ap is_ready e ∙ f

pub lease_on-but : (s t : State) → t.left_gate ≡ s.left_gate → t.right_gate ≡ s.right_gate → (right : Bool) → lease_on right t ≡ lease_on right s
lease_on-but s t e f true = f
lease_on-but s t e f false = e

pub lease_on-confirmed : (s : State) (from : Id) (a b : Attempt) (x y : Id) (right : Bool) →
    lease_on right (confirmed s from a b x y) ≡ unless_lease (is_of from a) (lease_on right s)
lease_on-confirmed s from a b x y true = refl
lease_on-confirmed s from a b x y false = refl

pub seat_fits : (s : State) (i : Input) (o : Outcome) → Seat s i o → LeasesFit s → LeasesFit o.state
seat_fits _ _ _ (rule.serves s i o e f g q) h = same_fits s o.state e h
seat_fits _ _ _ (rule.begins s n via a e f) h = none_fits s _ (is_unready s _ e refl) (lease_on-but s _ refl refl) h
seat_fits _ _ _ (rule.stops_asking s n a m e) h = none_fits s _ (is_unready s _ e refl) (lease_on-but s _ refl refl) h
seat_fits _ _ _ (rule.stops_probing s n a m probed e) h = none_fits s _ (is_unready s _ e refl) (lease_on-but s _ refl refl) h
seat_fits _ _ _ (rule.stops_leasing s n a m l r fl fr e) h = none_fits s _ (is_unready s _ e refl) (lease_on-but s _ refl refl) h
seat_fits _ _ _ (rule.refused s from a m w e) h = none_fits s _ (is_unready s _ e refl) (lease_on-but s _ refl refl) h
seat_fits _ _ _ (rule.probes s from a m heard known y ys e f g) h = none_fits s _ (is_unready s _ e refl) (lease_on-but s _ refl refl) h
seat_fits _ _ _ (rule.probes_on s from a m heard known old probed new e f g k) h = none_fits s _ (is_unready s _ e refl) (lease_on-but s _ refl refl) h
seat_fits _ _ _ (rule.leases s from a m heard known old e f) h = none_fits s _ (is_unready s _ e refl) (lease_on-but s _ refl refl) h
seat_fits _ _ _ (rule.denied s from a m l r fl fr w e) h = none_fits s _ (is_unready s _ e refl) (lease_on-but s _ refl refl) h
seat_fits _ _ _ (rule.grant_kept s from a m l r fl fr manifest tombs e w) h = none_fits s _ (is_unready s _ e refl) (lease_on-but s _ refl refl) h
seat_fits _ _ _ (rule.grant_readies s t from a m l r fl fr left right manifest tombs e f g k i) h =
    none_fits s _ (is_unready s _ e refl) (lease_on-but s _ (ap (λ (u : State). u.left_gate) f) (ap (λ (u : State). u.right_gate) f)) h
seat_fits _ _ _ (rule.file_readies s from a m l r left right file bytes e f g k) h = none_fits s _ (is_unready s _ e refl) (lease_on-but s _ refl refl) h
seat_fits _ _ _ (rule.lease_busy s from a l r b x y j e f) h = without_fits (is_older from a) s h
seat_fits _ _ _ (rule.lease_moved s from a l r b x y e) h = without_fits (is_older from a) s h
seat_fits _ _ _ (rule.lease_new s from a l r b x y e f g) h =
    let asked = asked_for from a l r in
    let lists = new_lists (cleared s from a) x y asked in
    same_fits (leased_to s asked lists) _ (record { me = refl; phase = refl; left_gate = refl; right_gate = refl; known = refl })
    (new_fits s b x y asked lists e (record { free = f; fitting = g }) h)
seat_fits _ _ _ (rule.released s from a) h = without_fits (is_of from a) s h
seat_fits _ _ _ (rule.confirms s from a b x y e f) h = confirmed_fits s _ from a b x y e refl refl (lease_on-confirmed s from a b x y) h
seat_fits _ _ _ (rule.announced s from) h = known_fits s _ refl refl (lease_on-but s _ refl refl) h
seat_fits s _ _ m h = known_fits s _ refl refl (lease_on-but s _ refl refl) h

-- ---- what takes a lease away

-- a message from there takes no lease with this gate away
abbrev pub SparedBy : Gate → Id → Message → Type 0
SparedBy g from (Release a) = is_of from a g ≡ false
SparedBy g from (Confirm a) = is_of from a g ≡ false
SparedBy g from (LeaseRequest a l r) = is_older from a g ≡ false
SparedBy g from (Lookup origin number key hops) = Unit {0}
SparedBy g from (LookupReply number r) = Unit {0}
SparedBy g from (Insert origin number hops file copies bytes) = Unit {0}
SparedBy g from (InsertReply number r) = Unit {0}
SparedBy g from (Fetch origin number hops file) = Unit {0}
SparedBy g from (FetchReply number r) = Unit {0}
SparedBy g from (JoinRequest joiner a hops) = Unit {0}
SparedBy g from (JoinReply a members) = Unit {0}
SparedBy g from (JoinRefuse a w) = Unit {0}
SparedBy g from (Probe a) = Unit {0}
SparedBy g from (ProbeReply a members) = Unit {0}
SparedBy g from (Grant a manifest tombs) = Unit {0}
SparedBy g from (Deny a w) = Unit {0}
SparedBy g from (Handover file bytes) = Unit {0}
SparedBy g from Announce = Unit {0}
SparedBy g from (Replicate origin number file bytes) = Unit {0}
SparedBy g from (ReplicaAck origin number file) = Unit {0}
SparedBy g from (Reclaim origin number hops file) = Unit {0}
SparedBy g from (ReclaimReply number r) = Unit {0}

abbrev pub Spares : Gate → Input → Type 0
Spares g (Comes from m) = SparedBy g from m
Spares g (Command n c) = Unit {0}
Spares g Noise = Unit {0}

moved_lease : (s t : State) (right : Bool) (lease : Lease) → lease_on right s ≡ Some lease → t.left_gate ≡ s.left_gate → t.right_gate ≡ s.right_gate →
    lease_on right t ≡ Some lease
moved_lease s t right lease at e f = lease_on-but s t e f right ∙ at

without_lease : (test : Gate → Bool) (s : State) (right : Bool) (lease : Lease) → lease_on right s ≡ Some lease → test lease.gate ≡ false →
    lease_on right (without_gates test s) ≡ Some lease
without_lease test s right lease at f = lease_on-without test s right ∙ unless_kept test (lease_on right s) lease at f

-- a lease lasts in each step that spares it
pub seat_lasts : (s : State) (i : Input) (o : Outcome) → Seat s i o → (right : Bool) (lease : Lease) → lease_on right s ≡ Some lease → Spares lease.gate i →
    lease_on right o.state ≡ Some lease
seat_lasts _ _ _ (rule.serves s i o e f g q) right lease at h = moved_lease s o.state right lease at e.left_gate e.right_gate
seat_lasts _ _ _ (rule.grant_readies s t from a m l r fl fr left' right' manifest tombs e f g k i) right lease at h =
    moved_lease s _ right lease at (ap (λ (u : State). u.left_gate) f) (ap (λ (u : State). u.right_gate) f)
seat_lasts _ _ _ (rule.lease_busy s from a l r b x y j e f) right lease at h = without_lease (is_older from a) s right lease at h
seat_lasts _ _ _ (rule.lease_moved s from a l r b x y e) right lease at h = without_lease (is_older from a) s right lease at h
seat_lasts _ _ _ (rule.lease_new s from a l r b x y e f g) right lease at h =
    let asked = asked_for from a l r in
    let lists = new_lists (cleared s from a) x y asked in
    moved_lease (leased_to s asked lists) _ right lease
    (new_keeps s x y asked lists right lease (record { free = f; fitting = g }) (without_lease (is_older from a) s right lease at h)) refl refl
seat_lasts _ _ _ (rule.released s from a) right lease at h = without_lease (is_of from a) s right lease at h
seat_lasts _ _ _ (rule.confirms s from a b x y e f) right lease at h =
    lease_on-confirmed s from a b x y right ∙ unless_kept (is_of from a) (lease_on right s) lease at h
seat_lasts s _ _ m right lease at h = moved_lease s _ right lease at refl refl

-- ---- whose leases there are

-- what holds of the gate that an input asks for
abbrev pub GatesBy : (Gate → Type 0) → Id → Message → Type 0
GatesBy P from (LeaseRequest a l r) = P (asked_for from a l r)
GatesBy P from (Release a) = Unit {0}
GatesBy P from (Confirm a) = Unit {0}
GatesBy P from (Lookup origin number key hops) = Unit {0}
GatesBy P from (LookupReply number r) = Unit {0}
GatesBy P from (Insert origin number hops file copies bytes) = Unit {0}
GatesBy P from (InsertReply number r) = Unit {0}
GatesBy P from (Fetch origin number hops file) = Unit {0}
GatesBy P from (FetchReply number r) = Unit {0}
GatesBy P from (JoinRequest joiner a hops) = Unit {0}
GatesBy P from (JoinReply a members) = Unit {0}
GatesBy P from (JoinRefuse a w) = Unit {0}
GatesBy P from (Probe a) = Unit {0}
GatesBy P from (ProbeReply a members) = Unit {0}
GatesBy P from (Grant a manifest tombs) = Unit {0}
GatesBy P from (Deny a w) = Unit {0}
GatesBy P from (Handover file bytes) = Unit {0}
GatesBy P from Announce = Unit {0}
GatesBy P from (Replicate origin number file bytes) = Unit {0}
GatesBy P from (ReplicaAck origin number file) = Unit {0}
GatesBy P from (Reclaim origin number hops file) = Unit {0}
GatesBy P from (ReclaimReply number r) = Unit {0}

abbrev pub Asks : (Gate → Type 0) → Input → Type 0
Asks P (Comes from m) = GatesBy P from m
Asks P (Command n c) = Unit {0}
Asks P Noise = Unit {0}

pub record AllGates (P : Gate → Type 0) (s : State) : Type 0 where
  pub each : (right : Bool) (lease : Lease) → lease_on right s ≡ Some lease → P lease.gate

moved_gates : (P : Gate → Type 0) (s t : State) → t.left_gate ≡ s.left_gate → t.right_gate ≡ s.right_gate → AllGates P s → AllGates P t
moved_gates P s t e f h = record { each = λ right lease at. h.each right lease (sym (lease_on-but s t e f right) ∙ at) }

without_all : (P : Gate → Type 0) (test : Gate → Bool) (s : State) → AllGates P s → AllGates P (without_gates test s)
without_all P test s h = record {
  each = λ right lease at. h.each right lease
      (unless_some test (lease_on right s) lease (sym (lease_on-without test s right) ∙ at)).0;
}

new_all : (P : Gate → Type 0) (c : State) (g : Gate) (lists : Lists) → P g → AllGates P c → AllGates P (with_lease c g lists)
new_all P c g lists p h = record {
  each = λ right lease at. elim (gate_on_some (c.me == end_in (not right) g) (new_lease g lists) (lease_on right c) lease
      (sym (lease_on-new c g lists right) ∙ at)) [
        | inl (asked, is) ↦ subst (λ (k : Lease). P k.gate) is p
        | inr (unasked, was) ↦ h.each right lease was
      ];
}

-- what holds of each gate holds of each after a step, if it holds of what the input asks for
pub seat_gates : (P : Gate → Type 0) (s : State) (i : Input) (o : Outcome) → Seat s i o → Asks P i → AllGates P s → AllGates P o.state
seat_gates P _ _ _ (rule.serves s i o e f g q) p h = moved_gates P s o.state e.left_gate e.right_gate h
seat_gates P _ _ _ (rule.grant_readies s t from a m l r fl fr left right manifest tombs e f g k i) p h =
    moved_gates P s _ (ap (λ (u : State). u.left_gate) f) (ap (λ (u : State). u.right_gate) f) h
seat_gates P _ _ _ (rule.lease_busy s from a l r b x y j e f) p h = without_all P (is_older from a) s h
seat_gates P _ _ _ (rule.lease_moved s from a l r b x y e) p h = without_all P (is_older from a) s h
seat_gates P _ _ _ (rule.lease_new s from a l r b x y e f g) p h =
    let asked = asked_for from a l r in
    let lists = new_lists (cleared s from a) x y asked in
    moved_gates P (leased_to s asked lists) _ refl refl (new_all P (cleared s from a) asked lists p (without_all P (is_older from a) s h))
seat_gates P _ _ _ (rule.released s from a) p h = without_all P (is_of from a) s h
seat_gates P _ _ _ (rule.confirms s from a b x y e f) p h = moved_gates P (without_gates (is_of from a) s) _ refl refl (without_all P (is_of from a) s h)
seat_gates P s _ _ m p h = moved_gates P s _ refl refl h
