-- Keys beside the gates of a world: what a gatekeeper covers or owns against its joiner, and from whom a new ready node takes its keys over.
use Rattle.std.proofs.Common.{◌≡◌, ◌⊎◌, inl, inr, ◌<◌, ◌^◌, Bool, true, false, Some, Contains, refl, sym, subst, ap, ◌∙◌}
use Rattle.std.proofs.lemmas.Bool.{cases_Bool}
use Rattle.ring_math.specs.Names.{Id, Key, Attempt}
use Rattle.ring_math.specs.Ring.{is_nearer}
use Rattle.ring_math.specs.Members.{IsClosest, with}
use Rattle.coverage.specs.Coverage.{in_gap_of}
use Rattle.coverage.specs.GapFiles.{Lists}
use Rattle.coverage.specs.Links.{IsNext, stands, HasSide, HasGate}
use Rattle.overlay_rules.specs.State.{State, Lease, Ready, is_ready, reach}
use Rattle.overlay_rules.specs.Outcome.{Input}
use Rattle.overlay_rules.specs.Step.{step}
use Rattle.overlay_rules.specs.Record.{Setting, IsSetting, World}
use Rattle.overlay_rules.specs.Laws.{Covers}
use Rattle.overlay_rules.proofs.Histories.{state_at-each}
use Rattle.step_facts.proofs.Messages.{ReadyIn, attempt_in, in_ring, ready_stays, next}
use Rattle.ring_laws.proofs.Leases.{lease_on, end_in, Fits, gate_ready}
use Rattle.ring_laws.proofs.Grants.{HasLease, HasBoth, unready_with}
use Rattle.ring_laws.proofs.Gates.{Meet, leases_meet}
use Rattle.ring_laws.proofs.Sides.{short}
use Rattle.ring_laws.proofs.Ring.{JoinsHold, sides_in, is_link, holder_link, holder_gate}
use Rattle.ring_laws.proofs.Owner.{reach_is, covers_by}
use Rattle.table_laws.proofs.Apart.{Gated, covers_apart, nearer_in_gap, joined_from}

-- ---- a gate whose joiner is not ready

pub lease_ready : (g : Setting) (w : World) (x : Id) (right : Bool) (lease : Lease) → JoinsHold g w → lease_on right (w.states x) ≡ Some lease →
    ReadyIn w.states x
lease_ready g w x right lease h at = gate_ready right (w.states x).phase _ ((h.gates.fit x).each right lease at).link

decided : (states : Id → State) (j : Id) → ReadyIn states j ⊎ (ReadyIn states j → ⊥)
decided states j = elim (cases_Bool (is_ready (states j).phase)) [ inl a ↦ inl a | inr b ↦ inr (λ a. cc) ]

gated : (g : Setting) (w : World) (x : Id) (right : Bool) (lease : Lease) → JoinsHold g w → lease_on right (w.states x) ≡ Some lease →
    is_ready (w.states lease.gate.joiner).phase ≡ false →
    Gated right (ReadyIn w.states) (attempt_in w.states) (sides_in w.states) x (record { joiner = lease.gate.joiner; attempt = lease.gate.attempt })
gated g w x right lease h at unready = record {
  member = decided w.states;
  ring = h.ring.holds;
  at = lease_ready g w x right lease h at;
  is = ap short at;
  absent = λ r. cc;
  twin = λ e. ap short (fit.twin (sym (is_link right (w.states x).phase _ fit.link) ∙ (e ∙ sym (h.messages.me x))));
} where
  fit : Fits (w.states x) right lease
  fit = (h.gates.fit x).each right lease at

-- what the gatekeeper covers is no nearer to the joiner
pub not_nearer : (g : Setting) (w : World) (x : Id) (key : Key) (right : Bool) (lease : Lease) → JoinsHold g w → key < 2 ^ 128 →
    lease_on right (w.states x) ≡ Some lease → is_ready (w.states lease.gate.joiner).phase ≡ false →
    Covers (w.states x) key → is_nearer lease.gate.joiner x key ≡ false
not_nearer g w x key right lease h hk at unready c =
    covers_apart right (ReadyIn w.states) (attempt_in w.states) (sides_in w.states) x (record { joiner = lease.gate.joiner; attempt = lease.gate.attempt }) key
    (gated g w x right lease h at unready) hk (covers_by g w x key h c)

-- what it owns and the joiner is nearer to is in the joiner's gap
pub in_the_gap : (g : Setting) (w : World) (x : Id) (key : Key) (right : Bool) (lease : Lease) (a : Attempt) (l r : Id) → JoinsHold g w → key < 2 ^ 128 →
    lease_on right (w.states x) ≡ Some lease → is_ready (w.states lease.gate.joiner).phase ≡ false →
    (w.states x).phase ≡ Ready a l r → IsClosest (ReadyIn w.states) key x → is_nearer lease.gate.joiner x key ≡ true →
    in_gap_of (reach (w.states x) l r) lease.gate.joiner key ≡ true
in_the_gap g w x key right lease a l r h hk at unready e c near =
    subst (λ q. in_gap_of q lease.gate.joiner key ≡ true) (reach_is x (w.states x) a l r (h.messages.me x) e)
    (nearer_in_gap right (ReadyIn w.states) (attempt_in w.states) (sides_in w.states) x
    (record { joiner = lease.gate.joiner; attempt = lease.gate.attempt }) key (gated g w x right lease h at unready) hk c near)

-- ---- who becomes ready

-- the holder of the joiner's lease on a side has the other holder as its true neighbour there, and the joiner stands before it
record Stood (right : Bool) (P : Id → Type 0) (x y z : Id) : Type 0 where
  next : IsNext right P y z
  before : stands right y x z ≡ true

stood : (g : Setting) (w : World) (x : Id) (a : Attempt) (right : Bool) (y z : Id) (lists : Lists) → JoinsHold g w → is_ready (w.states x).phase ≡ false →
    (has : HasLease right (w.states y) x a lists) → end_in right has.lease.gate ≡ z →
    Stood right (ReadyIn w.states) x y z
stood g w x a right y z lists h unready has e = record {
  next = subst (IsNext right (ReadyIn w.states) y) link (gate.before (λ p. cc));
  before = subst (λ k. stands right y x k ≡ true) link gate.between;
} where
  side : HasSide right (ReadyIn w.states) (attempt_in w.states) y (sides_in w.states y right)
  side = h.ring.holds.side right y (lease_ready g w y right has.lease h has.at)

  gate : HasGate right (ReadyIn w.states) (attempt_in w.states) y (sides_in w.states y right).link (record { joiner = x; attempt = a })
  gate = side.gated (record { joiner = x; attempt = a }) (holder_gate (w.states y) right x a lists has)

  link : (sides_in w.states y right).link ≡ z
  link = holder_link (w.states y) right x a lists (h.gates.fit y) has ∙ e

-- what it is the closest to belonged to one of the two
pub taken_over : (g : Setting) (w : World) (x : Id) (key : Key) → IsSetting g → JoinsHold g w → Contains g.nodes x → key < 2 ^ 128 →
    (has : HasBoth w.states x (w.states x)) →
    IsClosest (with (ReadyIn w.states) x) key x →
    (IsClosest (ReadyIn w.states) key has.left × (is_nearer x has.left key ≡ true))
    ⊎ (IsClosest (ReadyIn w.states) key has.right × (is_nearer x has.right key ≡ true))
taken_over g w x key set h member hk has c =
    joined_from (ReadyIn w.states) has.left has.right x key h.ring.holds.in_ring hk (in_ring g set x member)
    (lease_ready g w has.left true has.has_left.lease h has.has_left.at) (lease_ready g w has.right false has.has_right.lease h has.has_right.at)
    at_left.next at_right.next at_left.before c (λ p. let unready' = unready in cc) where
      unready : is_ready (w.states x).phase ≡ false
      unready = unready_with w.states x (w.states x) has

      meet : Meet w.states x (w.states x) has
      meet = leases_meet g w x h.gates has

      at_left : Stood true (ReadyIn w.states) x has.left has.right
      at_left = stood g w x has.attempt true has.left has.right has.left_lists h unready has.has_left meet.from_left

      at_right : Stood false (ReadyIn w.states) x has.right has.left
      at_right = stood g w x has.attempt false has.right has.left has.right_lists h unready has.has_right meet.from_right

-- ---- the ready set after a step

-- nobody becomes ready, where the node of the step does not
pub nobody_new : (w : World) (x : Id) (i : Input) → is_ready (step (w.states x) i).state.phase ≡ is_ready (w.states x).phase → (z : Id) →
    ReadyIn (next w.states x i) z → ReadyIn w.states z
nobody_new w x i same z q = state_at-each (λ y (s : State). is_ready s.phase ≡ true → ReadyIn w.states y) w.states x (step (w.states x) i).state z
    (λ p. sym same ∙ p) (λ p. p) q

-- and it alone where it does
pub one_new : (w : World) (x : Id) (i : Input) (z : Id) → ReadyIn (next w.states x i) z → with (ReadyIn w.states) x z
one_new w x i z q = state_at-each (λ y (s : State). is_ready s.phase ≡ true → with (ReadyIn w.states) x y) w.states x (step (w.states x) i).state z
    (λ _. inr refl) (λ p. inl p) q

-- who was ready and is the closest afterwards was the closest
pub closest_before : (w : World) (x : Id) (i : Input) (key : Key) (y : Id) → ReadyIn w.states y → IsClosest (ReadyIn (next w.states x i)) key y →
    IsClosest (ReadyIn w.states) key y
closest_before w x i key y py c = record { member = py; nearest = λ z pz ne. c.nearest z (ready_stays w.states x i z pz) ne }

-- who becomes ready and is the closest is so among those that were ready and itself
pub closest_with : (w : World) (x : Id) (i : Input) (key : Key) → IsClosest (ReadyIn (next w.states x i)) key x → IsClosest (with (ReadyIn w.states) x) key x
closest_with w x i key c = record { member = inr refl; nearest = near } where
  near : (z : Id) → with (ReadyIn w.states) x z → (z ≡ x → ⊥) → is_nearer z x key ≡ false
  near z (inl p) ne = c.nearest z (ready_stays w.states x i z p) ne
  near z (inr e) ne = absurd (ne e)
