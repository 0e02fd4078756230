-- The third invariant of every legal record: links and gates of the ready nodes are those of a ring, so each arc ends at the true neighbour or at a joiner
-- before it.
use Rattle.std.proofs.Common.{◌≡◌, inl, inr, Bool, true, false, not, ◌==◌, Option, Some, None, Contains, refl, sym, subst, ap, ◌∙◌}
use Rattle.std.proofs.lemmas.Bool.Decides.{Decides-eqb}
use Rattle.ring_math.specs.Names.{Id, Attempt}
use Rattle.ring_math.specs.Members.{with}
use Rattle.coverage.specs.Links.{Side, HasSide, IsRing}
use Rattle.coverage.proofs.RingSteps.{ring_founded, ring_stays, ring_joined, Joins}
use Rattle.coverage.specs.GapFiles.{Lists}
use Rattle.wire_msg.specs.Words.{Message, LeaseRequest, Release, Confirm}
use Rattle.overlay_rules.specs.declared.entry.Entry.{Entry}
use Rattle.overlay_rules.specs.State.{State, Lease, Phase, Waiting, Asking, Probing, Leasing, Ready, attempt_of, is_ready, start}
use Rattle.overlay_rules.specs.Outcome.{Outcome, Input}
use Rattle.overlay_rules.specs.Step.{step}
use Rattle.overlay_rules.specs.Record.{Setting, IsSetting, World, state_at, world_at_start}
use Rattle.overlay_rules.proofs.Histories.{state_at-itself, state_at-other, state_at-each}
use Rattle.overlay_rules.proofs.SeatStep.{step_seat}
use Rattle.step_facts.proofs.Always.{Takes, Keeps, after_step}
use Rattle.step_facts.proofs.Phases.{HasLeased-attempt, IsReadyWith-ready, Moves-settled}
use Rattle.step_facts.proofs.Told.{Shows}
use Rattle.step_facts.proofs.Knows.{PhaseKnows}
use Rattle.ring_laws.proofs.Leases.{lease_on, end_in, IsLinkOf, LeasesFit, gate_ready}
use Rattle.ring_laws.proofs.Grants.{HasLease, Becomes, is_same, is_new, seat_becomes, HasBoth, unready_with}
use Rattle.step_facts.proofs.Messages.{ReadyIn, attempt_in, MessagesHold, messages_at_start, in_ring, moved, ready_stays, attempt_grows, messages_keep, next}
use Rattle.ring_laws.proofs.Gates.{GatesHold, gates_keep, gates_at_start, by_message, brings, Meet, leases_meet}
use Rattle.ring_laws.proofs.Sides.{short, link_of, side_of, MessageKeeps, InputKeeps, seat_sides}

abbrev pub sides_in : (Id → State) → Id → Bool → Side
sides_in states y right = side_of (states y) right

pub record RingHolds (g : Setting) (w : World) : Type 0 where
  pub holds : IsRing (ReadyIn w.states) (attempt_in w.states) (sides_in w.states)

-- the invariants that joins keep
pub record JoinsHold (g : Setting) (w : World) : Type 0 where
  pub messages : MessagesHold g w
  pub gates : GatesHold g w
  pub ring : RingHolds g w

-- ---- what came to a node keeps its sides

message_keeps : (g : Setting) (w : World) → IsSetting g → (from : Id) (m : Message) → Contains g.nodes from → Shows (w.states from).phase m →
    MessageKeeps (ReadyIn w.states) (attempt_in w.states) from m
message_keeps g w set from (Release a) c h = h
message_keeps g w set from (Confirm a) c h = IsReadyWith-ready a _ h
message_keeps g w set from (LeaseRequest a l r) c h = (HasLeased-attempt a l r _ h, in_ring g set from c)
message_keeps g w set from _ c h = tt

input_keeps : (g : Setting) (w : World) (e : Entry) (x : Id) (i : Input) → IsSetting g → MessagesHold g w → Takes g w e x i →
    InputKeeps (ReadyIn w.states) (attempt_in w.states) i
input_keeps g w e x i set h t = by_message g w (InputKeeps (ReadyIn w.states) (attempt_in w.states)) h (λ n c. tt) tt e.event x i t.arrives
    (λ u m b f r. message_keeps g w set u.sender u.message b.sender b.shows)

-- ---- nobody becomes ready

ring_kept : (g : Setting) (w : World) (e : Entry) (x : Id) (i : Input) → IsSetting g → MessagesHold g w → RingHolds g w → Takes g w e x i →
    is_ready (step (w.states x) i).state.phase ≡ is_ready (w.states x).phase →
    IsRing (ReadyIn (next w.states x i)) (attempt_in (next w.states x i)) (sides_in (next w.states x i))
ring_kept g w e x i set h k t same =
    ring_stays P (ReadyIn after) (attempt_in w.states) (attempt_in after) (sides_in w.states) (sides_in after) k.holds (record {
      there = λ z p. ready_stays w.states x i z p;
      back = λ z q. sym (as_ready z) ∙ q;
      grows = λ z. attempt_grows w.states x i z;
      kept = λ z p. Moves-settled _ _ (moved w.states x i z) p;
    }) (λ right z p. state_at-each (λ y s. ReadyIn w.states y → HasSide right P (attempt_in w.states) y (side_of s right)) w.states x o.state z (here right)
    (λ q. k.holds.side right z q) p) where
      o : Outcome
      o = step (w.states x) i

      after : Id → State
      after = state_at w.states x o.state

      P : Id → Type 0
      P = ReadyIn w.states

      as_ready : (z : Id) → is_ready (after z).phase ≡ is_ready (w.states z).phase
      as_ready z = state_at-each (λ y (s : State). is_ready s.phase ≡ is_ready (w.states y).phase) w.states x o.state z same refl

      here : (right : Bool) → P x → HasSide right P (attempt_in w.states) x (side_of o.state right)
      here right px =
          subst (λ y. HasSide right P (attempt_in w.states) y (side_of o.state right)) (h.me x)
          (seat_sides right P (attempt_in w.states) (w.states x) i o (step_seat (w.states x) i) px k.holds.in_ring (subst P (sym (h.me x)) px)
          (input_keeps g w e x i set h t)
          (subst (λ y. HasSide right P (attempt_in w.states) y (side_of (w.states x) right)) (sym (h.me x)) (k.holds.side right x px)))

-- ---- one node becomes ready

pub is_link : (right : Bool) (p : Phase) (y : Id) → IsLinkOf right p y → link_of right p ≡ y
is_link right (Ready a l r) y e = sym e
is_link right (Waiting a) y e = absurd e
is_link right (Asking a n) y e = absurd e
is_link right (Probing a n probed) y e = absurd e
is_link right (Leasing a n l r fl fr) y e = absurd e

-- the holder's link on that side is the other end of the lease, and its gate is the joiner's
pub holder_link : (s : State) (right : Bool) (i : Id) (a : Attempt) (lists : Lists) → LeasesFit s → (has : HasLease right s i a lists) →
    link_of right s.phase ≡ end_in right has.lease.gate
holder_link s right i a lists f has = is_link right s.phase _ (f.each right has.lease has.at).link

pub holder_gate : (s : State) (right : Bool) (i : Id) (a : Attempt) (lists : Lists) → HasLease right s i a lists →
    short (lease_on right s) ≡ Some (record { joiner = i; attempt = a })
holder_gate s right i a lists has = ap short has.at ∙ ap Some (λ j. record { joiner = has.joiner j; attempt = has.attempt j })

pub no_lease : (s : State) (right : Bool) → LeasesFit s → is_ready s.phase ≡ false → short (lease_on right s) ≡ None
no_lease s right f unready = by (lease_on right s) refl where
  by : (o : Option Lease) → lease_on right s ≡ o → short o ≡ None
  by None e = refl
  by (Some lease) e = let ready = gate_ready right s.phase _ (f.each right lease e).link in cc

-- the member whose gate on that side is the joiner's
abbrev holder_of : Id → Id → Bool → Id
holder_of l r true = l
holder_of l r false = r

ring_grown : (g : Setting) (w : World) (e : Entry) (x : Id) (i : Input) → IsSetting g → JoinsHold g w → Takes g w e x i →
    (has : HasBoth w.states x (w.states x)) →
    (step (w.states x) i).state.phase ≡ Ready has.attempt has.left has.right →
    (step (w.states x) i).state.left_gate ≡ (w.states x).left_gate → (step (w.states x) i).state.right_gate ≡ (w.states x).right_gate →
    IsRing (ReadyIn (next w.states x i)) (attempt_in (next w.states x i)) (sides_in (next w.states x i))
ring_grown g w e x i set h t has now same_left same_right =
    ring_joined (sides_in after) h.ring.holds joins others mine where
      a : Attempt
      a = has.attempt

      l : Id
      l = has.left

      r : Id
      r = has.right

      meet : Meet w.states x (w.states x) has
      meet = leases_meet g w x h.gates has

      o : Outcome
      o = step (w.states x) i

      after : Id → State
      after = state_at w.states x o.state

      P : Id → Type 0
      P = ReadyIn w.states

      here : after x ≡ o.state
      here = state_at-itself w.states x o.state

      unready : is_ready (w.states x).phase ≡ false
      unready = unready_with w.states x (w.states x) has

      absent : P x → ⊥
      absent p = cc

      there : (z : Id) → with P x z → ReadyIn after z
      there z (inl p) = ready_stays w.states x i z p
      there z (inr f) = subst (ReadyIn after) (sym f) (ap (λ (s : State). is_ready s.phase) here ∙ ap is_ready now)

      asked : P l × P r
      asked = subst (PhaseKnows P) has.phase (h.messages.knows x).phase

      held : (side : Bool) → P (holder_of l r side)
      held true = asked.0
      held false = asked.1

      link : (side : Bool) → (sides_in w.states (holder_of l r side) side).link ≡ holder_of l r (not side)
      link true = holder_link (w.states l) true x a has.left_lists (h.gates.fit l) has.has_left ∙ meet.from_left
      link false = holder_link (w.states r) false x a has.right_lists (h.gates.fit r) has.has_right ∙ meet.from_right

      gate : (side : Bool) → (sides_in w.states (holder_of l r side) side).gate ≡ Some (record { joiner = x; attempt = a })
      gate true = holder_gate (w.states l) true x a has.left_lists has.has_left
      gate false = holder_gate (w.states r) false x a has.right_lists has.has_right

      others : (side : Bool) (z : Id) → P z → sides_in after z side ≡ sides_in w.states z side
      others side z p = ap (λ s. side_of s side) (state_at-other w.states x o.state z (λ f. absent (subst P f p)))

      new_side : (side : Bool) → side_of o.state side ≡ record { link = holder_of l r (not side); gate = None }
      new_side true = λ j. record { link = ap (link_of true) now j; gate = (ap short same_right ∙ no_lease (w.states x) true (h.gates.fit x) unready) j }
      new_side false = λ j. record { link = ap (link_of false) now j; gate = (ap short same_left ∙ no_lease (w.states x) false (h.gates.fit x) unready) j }

      mine : (side : Bool) → sides_in after x side ≡ record { link = holder_of l r (not side); gate = None }
      mine side = ap (λ s. side_of s side) here ∙ new_side side

      joins : Joins P (ReadyIn after) (attempt_in w.states) (attempt_in after) (sides_in w.states) x a (holder_of l r)
      joins = record {
        bound = in_ring g set x t.member;
        absent = absent;
        there = λ z. there z;
        back = λ z ready. state_at-each (λ y (s : State). is_ready s.phase ≡ true → with P x y) w.states x o.state z (λ _. inr refl) (λ p. inl p) ready;
        attempt = ap (λ (s : State). attempt_of s.phase) here ∙ ap attempt_of now;
        grows = λ z. attempt_grows w.states x i z;
        kept = λ z p. Moves-settled _ _ (moved w.states x i z) p;
        held = held;
        link = link;
        gate = gate;
      }

-- ---- one step keeps the ring

ring_keeps : (g : Setting) → IsSetting g → (w : World) (e : Entry) (x : Id) (i : Input) → JoinsHold g w → Takes g w e x i → RingHolds g (after_step w e x i)
ring_keeps g set w e x i h t =
    record {
      holds = by (seat_becomes w.states x (w.states x) i (step (w.states x) i) (step_seat (w.states x) i) (brings g w e x i h.messages h.gates t)
          (h.gates.kept x));
    } where
      after : Id → State
      after = next w.states x i

      by : Becomes w.states x (w.states x) (step (w.states x) i) → IsRing (ReadyIn after) (attempt_in after) (sides_in after)
      by (is_same f) = ring_kept g w e x i set h.messages h.ring t f
      by (is_new has now same_left same_right) = ring_grown g w e x i set h t has now same_left same_right

-- ---- at the start

start_alone : (f : Id) (b : Bool) → b ≡ true → (right : Bool) → side_of (start f b) right ≡ record { link = f; gate = None }
start_alone f true e true = refl
start_alone f true e false = refl
start_alone f false e right = cc

start_only : (g : Setting) (z : Id) (b : Bool) → z == g.founder ≡ b → is_ready (start z b).phase ≡ true → z ≡ g.founder
start_only g z true e h = (Decides-eqb z g.founder).0 e
start_only g z false e h = cc

start_ready : (f : Id) (b : Bool) → b ≡ true → is_ready (start f b).phase ≡ true
start_ready f true e = refl
start_ready f false e = cc

ring_at_start : (g : Setting) → IsSetting g → RingHolds g (world_at_start g)
ring_at_start g set = record {
  holds = ring_founded (ReadyIn (world_at_start g).states) (attempt_in (world_at_start g).states) (sides_in (world_at_start g).states) g.founder
      (in_ring g set g.founder set.founder)
      (start_ready g.founder (g.founder == g.founder) itself) (λ z h. start_only g z (z == g.founder) refl h)
      (λ right. start_alone g.founder (g.founder == g.founder) itself right);
} where
  itself : g.founder == g.founder ≡ true
  itself = (Decides-eqb g.founder g.founder).1 refl

-- ---- over every legal record

pub joins_keep : (g : Setting) → IsSetting g → Keeps g (JoinsHold g)
joins_keep g set = record {
  keeps = λ w e x i h t. let messages = (messages_keep g set).keeps w e x i h.messages t in record {
    messages = messages;
    gates = gates_keep g w e x i h.messages messages h.gates t;
    ring = ring_keeps g set w e x i h t;
  };
}

pub joins_at_start : (g : Setting) → IsSetting g → JoinsHold g (world_at_start g)
joins_at_start g set = record { messages = messages_at_start g set; gates = gates_at_start g; ring = ring_at_start g set }
