-- The second invariant of every legal record, on leases: what they name, whose they are, that Grants stand, and what joiners keep of them.
use Rattle.std.proofs.Common.{◌≡◌, ◌⊎◌, inl, inr, ◌<◌, ◌≤◌, ℕ, Bool, true, false, not, ◌==◌, nat_lt, Option, Some, None, slice_get, Contains, refl, sym, subst}
use Rattle.std.proofs.Common.{ap, ◌∙◌, arith}
use Rattle.std.proofs.lemmas.Bool.{cases_Bool, false_from_ne_true, and_parts}
use Rattle.std.proofs.lemmas.Bool.Decides.{Decides-eqb, nat_tests}
use Rattle.ring_math.specs.Names.{Id, Attempt, Number}
use Rattle.coverage.specs.GapFiles.{Lists}
use Rattle.wire_msg.specs.declared.command.Command.{Command as NodeCommand}
use Rattle.wire_msg.specs.Words.{Message, Envelope, Lookup, LookupReply, Insert, InsertReply, Fetch, FetchReply, JoinRequest, JoinReply, JoinRefuse, Probe}
use Rattle.wire_msg.specs.Words.{ProbeReply, LeaseRequest, Grant, Deny, Handover, Release, Confirm, Announce, Replicate, ReplicaAck, Reclaim, ReclaimReply}
use Rattle.overlay_rules.specs.declared.gate.Gate.{Gate}
use Rattle.overlay_rules.specs.declared.entry.Event.{Event}
use Rattle.overlay_rules.specs.declared.entry.Entry.{Entry}
use Rattle.overlay_rules.specs.State.{State, Lease, Phase, Waiting, Asking, Probing, Leasing, Ready, attempt_of, is_ready, start}
use Rattle.overlay_rules.specs.Outcome.{Outcome, Input, Command, Comes, Noise}
use Rattle.overlay_rules.specs.Step.{step}
use Rattle.overlay_rules.specs.Record.{Setting, World, sent_in, state_at, world_at_start}
use Rattle.overlay_rules.specs.Gates.{is_of, is_older}
use Rattle.overlay_rules.proofs.Each.{Each, Each-append, Each-slice_get, Each-weaker}
use Rattle.overlay_rules.proofs.Histories.{sent_in-push, state_at-itself, state_at-each, IsFrom, each_envelope}
use Rattle.overlay_rules.proofs.Seat.{Seat}
use Rattle.overlay_rules.proofs.SeatStep.{step_seat}
use Rattle.step_facts.proofs.Always.{Arrives, commanded, delivered, noised, Takes, after_step}
use Rattle.step_facts.proofs.Phases.{HasLeased, HasLeased-moves, HasLeased-attempt, IsReadyWith-ready}
use Rattle.step_facts.proofs.Told.{Shows}
use Rattle.step_facts.proofs.Messages.{attempt_in, Holds, MessagesHold, moved, ready_stays, attempt_grows, next}
use Rattle.ring_laws.proofs.Leases.{lease_on, pick, end_in, Fits, LeasesFit, seat_fits, SparedBy, Spares, seat_lasts, GatesBy, Asks, AllGates, seat_gates}
use Rattle.ring_laws.proofs.Grants.{HasLease, GrantedBy, seat_grants, OnKept, PhaseKept, MessageBrings, Brings, seat_kept, HasBoth}

-- a gate's joiner is a node, which leases between its two ends, or is past that
pub record GateHolds (g : Setting) (states : Id → State) (gate : Gate) : Type 0 where
  pub joiner : Contains g.nodes gate.joiner
  pub leased : HasLeased gate.attempt gate.left gate.right (states gate.joiner).phase

-- while the attempt of a Grant stands and the joiner is not ready, the lease stands
pub record GrantStands (states : Id → State) (from to : Id) (a : Attempt) (lists : Lists) : Type 0 where
  pub within : a ≤ attempt_in states to
  pub stands : attempt_in states to ≡ a → is_ready (states to).phase ≡ false → (right : Bool) × HasLease right (states from) to a lists

abbrev pub GrantShown : (Id → State) → Id → Id → Message → Type 0
GrantShown states from to (Grant a manifest tombs) = GrantStands states from to a (record { manifest = manifest; tombs = tombs })
GrantShown states from to (Lookup origin number key hops) = Unit {0}
GrantShown states from to (LookupReply number r) = Unit {0}
GrantShown states from to (Insert origin number hops file copies bytes) = Unit {0}
GrantShown states from to (InsertReply number r) = Unit {0}
GrantShown states from to (Fetch origin number hops file) = Unit {0}
GrantShown states from to (FetchReply number r) = Unit {0}
GrantShown states from to (JoinRequest joiner a hops) = Unit {0}
GrantShown states from to (JoinReply a members) = Unit {0}
GrantShown states from to (JoinRefuse a w) = Unit {0}
GrantShown states from to (Probe a) = Unit {0}
GrantShown states from to (ProbeReply a members) = Unit {0}
GrantShown states from to (LeaseRequest a l r) = Unit {0}
GrantShown states from to (Deny a w) = Unit {0}
GrantShown states from to (Handover file bytes) = Unit {0}
GrantShown states from to (Release a) = Unit {0}
GrantShown states from to (Confirm a) = Unit {0}
GrantShown states from to Announce = Unit {0}
GrantShown states from to (Replicate origin number file bytes) = Unit {0}
GrantShown states from to (ReplicaAck origin number file) = Unit {0}
GrantShown states from to (Reclaim origin number hops file) = Unit {0}
GrantShown states from to (ReclaimReply number r) = Unit {0}

pub record GrantHolds (states : Id → State) (v : Envelope) : Type 0 where
  pub grant : GrantShown states v.sender v.receiver v.message

pub record GatesHold (g : Setting) (w : World) : Type 0 where
  pub fit : (y : Id) → LeasesFit (w.states y)
  pub gates : (y : Id) → AllGates (GateHolds g w.states) (w.states y)
  pub grants : Each (GrantHolds w.states) (sent_in w.past)
  pub kept : (y : Id) → PhaseKept w.states y (w.states y).phase

-- ---- what came is no end of a lease whose joiner's attempt stands

is_of-parts : (from : Id) (a : Attempt) (gate : Gate) → is_of from a gate ≡ true → (gate.joiner ≡ from) × (gate.attempt ≡ a)
is_of-parts from a gate e =
    let p = and_parts (gate.joiner == from) (gate.attempt == a) e in ((Decides-eqb gate.joiner from).0 p.0, (Decides-eqb gate.attempt a).0 p.1)

is_older-parts : (from : Id) (a : Attempt) (gate : Gate) → is_older from a gate ≡ true → (gate.joiner ≡ from) × (gate.attempt < a)
is_older-parts from a gate e =
    let p = and_parts (gate.joiner == from) (nat_lt gate.attempt a) e in ((Decides-eqb gate.joiner from).0 p.0, grind (arith, nat_tests, p.1))

at_joiner : (states : Id → State) (gate : Gate) (from : Id) → gate.joiner ≡ from → attempt_in states gate.joiner ≤ gate.attempt →
    attempt_in states from ≤ gate.attempt
at_joiner states gate from e le = subst (λ y. attempt_in states y ≤ gate.attempt) e le

pub spared : (states : Id → State) (gate : Gate) (from : Id) (m : Message) → Shows (states from).phase m → attempt_in states gate.joiner ≤ gate.attempt →
    is_ready (states gate.joiner).phase ≡ false → SparedBy gate from m
spared states gate from (Release a) shows le unready =
    false_from_ne_true _ (λ e. let p = is_of-parts from a gate e in let at = at_joiner states gate from p.0 le in let same = p.1 in absurd (omega arith))
spared states gate from (Confirm a) shows le unready =
    false_from_ne_true _ (λ e. let p = is_of-parts from a gate e in
    let ready : is_ready (states gate.joiner).phase ≡ true =
    subst (λ y. is_ready (states y).phase ≡ true) (sym p.0) (IsReadyWith-ready a (states from).phase shows) in cc)
spared states gate from (LeaseRequest a l r) shows le unready =
    false_from_ne_true _ (λ e. let p = is_older-parts from a gate e in let at = at_joiner states gate from p.0 le in let older = p.1 in
    let past = HasLeased-attempt a l r (states from).phase shows in absurd (omega arith))
spared states gate from _ shows le unready = tt

-- what holds of an input, of its message
pub by_message : (g : Setting) (w : World) (P : Input → Type 0) → MessagesHold g w → ((n : Number) (c : NodeCommand) → P (Command n c)) → P Noise →
    (v : Event) (x : Id) (i : Input) → Arrives w v x i →
    ((u : Envelope) (m : ℕ) → Holds g w.states u → slice_get (sent_in w.past) m ≡ Some u → u.receiver ≡ x → P (Comes u.sender u.message)) → P i
by_message g w P h c n _ _ _ (commanded x k d f) p = c k d
by_message g w P h c n _ _ _ (noised x) p = n
by_message g w P h c n _ _ _ (delivered m u f) p = p u m (Each-slice_get (Holds g w.states) (sent_in w.past) m u h.sent f) f refl

-- ---- what lasts

pub unready_before : (states : Id → State) (x : Id) (i : Input) (y : Id) → is_ready (state_at states x (step (states x) i).state y).phase ≡ false →
    is_ready (states y).phase ≡ false
unready_before states x i y f = false_from_ne_true _ (λ r. let ready = ready_stays states x i y r in cc)

-- a step of x, that the invariant of messages holds before
module _ (g : Setting) (w : World) (e : Entry) (x : Id) (i : Input) (h : MessagesHold g w) (t : Takes g w e x i) where
  -- a lease lasts while the attempt of its joiner stands and it is not ready
  lease_lasts : (z : Id) (right : Bool) (lease : Lease) →
      lease_on right (w.states z) ≡ Some lease →
      attempt_in w.states lease.gate.joiner ≤ lease.gate.attempt → is_ready (w.states lease.gate.joiner).phase ≡ false →
      lease_on right (next w.states x i z) ≡ Some lease
  lease_lasts z right lease at le unready =
      state_at-each (λ y s. lease_on right (w.states y) ≡ Some lease → lease_on right s ≡ Some lease) w.states x _ z
      (λ f. seat_lasts _ i _ (step_seat (w.states x) i) right lease f spares) (λ f. f) at where
        spares : Spares lease.gate i
        spares = by_message g w (Spares lease.gate) h (λ n c. tt) tt e.event x i t.arrives
            (λ u m b f r. spared w.states lease.gate u.sender u.message b.shows le unready)

  has_lasts : (z : Id) (right : Bool) (j : Id) (a : Attempt) (lists : Lists) → HasLease right (w.states z) j a lists →
      attempt_in w.states j ≤ a → is_ready (w.states j).phase ≡ false → HasLease right (next w.states x i z) j a lists
  has_lasts z right j a lists k le unready = record {
    lease = k.lease;
    at = lease_lasts z right k.lease k.at
        (subst (λ n. attempt_in w.states k.lease.gate.joiner ≤ n) (sym k.attempt) (subst (λ y. attempt_in w.states y ≤ a) (sym k.joiner) le))
        (subst (λ y. is_ready (w.states y).phase ≡ false) (sym k.joiner) unready);
    joiner = k.joiner;
    attempt = k.attempt;
    same = k.same;
  }

  -- a Grant that stood stands
  grant_lasts : (from to : Id) (m : Message) →
      GrantShown w.states from to m → GrantShown (next w.states x i) from to m
  grant_lasts from to (Grant a manifest tombs) b = record {
    within = let grows = attempt_grows w.states x i to in let le = b.within in omega arith;
    stands = λ same unready.
        let grows = attempt_grows w.states x i to in
        let le = b.within in
        let was : attempt_in w.states to ≡ a = omega arith in
        let before = unready_before w.states x i to unready in
        let k = b.stands was before in
        (k.0, has_lasts from k.0 to a (record { manifest = manifest; tombs = tombs }) k.1 (omega arith) before);
  }
  grant_lasts from to _ b = tt

  -- what a joiner keeps lasts while it leases
  kept_on_lasts : (z : Id) (right : Bool) (j : Id) (a : Attempt) → attempt_in w.states j ≤ a → is_ready (w.states j).phase ≡ false →
      (o : Option Lists) → OnKept (HasLease right (w.states z) j a) o → OnKept (HasLease right (next w.states x i z) j a) o
  kept_on_lasts z right j a le unready None k = tt
  kept_on_lasts z right j a le unready (Some lists) k = has_lasts z right j a lists k le unready

  kept_lasts : (y : Id) (p : Phase) →
      attempt_in w.states y ≤ attempt_of p → is_ready (w.states y).phase ≡ false ⊎ (is_ready p ≡ true) →
      PhaseKept w.states y p → PhaseKept (next w.states x i) y p
  kept_lasts y (Leasing a n l r fl fr) le (inl unready) k =
      (kept_on_lasts l true y a le unready fl k.0, kept_on_lasts r false y a le unready fr k.1)
  kept_lasts y (Leasing a n l r fl fr) le (inr ready) k = cc
  kept_lasts y (Waiting a) le u k = tt
  kept_lasts y (Asking a n) le u k = tt
  kept_lasts y (Probing a n probed) le u k = tt
  kept_lasts y (Ready a l r) le u k = tt

-- ---- a Grant brings the lease of the side that its sender is

leased_between : (a : Attempt) (l r : Id) (n : Number) (x y : Id) (fl fr : Option Lists) → HasLeased a l r (Leasing a n x y fl fr) → (l ≡ x) × (r ≡ y)
leased_between a l r n x y fl fr (inl h) = (h.1, h.2)
leased_between a l r n x y fl fr (inr lt) = absurd (omega arith)

-- the lease on a side stands on the other where its node is asked there too
other_side : (s : State) (right : Bool) (lease : Lease) → LeasesFit s → lease_on right s ≡ Some lease → end_in right lease.gate ≡ s.me →
    lease_on (not right) s ≡ Some lease
other_side s right lease f at m = (f.each right lease at).twin m

to_side : (s : State) (side right : Bool) (lease : Lease) → LeasesFit s → lease_on right s ≡ Some lease → end_in (not side) lease.gate ≡ s.me →
    lease_on side s ≡ Some lease
to_side s true true lease f at m = at
to_side s false false lease f at m = at
to_side s true false lease f at m = other_side s false lease f at m
to_side s false true lease f at m = other_side s true lease f at m

-- the lease of a joiner names the two that it leases between
pub lease_ends : (g : Setting) (w : World) (x : Id) (a : Attempt) (n : Number) (l r : Id) (fl fr : Option Lists) (right : Bool) (y : Id) (lists : Lists) →
    GatesHold g w → (w.states x).phase ≡ Leasing a n l r fl fr →
    (has : HasLease right (w.states y) x a lists) → (has.lease.gate.left ≡ l) × (has.lease.gate.right ≡ r)
lease_ends g w x a n l r fl fr right y lists k e has = leased_between a has.lease.gate.left has.lease.gate.right n l r fl fr leased where
  gate : GateHolds g w.states has.lease.gate
  gate = (k.gates y).each right has.lease has.at

  leased : HasLeased a has.lease.gate.left has.lease.gate.right (Leasing a n l r fl fr)
  leased =
      subst (HasLeased a has.lease.gate.left has.lease.gate.right) e
      (subst (λ z. HasLeased a has.lease.gate.left has.lease.gate.right (w.states z).phase) has.joiner
      (subst (λ b. HasLeased b has.lease.gate.left has.lease.gate.right (w.states has.lease.gate.joiner).phase) has.attempt gate.leased))

-- so each lease of a joiner that has both names the holder of the other
pub record Meet (F : Id → State) (i : Id) (s : State) (has : HasBoth F i s) : Type 0 where
  pub from_left : end_in true has.has_left.lease.gate ≡ has.right
  pub from_right : end_in false has.has_right.lease.gate ≡ has.left

pub leases_meet : (g : Setting) (w : World) (x : Id) → GatesHold g w → (has : HasBoth w.states x (w.states x)) → Meet w.states x (w.states x) has
leases_meet g w x k has = record {
  from_left = (ends true has.left has.left_lists has.has_left).1;
  from_right = (ends false has.right has.right_lists has.has_right).0;
} where
  ends : (right : Bool) (y : Id) (lists : Lists) → (lease : HasLease right (w.states y) x has.attempt lists) →
      (lease.lease.gate.left ≡ has.left) × (lease.lease.gate.right ≡ has.right)
  ends right y lists lease = lease_ends g w x has.attempt has.number has.left has.right has.from_left has.from_right right y lists k has.phase lease

has_side : (g : Setting) (w : World) (x : Id) → MessagesHold g w → GatesHold g w →
    (side : Bool) (from : Id) (a : Attempt) (n : Number) (l r : Id) (fl fr : Option Lists) (lists : Lists) → (w.states x).phase ≡ Leasing a n l r fl fr →
    from ≡ pick (not side) l r → (right : Bool) × HasLease right (w.states from) x a lists → HasLease side (w.states from) x a lists
has_side g w x h k side from a n l r fl fr lists e f (right, has) = record {
  lease = has.lease;
  at = to_side (w.states from) side right has.lease (k.fit from) has.at (ends side ∙ sym f ∙ sym (h.me from));
  joiner = has.joiner;
  attempt = has.attempt;
  same = has.same;
} where
  between : (has.lease.gate.left ≡ l) × (has.lease.gate.right ≡ r)
  between = lease_ends g w x a n l r fl fr right from lists k e has

  ends : (side : Bool) → end_in (not side) has.lease.gate ≡ pick (not side) l r
  ends true = between.0
  ends false = between.1

message_brings : (g : Setting) (w : World) (x : Id) → MessagesHold g w → GatesHold g w → (from : Id) (m : Message) → GrantShown w.states from x m →
    MessageBrings w.states x (w.states x).phase from m
message_brings g w x h k from (Grant a manifest tombs) b = record {
  left = λ n l r fl fr e f. subst (λ y. HasLease true (w.states y) x a lists) f
      (has_side g w x h k true from a n l r fl fr lists e f (b.stands (ap attempt_of e) (ap is_ready e)));
  right = λ n l r fl fr e f. subst (λ y. HasLease false (w.states y) x a lists) f
      (has_side g w x h k false from a n l r fl fr lists e f (b.stands (ap attempt_of e) (ap is_ready e)));
} where
  lists : Lists
  lists = record { manifest = manifest; tombs = tombs }
message_brings g w x h k from _ b = tt

pub brings : (g : Setting) (w : World) (e : Entry) (x : Id) (i : Input) → MessagesHold g w → GatesHold g w → Takes g w e x i →
    Brings w.states x (w.states x).phase i
brings g w e x i h k t = by_message g w (Brings w.states x (w.states x).phase) h (λ n c. tt) tt e.event x i t.arrives
    (λ u m b f r. message_brings g w x h k u.sender u.message
    (subst (λ y. GrantShown w.states u.sender y u.message) r (Each-slice_get (GrantHolds w.states) (sent_in w.past) m u k.grants f).grant))

-- ---- one step keeps it

asked_gates : (P : Gate → Type 0) (from : Id) (m : Message) →
    ((a : Attempt) (l r : Id) → m ≡ LeaseRequest a l r → P (record { joiner = from; attempt = a; left = l; right = r })) → GatesBy P from m
asked_gates P from (LeaseRequest a l r) f = f a l r refl
asked_gates P from _ f = tt

granted_shown : (g : Setting) (states : Id → State) (s : State) (from to : Id) (m : Message) → states from ≡ s → AllGates (GateHolds g states) s →
    GrantedBy s to m → GrantShown states from to m
granted_shown g states s from to (Grant a manifest tombs) e gates (right, has) = record {
  within =
      let gate = gates.each right has.lease has.at in
      let le = HasLeased-attempt has.lease.gate.attempt has.lease.gate.left has.lease.gate.right _ gate.leased in
      subst (λ y. a ≤ attempt_in states y) has.joiner (subst (λ n. n ≤ attempt_in states has.lease.gate.joiner) has.attempt le);
  stands = λ same unready. (right, subst (λ t. HasLease right t to a (record { manifest = manifest; tombs = tombs })) (sym e) has);
}
granted_shown g states s from to _ e gates b = tt

pub gates_keep : (g : Setting) (w : World) (e : Entry) (x : Id) (i : Input) → MessagesHold g w → MessagesHold g (after_step w e x i) → GatesHold g w →
    Takes g w e x i →
    GatesHold g (after_step w e x i)
gates_keep g w e x i h h' k t =
    record {
      fit = λ y. state_at-each (λ z s. LeasesFit s) w.states x o.state y (seat_fits _ i o seat (k.fit x)) (k.fit y);
      gates = gates;
      grants = subst (λ vs. Each (GrantHolds after) vs) (sym (sent_in-push w.past e)) (Each-append (GrantHolds after) (sent_in w.past) _ old fresh);
      kept = λ y. kept_lasts g w e x i h t y (after y).phase (attempt_grows w.states x i y) (unready y) (kept_before y);
    } where
      o : Outcome
      o = step (w.states x) i

      seat : Seat (w.states x) i o
      seat = step_seat (w.states x) i

      after : Id → State
      after = state_at w.states x o.state

      here : after x ≡ o.state
      here = state_at-itself w.states x o.state

      lasting : (y : Id) → AllGates (GateHolds g after) (w.states y)
      lasting y = record {
        each = λ right lease at. let b = (k.gates y).each right lease at in record {
          joiner = b.joiner;
          leased = HasLeased-moves lease.gate.attempt lease.gate.left lease.gate.right _ _ (moved w.states x i lease.gate.joiner) b.leased;
        };
      }

      asks : Asks (GateHolds g after) i
      asks = by_message g w (Asks (GateHolds g after)) h (λ n c. tt) tt e.event x i t.arrives
          (λ u m b f r. asked_gates (GateHolds g after) u.sender u.message (λ a l q is. record {
            joiner = b.sender;
            leased = HasLeased-moves a l q _ _ (moved w.states x i u.sender) (subst (Shows (w.states u.sender).phase) is b.shows);
          }))

      gates : (y : Id) → AllGates (GateHolds g after) (after y)
      gates y = state_at-each (λ z s. AllGates (GateHolds g after) s) w.states x o.state y (seat_gates (GateHolds g after) _ i o seat asks (lasting x))
          (lasting y)

      old : Each (GrantHolds after) (sent_in w.past)
      old = Each-weaker (GrantHolds w.states) (GrantHolds after) (sent_in w.past)
          (λ v b. record { grant = grant_lasts g w e x i h t v.sender v.receiver v.message b.grant }) k.grants

      at_x : AllGates (GateHolds g after) o.state
      at_x = subst (AllGates (GateHolds g after)) here (gates x)

      fresh : Each (GrantHolds after) e.messages
      fresh = each_envelope (GrantHolds after) x e.messages o.sends t.messages
          (Each-weaker (λ m. GrantedBy o.state m.receiver m.message) (λ m. (v : Envelope) → IsFrom x m v → GrantHolds after v) o.sends
          (λ m b v f. record { grant = rw (f.sender, f.receiver, f.message) (granted_shown g after o.state x m.receiver m.message here at_x b) })
          (seat_grants _ i o seat).each)

      kept_before : (y : Id) → PhaseKept w.states y (after y).phase
      kept_before y = state_at-each (λ z s. PhaseKept w.states z s.phase) w.states x o.state y
          (seat_kept w.states x _ i o seat (brings g w e x i h k t) (k.kept x)) (k.kept y)

      unready : (y : Id) → is_ready (w.states y).phase ≡ false ⊎ (is_ready (after y).phase ≡ true)
      unready y = elim (cases_Bool (is_ready (w.states y).phase)) [ inl r ↦ inr (ready_stays w.states x i y r) | inr f ↦ inl f ]

-- ---- at the start

start_fits : (y : Id) (b : Bool) → LeasesFit (start y b)
start_fits y b = record { each = none } where
  none : (right : Bool) (lease : Lease) → lease_on right (start y b) ≡ Some lease → Fits (start y b) right lease
  none true lease e = cc
  none false lease e = cc

start_gates : (P : Gate → Type 0) (y : Id) (b : Bool) → AllGates P (start y b)
start_gates P y b = record { each = none } where
  none : (right : Bool) (lease : Lease) → lease_on right (start y b) ≡ Some lease → P lease.gate
  none true lease e = cc
  none false lease e = cc

start_kept : (F : Id → State) (y : Id) (b : Bool) → PhaseKept F y (start y b).phase
start_kept F y true = tt
start_kept F y false = tt

pub gates_at_start : (g : Setting) → GatesHold g (world_at_start g)
gates_at_start g = record {
  fit = λ y. start_fits y (y == g.founder);
  gates = λ y. start_gates (GateHolds g (world_at_start g).states) y (y == g.founder);
  grants = tt;
  kept = λ y. start_kept (world_at_start g).states y (y == g.founder);
}
