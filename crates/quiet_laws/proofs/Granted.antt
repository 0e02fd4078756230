-- In every world: the files of each lease, of each Grant that was sent and of each Grant that a joiner keeps are provided for.
use Rattle.std.proofs.Common.{◌≡◌, inl, inr, Bool, true, false, ◌==◌, Option, Some, None, List, refl, sym, subst, ap, ◌∙◌, arith}
use Rattle.std.proofs.lemmas.Bool.{cases_eq}
use Rattle.ring_math.specs.Names.{Id, FileId, Content}
use Rattle.ring_math.specs.Files.{Slot, slot_of, has_room}
use Rattle.coverage.specs.GapFiles.{Lists}
use Rattle.wire_msg.specs.Words.{Message, Envelope, Sent, Lookup, LookupReply, Insert, InsertReply, Fetch, FetchReply, JoinRequest, JoinReply, JoinRefuse}
use Rattle.wire_msg.specs.Words.{Probe}
use Rattle.wire_msg.specs.Words.{ProbeReply, LeaseRequest, Grant, Deny, Handover, Release, Confirm, Announce, Replicate, ReplicaAck, Reclaim, ReclaimReply}
use Rattle.overlay_rules.specs.declared.entry.Event.{Event}
use Rattle.overlay_rules.specs.declared.entry.Entry.{Entry}
use Rattle.overlay_rules.specs.State.{State, Lease, Phase, Waiting, Asking, Probing, Leasing, Ready, start}
use Rattle.overlay_rules.specs.Outcome.{Outcome, Input, Comes}
use Rattle.overlay_rules.specs.Joining.{kept_first}
use Rattle.overlay_rules.specs.Step.{step}
use Rattle.overlay_rules.specs.Record.{Setting, World, sent_in, world_at_start}
use Rattle.overlay_rules.proofs.Each.{Each, Each-append, Each-slice_get, Each-weaker}
use Rattle.overlay_rules.proofs.Histories.{sent_in-push, state_at-itself, state_at-other, state_at-each, each_envelope, IsFrom}
use Rattle.overlay_rules.proofs.Seat.{Seat}
use Rattle.overlay_rules.proofs.Seat as rule
use Rattle.overlay_rules.proofs.SeatStep.{step_seat}
use Rattle.step_facts.proofs.Always.{Arrives, commanded, delivered, noised, Takes, after_step}
use Rattle.ring_laws.proofs.Leases.{lease_on}
use Rattle.ring_laws.proofs.Grants.{GrantedBy, seat_grants}
use Rattle.table_laws.proofs.Slots.{Lasts, Lasts-same}
use Rattle.table_laws.proofs.FileRules.{step_filed}
use Rattle.table_laws.proofs.Filing.{rule_lasts}
use Rattle.table_laws.proofs.Rising.{Room, RoomHolds, room_kept}
use Rattle.quiet_laws.proofs.Has.{Has, Has-weaker}
use Rattle.quiet_laws.proofs.OnWay.{OnWay, DeliveriesHold, still, fresh}
use Rattle.quiet_laws.proofs.Provided.{HandsOver, IsTaken, handover_taken, rule_no_room, IsBuried, buried_lasts, buried_each, seat_handed}

abbrev pub IsHandover : Id → FileId → Envelope → Type 0
IsHandover y f v = (v.receiver ≡ y) × ((b : Content) × (v.message ≡ Handover f b))

pub data Provided (w : World) (y : Id) (f : FileId) : Type 0 where
  there : (s : Slot) → slot_of (w.states y).files f ≡ Some s → Provided w y f
  coming : OnWay (IsHandover y f) w → Provided w y f
  no_room : has_room (w.states y).files ≡ false → Provided w y f

abbrev pub AllProvided : World → Id → List FileId → Type 0
AllProvided w y fs = Each (Provided w y) fs

-- of a Grant: what it names
abbrev pub Provides : World → Id → Message → Type 0
Provides w to (Grant a manifest tombs) = AllProvided w to manifest
Provides w to (Lookup origin number key hops) = Unit {0}
Provides w to (LookupReply number r) = Unit {0}
Provides w to (Insert origin number hops file copies bytes) = Unit {0}
Provides w to (InsertReply number r) = Unit {0}
Provides w to (Fetch origin number hops file) = Unit {0}
Provides w to (FetchReply number r) = Unit {0}
Provides w to (JoinRequest joiner a hops) = Unit {0}
Provides w to (JoinReply a members) = Unit {0}
Provides w to (JoinRefuse a w') = Unit {0}
Provides w to (Probe a) = Unit {0}
Provides w to (ProbeReply a members) = Unit {0}
Provides w to (LeaseRequest a l r) = Unit {0}
Provides w to (Deny a w') = Unit {0}
Provides w to (Handover file bytes) = Unit {0}
Provides w to (Release a) = Unit {0}
Provides w to (Confirm a) = Unit {0}
Provides w to Announce = Unit {0}
Provides w to (Replicate origin number file bytes) = Unit {0}
Provides w to (ReplicaAck origin number file) = Unit {0}
Provides w to (Reclaim origin number hops file) = Unit {0}
Provides w to (ReclaimReply number r) = Unit {0}

-- of the lists that a joiner keeps: each file of the manifest is provided for, and each tomb is buried
abbrev pub ListsProvided : World → Id → Option Lists → Type 0
ListsProvided w y None = Unit {0}
ListsProvided w y (Some lists) = AllProvided w y lists.manifest × Each (IsBuried (w.states y).files) lists.tombs

abbrev pub PhaseProvided : World → Id → Phase → Type 0
PhaseProvided w y (Leasing a n l r from_left from_right) = ListsProvided w y from_left × ListsProvided w y from_right
PhaseProvided w y (Waiting a) = Unit {0}
PhaseProvided w y (Asking a n) = Unit {0}
PhaseProvided w y (Probing a n probed) = Unit {0}
PhaseProvided w y (Ready a l r) = Unit {0}

pub record GrantsProvided (w : World) : Type 0 where
  pub rooms : RoomHolds w
  pub leases : (y : Id) (right : Bool) (lease : Lease) → lease_on right (w.states y) ≡ Some lease → AllProvided w lease.gate.joiner lease.lists.manifest
  pub sent : Each (λ (v : Envelope). Provides w v.receiver v.message) (sent_in w.past)
  pub kept : (y : Id) → PhaseProvided w y (w.states y).phase

module _ (g : Setting) (w : World) (e : Entry) (x : Id) (i : Input) (t : Takes g w e x i) (k : DeliveriesHold w) where
  abbrev made : Outcome
  made = step (w.states x) i

  abbrev v : World
  v = after_step w e x i

  -- ---- what lasts

  lasting : (y : Id) → Lasts (w.states y).files (v.states y).files
  lasting y = state_at-each (λ z (s : State). Lasts (w.states z).files s.files) w.states x made.state y
      (rule_lasts (w.states x) i made (step_filed (w.states x) i).does) (Lasts-same (w.states y).files (w.states y).files refl)

  full_still : (y : Id) → has_room (w.states y).files ≡ false → has_room (v.states y).files ≡ false
  full_still y = state_at-each (λ z (s : State). has_room (w.states z).files ≡ false → has_room s.files ≡ false) w.states x made.state y
      (rule_no_room (w.states x) i made (step_filed (w.states x) i).does) (λ h. h)

  provided_still : (y : Id) (f : FileId) → Provided w y f → Provided v y f
  provided_still y f (there s at) = elim ((lasting y).lasts f s at) [ inl same ↦ there s same | inr tomb ↦ there None tomb ]
  provided_still y f (no_room full) = no_room (full_still y full)
  provided_still y f (coming h) = elim (still (IsHandover y f) g w e x i t h) [
    | inl same ↦ coming same
    | inr came ↦
        let at_x : y ≡ x = sym came.is.0 ∙ came.receiver in
        let is : i ≡ Comes came.envelope.sender (Handover f came.is.1.0) = came.input ∙ ap (Comes came.envelope.sender) came.is.1.1 in
        let here : v.states y ≡ made.state = ap v.states at_x ∙ state_at-itself w.states x made.state in
        elim (subst (λ j. IsTaken (step (w.states x) j).state.files f) (sym is) (handover_taken (w.states x) came.envelope.sender f came.is.1.0)) [
          | inl entry ↦ there entry.0 (ap (λ (s : State). slot_of s.files f) here ∙ entry.1)
          | inr full ↦ no_room (ap (λ (s : State). has_room s.files) here ∙ full)
        ]
  ]

  all_still : (y : Id) (fs : List FileId) → AllProvided w y fs → AllProvided v y fs
  all_still y fs h = Each-weaker (Provided w y) (Provided v y) fs (λ f p. provided_still y f p) h

  message_still : (to : Id) (m : Message) → Provides w to m → Provides v to m
  message_still to (Grant a manifest tombs) h = all_still to manifest h
  message_still to _ h = tt

  lists_still : (y : Id) (o : Option Lists) → ListsProvided w y o → ListsProvided v y o
  lists_still y None h = tt
  lists_still y (Some lists) h = (
    all_still y lists.manifest h.0,
    Each-weaker (IsBuried (w.states y).files) (IsBuried (v.states y).files) lists.tombs
        (λ f b. buried_lasts (w.states y).files (v.states y).files f (lasting y) (full_still y) b) h.1,
  )

  phase_still : (y : Id) (p : Phase) → PhaseProvided w y p → PhaseProvided v y p
  phase_still y (Leasing a n l r fl fr) h = (lists_still y fl h.0, lists_still y fr h.1)
  phase_still y (Waiting a) h = tt
  phase_still y (Asking a n) h = tt
  phase_still y (Probing a n probed) h = tt
  phase_still y (Ready a l r) h = tt

  -- ---- one step keeps it

  module _ (h : GrantsProvided w) where
    rooms_kept : RoomHolds v
    rooms_kept = record {
      room = λ y. state_at-each (λ z (s : State). Room s.files) w.states x made.state y (room_kept g w e x i h.rooms) (h.rooms.room y);
    }

    -- what a step hands over is coming
    handed_now : (j : Id) (fs : List FileId) → Each (λ f. Has (HandsOver j f) made.sends) fs → AllProvided v j fs
    handed_now j fs q = Each-weaker (λ f. Has (HandsOver j f) made.sends) (Provided v j) fs
        (λ f u. coming (fresh (IsHandover j f) g w e x i t k
        (Has-weaker (HandsOver j f) _ made.sends (λ s b z from. (from.receiver ∙ b.0, (b.1.0, from.message ∙ b.1.1))) u))) q

    leases_kept : (y : Id) (right : Bool) (lease : Lease) → lease_on right (v.states y) ≡ Some lease → AllProvided v lease.gate.joiner lease.lists.manifest
    leases_kept y right lease at = elim (cases_eq y x) [
      | inl same ↦
          let here : lease_on right made.state ≡ Some lease = sym (ap (lease_on right) (ap v.states same ∙ state_at-itself w.states x made.state)) ∙ at in
          elim (seat_handed right (w.states x) i made (step_seat (w.states x) i) (h.rooms.room x).rising lease here) [
            | inl was ↦ all_still lease.gate.joiner lease.lists.manifest (h.leases x right lease was)
            | inr now ↦ handed_now lease.gate.joiner lease.lists.manifest now
          ]
      | inr ne ↦ all_still lease.gate.joiner lease.lists.manifest
          (h.leases y right lease (sym (ap (lease_on right) (state_at-other w.states x made.state y ne)) ∙ at))
    ]

    -- a Grant goes with its lease
    granted_provides : (to : Id) (m : Message) → GrantedBy made.state to m → Provides v to m
    granted_provides to (Grant a manifest tombs) q =
        let lease = q.1.lease in
        let at : lease_on q.0 (v.states x) ≡ Some lease = ap (lease_on q.0) (state_at-itself w.states x made.state) ∙ q.1.at in
        subst (λ (z : Lists). AllProvided v to z.manifest) q.1.same
        (subst (λ j. AllProvided v j lease.lists.manifest) q.1.joiner (leases_kept x q.0 lease at))
    granted_provides to _ q = tt

    sent_kept : Each (λ (u : Envelope). Provides v u.receiver u.message) (sent_in v.past)
    sent_kept = subst (Each Now) (sym (sent_in-push w.past e)) (Each-append Now (sent_in w.past) e.messages
        (Each-weaker (λ (u : Envelope). Provides w u.receiver u.message) Now (sent_in w.past) (λ u q. message_still u.receiver u.message q) h.sent)
        (each_envelope Now x e.messages made.sends t.messages
        (Each-weaker (λ (m : Sent). GrantedBy made.state m.receiver m.message) (λ m. (u : Envelope) → IsFrom x m u → Now u) made.sends
        (λ m q u f. rw (f.receiver, f.message) (granted_provides m.receiver m.message q)) (seat_grants (w.states x) i made (step_seat (w.states x) i)).each)))
      where
        Now : Envelope → Type 0
        Now u = Provides v u.receiver u.message

    -- the message that comes
    came_provides : (from : Id) (m : Message) → i ≡ Comes from m → Provides w x m
    came_provides from m is = by e.event x i t.arrives is where
      by : (f : Event) (y : Id) (j : Input) → Arrives w f y j → j ≡ Comes from m → Provides w y m
      by _ _ _ (commanded y n c fr) d = cc
      by _ _ _ (noised y) d = cc
      by _ _ _ (delivered l u f) d = let same : u.message ≡ m = cc in
          subst (Provides w u.receiver) same (Each-slice_get (λ (z : Envelope). Provides w z.receiver z.message) (sent_in w.past) l u h.sent f)

    -- the lists that a joiner keeps
    lists_kept : (side : Bool) (o : Option Lists) (new : Lists) → ListsProvided w x o → AllProvided w x new.manifest →
        Each (IsBuried (v.states x).files) new.tombs → ListsProvided v x (kept_first side o new)
    lists_kept side (Some old) new q p b = lists_still x (Some old) q
    lists_kept true None new q p b = (all_still x new.manifest p, b)
    lists_kept false None new q p b = tt

    phase_kept : (s : State) (o : Outcome) → Seat s i o → s ≡ w.states x → v.states x ≡ o.state → PhaseProvided w x s.phase → PhaseProvided v x o.state.phase
    phase_kept s o seat is here q = by s i o seat refl is here q where
      by : (s : State) (j : Input) (o : Outcome) → Seat s j o → i ≡ j → s ≡ w.states x → v.states x ≡ o.state → PhaseProvided w x s.phase →
          PhaseProvided v x o.state.phase
      by _ _ _ (rule.serves s j o d f c u) at is here q = subst (PhaseProvided v x) (sym d.phase) (phase_still x s.phase q)
      by _ _ _ (rule.begins s n via b d f) at is here q = tt
      by _ _ _ (rule.stops_asking s n b m d) at is here q = tt
      by _ _ _ (rule.stops_probing s n b m probed d) at is here q = tt
      by _ _ _ (rule.stops_leasing s n b m l r fl fr d) at is here q = tt
      by _ _ _ (rule.refused s from b m why d) at is here q = tt
      by _ _ _ (rule.probes s from b m heard known y ys d f c) at is here q = tt
      by _ _ _ (rule.probes_on s from b m heard known old probed new d f c u) at is here q = tt
      by _ _ _ (rule.leases s from b m heard known old d f) at is here q = (tt, tt)
      by _ _ _ (rule.denied s from b m l r fl fr why d) at is here q = tt
      by _ _ _ (rule.grant_kept s from b m l r fl fr manifest tombs d c) at is here q =
          let was : PhaseProvided w x (Leasing b m l r fl fr) = subst (PhaseProvided w x) d q in
          let new : AllProvided w x manifest = came_provides from (Grant b manifest tombs) at in
          let tombs_there : Each (IsBuried (v.states x).files) tombs =
          subst (λ (z : State). Each (IsBuried z.files) tombs) (sym here) (buried_each s.files tombs) in (
            lists_kept (from == l) fl (record { manifest = manifest; tombs = tombs }) was.0 new tombs_there,
            lists_kept (from == r) fr (record { manifest = manifest; tombs = tombs }) was.1 new tombs_there,
          )
      by _ _ _ (rule.grant_readies s u from b m l r fl fr left right manifest tombs d f c z y) at is here q = tt
      by _ _ _ (rule.file_readies s from b m l r left right file bytes d f c u) at is here q = tt
      by _ _ _ (rule.confirms s from b c y z d f) at is here q = tt
      by s _ _ m at is here q = phase_still x s.phase q

    pub provided_keep : GrantsProvided v
    provided_keep = record {
      rooms = rooms_kept;
      leases = leases_kept;
      sent = sent_kept;
      kept = λ y. elim (cases_eq y x) [
        | inl same ↦ subst (λ z. PhaseProvided v z (v.states z).phase) (sym same)
            (subst (λ (s : State). PhaseProvided v x s.phase) (sym (state_at-itself w.states x made.state))
            (phase_kept (w.states x) made (step_seat (w.states x) i) refl (state_at-itself w.states x made.state) (h.kept x)))
        | inr ne ↦ subst (λ (s : State). PhaseProvided v y s.phase) (sym (state_at-other w.states x made.state y ne))
            (phase_still y (w.states y).phase (h.kept y))
      ];
    }

start_room : (y : Id) (b : Bool) → Room (start y b).files
start_room y b = record { rising = tt; few = omega arith }

start_leases : (y : Id) (b : Bool) (right : Bool) (lease : Lease) → lease_on right (start y b) ≡ Some lease → ⊥
start_leases y b true lease e = cc
start_leases y b false lease e = cc

start_kept : (w : World) (y : Id) (b : Bool) → PhaseProvided w y (start y b).phase
start_kept w y true = tt
start_kept w y false = tt

pub provided_at_start : (g : Setting) → GrantsProvided (world_at_start g)
provided_at_start g = record {
  rooms = record { room = λ y. start_room y (y == g.founder) };
  leases = λ y right lease at. absurd (start_leases y (y == g.founder) right lease at);
  sent = tt;
  kept = λ y. start_kept (world_at_start g) y (y == g.founder);
}
