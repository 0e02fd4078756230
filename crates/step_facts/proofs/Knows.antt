-- What a node knows of the ring is ready: what it learnt, probes, leases or links to, and what messages name. One step keeps it.
use Rattle.std.proofs.Common.{◌≡◌, Bool, true, ◌==◌, if◌then◌else◌, Option, List, [], ◌∷◌, ◌++◌, map, refl, sym, subst}
use Rattle.std.proofs.lemmas.Bool.{cond_both}
use Rattle.std.proofs.lemmas.Bool.Decides.{Decides-eqb}
use Rattle.ring_math.specs.Names.{Id, Attempt}
use Rattle.ring_math.specs.Sides.{leaves, learn}
use Rattle.wire_msg.specs.Words.{Message, Lookup, LookupReply, Insert, InsertReply, Fetch, FetchReply, JoinRequest, JoinReply, JoinRefuse, Probe, ProbeReply}
use Rattle.wire_msg.specs.Words.{LeaseRequest, Grant, Deny, Handover, Release, Confirm, Announce, Replicate, ReplicaAck, Reclaim, ReclaimReply}
use Rattle.wire_msg.specs.declared.reply.Why.{Why}
use Rattle.wire_msg.specs.declared.reply.Why.TheVariants as why
use Rattle.overlay_rules.specs.declared.gate.Gate.{Gate}
use Rattle.overlay_rules.specs.State.{State, Phase, Waiting, Asking, Probing, Leasing, Ready, is_ready, bare}
use Rattle.overlay_rules.specs.Outcome.{Outcome, Input, Comes, Command, Noise, Sent, to_both, to_each}
use Rattle.overlay_rules.specs.Joining.{unanswered, answered_by, first_left, first_right, learnt_of}
use Rattle.overlay_rules.specs.Gates.{asked_for, link_after, is_gate_of}
use Rattle.overlay_rules.specs.Gatekeeper.{cleared, lists_of}
use Rattle.overlay_rules.proofs.Each.{Each, Each-append, Each-filter, Each-weaker}
use Rattle.overlay_rules.proofs.Seat.{Seat, IsService}
use Rattle.overlay_rules.proofs.Seat as rule
use Rattle.overlay_rules.proofs.SeatStep.{granted_sends, newly_gated_sends}
use Rattle.overlay_rules.proofs.Sends.{Each-to_both, Each-to_each}
use Rattle.step_facts.proofs.Learnt.{IsCons, Each-leaves, Each-learn, Each-learn_all, IsCons-learn, IsCons-learn_all, IsCons-known, first_left-known}
use Rattle.step_facts.proofs.Learnt.{first_right-known}

-- ---- what a state knows

abbrev pub PhaseKnows : (Id → Type 0) → Phase → Type 0
PhaseKnows R (Probing a n probed) = Each (λ p. R p.0) probed
PhaseKnows R (Leasing a n l r from_left from_right) = R l × R r
PhaseKnows R (Ready a l r) = R l × R r
PhaseKnows R (Waiting a) = Unit {0}
PhaseKnows R (Asking a n) = Unit {0}

-- a node that probes knows somebody
abbrev pub HasSome : Phase → List Id → Type 0
HasSome (Probing a n probed) known = IsCons known
HasSome (Waiting a) known = Unit {0}
HasSome (Asking a n) known = Unit {0}
HasSome (Leasing a n l r from_left from_right) known = Unit {0}
HasSome (Ready a l r) known = Unit {0}

pub record Knows (R : Id → Type 0) (s : State) : Type 0 where
  pub some : HasSome s.phase s.known
  pub known : Each R s.known
  pub phase : PhaseKnows R s.phase

-- ---- what a message tells

abbrev pub WhyTells : (Id → Type 0) → Why → Type 0
WhyTells R (why.Moved l r) = R l × R r
WhyTells R (why.Busy j) = Unit {0}
WhyTells R why.NotReady = Unit {0}

-- what a message from x tells
abbrev pub Tells : (Id → Type 0) → Id → Message → Type 0
Tells R x (JoinReply a heard) = Each R heard × R x
Tells R x (ProbeReply a heard) = Each R heard × R x
Tells R x (LeaseRequest a l r) = R l × R r
Tells R x (Deny a w) = WhyTells R w
Tells R x Announce = R x
Tells R x (Confirm a) = R x
Tells R x (Grant a manifest tombs) = R x
Tells R x (Lookup origin number key hops) = Unit {0}
Tells R x (LookupReply number r) = Unit {0}
Tells R x (Insert origin number hops file copies bytes) = Unit {0}
Tells R x (InsertReply number r) = Unit {0}
Tells R x (Fetch origin number hops file) = Unit {0}
Tells R x (FetchReply number r) = Unit {0}
Tells R x (JoinRequest joiner a hops) = Unit {0}
Tells R x (JoinRefuse a w) = Unit {0}
Tells R x (Probe a) = Unit {0}
Tells R x (Handover file bytes) = Unit {0}
Tells R x (Release a) = Unit {0}
Tells R x (Replicate origin number file bytes) = Unit {0}
Tells R x (ReplicaAck origin number file) = Unit {0}
Tells R x (Reclaim origin number hops file) = Unit {0}
Tells R x (ReclaimReply number r) = Unit {0}

abbrev pub InputTells : (Id → Type 0) → Input → Type 0
InputTells R (Comes from m) = Tells R from m
InputTells R (Command n c) = Unit {0}
InputTells R Noise = Unit {0}

pub record AllTell (R : Id → Type 0) (x : Id) (ms : List Sent) : Type 0 where
  pub each : Each (λ m. Tells R x m.message) ms

pub record Kept (R : Id → Type 0) (x : Id) (o : Outcome) : Type 0 where
  pub state : Knows R o.state
  pub sends : AllTell R x o.sends

service_tells : (R : Id → Type 0) (x : Id) (m : Message) → IsService m → Tells R x m
service_tells R x (JoinReply a heard) h = absurd h
service_tells R x (ProbeReply a heard) h = absurd h
service_tells R x (LeaseRequest a l r) h = absurd h
service_tells R x (Deny a w) h = absurd h
service_tells R x Announce h = absurd h
service_tells R x (Confirm a) h = absurd h
service_tells R x (Grant a manifest tombs) h = absurd h
service_tells R x _ h = tt

none : (R : Id → Type 0) (x : Id) → AllTell R x []
none R x = record { each = tt }

more : (R : Id → Type 0) (x : Id) (m : Sent) (ms : List Sent) → Tells R x m.message → AllTell R x ms → AllTell R x (m ∷ ms)
more R x m ms h t = record { each = (h, t.each) }

both : (R : Id → Type 0) (x : Id) (ms ns : List Sent) → AllTell R x ms → AllTell R x ns → AllTell R x (ms ++ ns)
both R x ms ns h t = record { each = Each-append (λ m. Tells R x m.message) ms ns h.each t.each }

to_both_tell : (R : Id → Type 0) (x l r : Id) (m : Message) → Tells R x m → AllTell R x (to_both l r m)
to_both_tell R x l r m h = record { each = Each-to_both (λ s. Tells R x s.message) l r m (λ y. h) }

to_each_tell : (R : Id → Type 0) (x : Id) (ys : List Id) (m : Message) → Tells R x m → AllTell R x (to_each ys m)
to_each_tell R x ys m h = record { each = Each-to_each (λ s. Tells R x s.message) ys m (λ y. h) }

-- ---- what a step keeps

learnt_knows : (R : Id → Type 0) (s : State) (w : Why) → Each R s.known → WhyTells R w → Each R (learnt_of s w)
learnt_knows R s (why.Moved l r) h t = Each-learn R s.me _ r (Each-learn R s.me s.known l h t.0) t.1
learnt_knows R s (why.Busy j) h t = h
learnt_knows R s why.NotReady h t = h

kept : (R : Id → Type 0) (x : Id) (o : Outcome) → Knows R o.state → AllTell R x o.sends → Kept R x o
kept R x o h t = record { state = h; sends = t }

still : (R : Id → Type 0) (s : State) (x : Id) (o : Outcome) → Knows R s → o.state.known ≡ s.known → o.state.phase ≡ s.phase → AllTell R x o.sends → Kept R x o
still R s x o h e f t = record { state = record { some = rw (e, f) h.some; known = rw e h.known; phase = rw f h.phase }; sends = t }

link_knows : (R : Id → Type 0) (from : Id) (a : Attempt) (g : Option Gate) (y : Id) → R y → R from → R (link_after from a g y)
link_knows R from a g y h t = cond_both (is_gate_of from a g) _ _ R (λ _. t) (λ _. h)

answered_knows : (R : Id → Type 0) (from : Id) (ps : List (Id × Bool)) → Each (λ p. R p.0) ps → Each (λ p. R p.0) (map (answered_by from) ps)
answered_knows R from [] h = tt
answered_knows R from (p ∷ ps) h =
    (cond_both (p.0 == from) _ _ (λ (q : Id × Bool). R q.0) (λ e. subst R ((Decides-eqb p.0 from).0 e) h.0) (λ _. h.0), answered_knows R from ps h.1)

unanswered_knows : (R : Id → Type 0) (ys : List Id) → Each R ys → Each (λ p. R p.0) (map unanswered ys)
unanswered_knows R [] h = tt
unanswered_knows R (y ∷ ys) h = (h.0, unanswered_knows R ys h.1)

-- what is known of the phase, where the phase is known
phase_is : (R : Id → Type 0) (s : State) (p : Phase) → Knows R s → s.phase ≡ p → PhaseKnows R p
phase_is R s p k e = subst (PhaseKnows R) e k.phase

some_is : (R : Id → Type 0) (s : State) (p : Phase) → Knows R s → s.phase ≡ p → HasSome p s.known
some_is R s p k e = subst (λ q. HasSome q s.known) e k.some

ready_tell : (R : Id → Type 0) (x : Id) (a : Attempt) (l r : Id) (ys : List Id) → R x → AllTell R x (to_both l r (Confirm a) ++ to_each ys Announce)
ready_tell R x a l r ys h = both R x (to_both l r (Confirm a)) _ (to_both_tell R x l r (Confirm a) h) (to_each_tell R x ys Announce h)

-- one step keeps it, where the node itself is ready if it is ready afterwards
pub seat_knows : (R : Id → Type 0) (s : State) (i : Input) (o : Outcome) → Seat s i o → (is_ready o.state.phase ≡ true → R s.me) → Knows R s → InputTells R i →
    Kept R s.me o
seat_knows R _ _ _ (rule.serves s i o e f g q) me k t =
    still R s s.me o k e.known e.phase (record
    { each = Each-weaker (λ m. IsService m.message) (λ m. Tells R s.me m.message) o.sends (λ m. service_tells R s.me m.message) f.each })
seat_knows R _ _ _ (rule.unmoved s i) me k t = still R s s.me _ k refl refl (none R s.me)
seat_knows R _ _ _ (rule.request_on s from j a hops y e) me k t = still R s s.me _ k refl refl (more R s.me _ _ tt (none R s.me))
seat_knows R _ _ _ (rule.request_served s from j a hops b l r e w) me k t =
    still R s s.me _ k refl refl (more R s.me _ _ ((me (rw e refl), Each-leaves R s.me s.known k.known), me (rw e refl)) (none R s.me))
seat_knows R _ _ _ (rule.request_unready s from j a hops e) me k t = still R s s.me _ k refl refl (more R s.me _ _ tt (none R s.me))
seat_knows R _ _ _ (rule.request_busy s from j a hops i e) me k t = still R s s.me _ k refl refl (more R s.me _ _ tt (none R s.me))
seat_knows R _ _ _ (rule.begins s n via a e f) me k t = kept R s.me _ (record { some = tt; known = k.known; phase = tt }) (more R s.me _ _ tt (none R s.me))
seat_knows R _ _ _ (rule.not_begun s n via reason e) me k t = still R s s.me _ k refl refl (none R s.me)
seat_knows R _ _ _ (rule.stops_asking s n a m e) me k t = kept R s.me _ (record { some = tt; known = k.known; phase = tt }) (none R s.me)
seat_knows R _ _ _ (rule.stops_probing s n a m probed e) me k t = kept R s.me _ (record { some = tt; known = k.known; phase = tt }) (none R s.me)
seat_knows R _ _ _ (rule.stops_leasing s n a m l r fl fr e) me k t =
    kept R s.me _ (record { some = tt; known = k.known; phase = tt }) (to_both_tell R s.me l r (Release a) tt)
seat_knows R _ _ _ (rule.idles s n e) me k t = still R s s.me _ k refl refl (none R s.me)
seat_knows R _ _ _ (rule.refused s from a m w e) me k t = kept R s.me _ (record { some = tt; known = k.known; phase = tt }) (none R s.me)
seat_knows R _ _ _ (rule.probes s from a m heard known y ys e f g) me k t =
    kept R s.me _ (record {
      some = IsCons-known s.me known y ys g;
      known = new;
      phase = unanswered_knows R (y ∷ ys) (subst (Each R) (sym g) (Each-leaves R s.me known new));
    })
    (to_each_tell R s.me (y ∷ ys) (Probe a) tt) where
      new : Each R known
      new = rw f (Each-learn_all R s.me s.known heard k.known t.0)
seat_knows R _ _ _ (rule.probes_on s from a m heard known old probed new e f g h) me k t =
    kept R s.me _ (record { some = rw f (IsCons-learn_all s.me s.known heard (some_is R s _ k e)); known = learnt; phase = all })
    (to_each_tell R s.me new (Probe a) tt) where
      learnt : Each R known
      learnt = rw f (Each-learn_all R s.me s.known heard k.known t.0)

      all : Each (λ p. R p.0) (probed ++ map unanswered new)
      all = Each-append (λ p. R p.0) probed _ (rw g (answered_knows R from old (phase_is R s _ k e)))
          (unanswered_knows R new (rw h (Each-filter R _ (leaves s.me known) (Each-leaves R s.me known learnt))))
seat_knows R _ _ _ (rule.leases s from a m heard known old e f) me k t =
    kept R s.me _ (record { some = tt; known = learnt; phase = (left, right) }) (to_both_tell R s.me _ _ (LeaseRequest a _ _) (left, right)) where
      learnt : Each R known
      learnt = rw f (Each-learn_all R s.me s.known heard k.known t.0)

      cons : IsCons known
      cons = rw f (IsCons-learn_all s.me s.known heard (some_is R s _ k e))

      left : R (first_left s known)
      left = first_left-known R s.me known cons learnt

      right : R (first_right s known)
      right = first_right-known R s.me known cons learnt
seat_knows R _ _ _ (rule.denied s from a m l r fl fr w e) me k t =
    kept R s.me _ (record { some = tt; known = learnt_knows R s w k.known t; phase = tt }) (to_both_tell R s.me l r (Release a) tt)
seat_knows R _ _ _ (rule.grant_older s from a manifest tombs e) me k t = still R s s.me _ k refl refl (more R s.me _ _ tt (none R s.me))
seat_knows R _ _ _ (rule.grant_settled s from a l r manifest tombs e) me k t = still R s s.me _ k refl refl (more R s.me _ _ (me (rw e refl)) (none R s.me))
seat_knows R _ _ _ (rule.grant_kept s from a m l r fl fr manifest tombs e w) me k t =
    kept R s.me _ (record { some = tt; known = k.known; phase = phase_is R s _ k e }) (none R s.me)
seat_knows R _ _ _ (rule.grant_readies s u from a m l r fl fr left right manifest tombs e f g h i) me k t =
    kept R s.me _ (record { some = tt; known = rw f k.known; phase = phase_is R s _ k e }) (ready_tell R s.me a l r _ (me refl))
seat_knows R _ _ _ (rule.file_readies s from a m l r left right file bytes e f g h) me k t =
    kept R s.me _ (record { some = tt; known = k.known; phase = phase_is R s _ k e }) (ready_tell R s.me a l r _ (me refl))
seat_knows R _ _ _ (rule.probed s from a b l r e) me k t =
    still R s s.me _ k refl refl (more R s.me _ _ ((me (rw e refl), Each-leaves R s.me s.known k.known), me (rw e refl)) (none R s.me))
seat_knows R _ _ _ (rule.lease_unready s from a l r e) me k t = still R s s.me _ k refl refl (more R s.me _ _ tt (none R s.me))
seat_knows R _ _ _ (rule.lease_again s from a l r b x y e f) me k t =
    still R s s.me _ k refl refl (record {
      each = granted_sends (λ m. Tells R s.me m.message) from a (lists_of (if s.me == l then s.right_gate else s.left_gate)) s.files
          (me (rw e refl)) (λ m. service_tells R s.me m.message);
    })
seat_knows R _ _ _ (rule.lease_busy s from a l r b x y j e f) me k t = still R s s.me _ k refl refl (more R s.me _ _ tt (none R s.me))
seat_knows R _ _ _ (rule.lease_moved s from a l r b x y e) me k t = still R s s.me _ k refl refl (more R s.me _ _ (phase_is R s _ k e) (none R s.me))
seat_knows R _ _ _ (rule.lease_new s from a l r b x y e f g) me k t =
    still R s s.me _ k refl refl (record {
      each = newly_gated_sends (λ m. Tells R s.me m.message) (cleared s from a) x y (asked_for from a l r) (me (rw e refl))
          (λ m. service_tells R s.me m.message);
    })
seat_knows R _ _ _ (rule.released s from a) me k t = still R s s.me _ k refl refl (none R s.me)
seat_knows R _ _ _ (rule.confirms s from a b x y e f) me k t =
    kept R s.me _ (record {
      some = tt;
      known = Each-learn R s.me s.known from k.known t;
      phase = (link_knows R from a (bare s.left_gate) x (phase_is R s _ k e).0 t, link_knows R from a (bare s.right_gate) y (phase_is R s _ k e).1 t);
    }) (none R s.me)
seat_knows R _ _ _ (rule.announced s from) me k t =
    kept R s.me _ (record { some = announced_some s.phase k.some; known = Each-learn R s.me s.known from k.known t; phase = k.phase }) (none R s.me) where
      announced_some : (p : Phase) → HasSome p s.known → HasSome p (learn s.me s.known from)
      announced_some (Probing a n probed) h = IsCons-learn s.me s.known from h
      announced_some (Waiting a) h = tt
      announced_some (Asking a n) h = tt
      announced_some (Leasing a n l r fl fr) h = tt
      announced_some (Ready a l r) h = tt

-- ---- what is known stays known where more become ready

phase_weaker : (R S : Id → Type 0) (p : Phase) → ((y : Id) → R y → S y) → PhaseKnows R p → PhaseKnows S p
phase_weaker R S (Probing a n probed) f h = Each-weaker (λ p. R p.0) (λ p. S p.0) probed (λ p. f p.0) h
phase_weaker R S (Leasing a n l r fl fr) f h = (f l h.0, f r h.1)
phase_weaker R S (Ready a l r) f h = (f l h.0, f r h.1)
phase_weaker R S (Waiting a) f h = tt
phase_weaker R S (Asking a n) f h = tt

pub Knows-weaker : (R S : Id → Type 0) (s : State) → ((y : Id) → R y → S y) → Knows R s → Knows S s
Knows-weaker R S s f k = record { some = k.some; known = Each-weaker R S s.known f k.known; phase = phase_weaker R S s.phase f k.phase }

pub Tells-weaker : (R S : Id → Type 0) (x : Id) (m : Message) → ((y : Id) → R y → S y) → Tells R x m → Tells S x m
Tells-weaker R S x (JoinReply a heard) f h = (Each-weaker R S heard f h.0, f x h.1)
Tells-weaker R S x (ProbeReply a heard) f h = (Each-weaker R S heard f h.0, f x h.1)
Tells-weaker R S x (LeaseRequest a l r) f h = (f l h.0, f r h.1)
Tells-weaker R S x (Deny a (why.Moved l r)) f h = (f l h.0, f r h.1)
Tells-weaker R S x (Deny a (why.Busy j)) f h = tt
Tells-weaker R S x (Deny a why.NotReady) f h = tt
Tells-weaker R S x Announce f h = f x h
Tells-weaker R S x (Confirm a) f h = f x h
Tells-weaker R S x (Grant a manifest tombs) f h = f x h
Tells-weaker R S x _ f h = tt

pub InputTells-weaker : (R S : Id → Type 0) (i : Input) → ((y : Id) → R y → S y) → InputTells R i → InputTells S i
InputTells-weaker R S (Comes from m) f h = Tells-weaker R S from m f h
InputTells-weaker R S (Command n c) f h = tt
InputTells-weaker R S Noise f h = tt
