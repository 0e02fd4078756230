-- A step keeps what each state of a node keeps, where what comes to it are identifiers.
use Rattle.std.proofs.Common.{◌≡◌, ◌≢◌, ◌<◌, ◌≤◌, ◌^◌, ℕ, List, [], ◌∷◌, Contains, length, refl, sym, ap, subst}
use Rattle.wire_msg.specs.declared.limits.TheConstants.{MOST_TARGETS}
use Rattle.wire_msg.specs.declared.reply.Why.{Why}
use Rattle.wire_msg.specs.declared.reply.Why.TheVariants as why
use Rattle.wire_msg.specs.Words.{Message, JoinReply, ProbeReply, LeaseRequest, Grant, Deny, Confirm, Announce}
use Rattle.overlay_rules.specs.declared.request.Pending.{Pending}
use Rattle.overlay_rules.specs.State.{State, Phase, Waiting, Asking, Probing, Leasing, Ready}
use Rattle.overlay_rules.specs.Outcome.{Outcome, Input, Command, Comes, Noise}
use Rattle.overlay_rules.specs.Joining.{learnt_of}
use Rattle.overlay_rules.specs.Step.{step}
use Rattle.overlay_rules.proofs.Each.{Each, Each-weaker, Each-contains, Each-itself}
use Rattle.overlay_rules.proofs.Seat.{Seat}
use Rattle.overlay_rules.proofs.Seat as row
use Rattle.overlay_rules.proofs.SeatStep.{step_seat}
use Rattle.step_facts.proofs.Learnt.{IsCons, Each-learn, Each-learn_all}
use Rattle.step_facts.proofs.Knows.{Knows, PhaseKnows, HasSome, Tells, WhyTells, InputTells, InputTells-weaker, seat_knows}
use Rattle.step_facts.proofs.Linked.{Linked, PhaseLinked, seat_linked}
use Rattle.node_parts.specs.Sound.{IsSound, PhaseIsSound}
use Rattle.node_core.proofs.Few.{step_few}
use Rattle.node_core.specs.Inputs.{IsId, IsInRange, WhyIsInRange, InputIsInRange}

-- ---- the rules' own words for it

each_id : (xs : List ℕ) → ((z : ℕ) → Contains xs z → z < 2 ^ 128) → Each IsId xs
each_id xs h = Each-weaker (Contains xs) IsId xs h (Each-itself xs)

each_any : {A : Type 0} (xs : List A) → Each (λ x. Unit {0}) xs
each_any [] = tt
each_any (x ∷ xs) = (tt, each_any xs)

is_cons : (xs : List ℕ) → xs ≢ [] → IsCons xs
is_cons [] h = absurd (h refl)
is_cons (x ∷ xs) h = tt

not_empty : (xs : List ℕ) → IsCons xs → xs ≢ []
not_empty [] h = absurd h
not_empty (x ∷ xs) h = λ e. cc

linked : (s : State) → IsSound s → Linked s
linked s so = record {
  unknown = Each-weaker (Contains s.known) (λ y. y ≢ s.me) s.known (λ y c e. so.others (subst (Contains s.known) e c)) (Each-itself s.known);
  phase = by_phase s.phase so.phase;
} where
  by_phase : (p : Phase) → PhaseIsSound s.me s.known p → PhaseLinked s.me s.known p
  by_phase (Leasing a n l r fl fr) h = record { left = h.left; right = h.right; between = h.between }
  by_phase (Ready a l r) h = (h.left, h.right)
  by_phase (Waiting a) h = tt
  by_phase (Asking a n) h = tt
  by_phase (Probing a n probed) h = tt

has_some : (s : State) → IsSound s → HasSome s.phase s.known
has_some s so = by_phase s.phase so.phase where
  by_phase : (p : Phase) → PhaseIsSound s.me s.known p → HasSome p s.known
  by_phase (Probing a n probed) h = is_cons s.known h
  by_phase (Leasing a n l r fl fr) h = tt
  by_phase (Ready a l r) h = tt
  by_phase (Waiting a) h = tt
  by_phase (Asking a n) h = tt

sound_by : (t : State) → t.me < 2 ^ 128 → Each IsId t.known → HasSome t.phase t.known → Linked t →
    ((p : Pending) → Contains t.pending p → length p.targets ≤ MOST_TARGETS) → IsSound t
sound_by t hm range some k few = record {
  me = hm;
  in_ring = λ z c. Each-contains IsId t.known z range c;
  others = λ c. Each-contains (λ y. y ≢ t.me) t.known t.me k.unknown c refl;
  phase = by_phase t.phase some k.phase;
  pending = few;
} where
  by_phase : (p : Phase) → HasSome p t.known → PhaseLinked t.me t.known p → PhaseIsSound t.me t.known p
  by_phase (Probing a n probed) h l = not_empty t.known h
  by_phase (Leasing a n x y fl fr) h l = record { left = l.left; right = l.right; between = l.between }
  by_phase (Ready a x y) h l = record { left = l.0; right = l.1 }
  by_phase (Waiting a) h l = tt
  by_phase (Asking a n) h l = tt

why_tells : (w : Why) → WhyIsInRange w → WhyTells IsId w
why_tells (why.Moved l r) h = h
why_tells (why.Busy j) h = tt
why_tells why.NotReady h = tt

tells : (x : ℕ) (m : Message) → IsId x → IsInRange m → Tells IsId x m
tells x (JoinReply a heard) hx h = (each_id heard h, hx)
tells x (ProbeReply a heard) hx h = (each_id heard h, hx)
tells x (LeaseRequest a l r) hx h = h
tells x (Deny a w) hx h = why_tells w h
tells x Announce hx h = hx
tells x (Confirm a) hx h = hx
tells x (Grant a manifest tombs) hx h = hx
tells x _ hx h = tt

input_tells : (i : Input) → InputIsInRange i → InputTells IsId i
input_tells (Comes from m) h = tells from m h.0 h.1
input_tells (Command n c) h = tt
input_tells Noise h = tt

-- ---- what a step keeps

knows_any : (s : State) → IsSound s → Knows (λ y. Unit {0}) s
knows_any s so = record { some = has_some s so; known = each_any s.known; phase = by_phase s.phase } where
  by_phase : (p : Phase) → PhaseKnows (λ y. Unit {0}) p
  by_phase (Probing a n probed) = each_any probed
  by_phase (Leasing a n l r fl fr) = (tt, tt)
  by_phase (Ready a l r) = (tt, tt)
  by_phase (Waiting a) = tt
  by_phase (Asking a n) = tt

seat_me : (s : State) (i : Input) (o : Outcome) → Seat s i o → o.state.me ≡ s.me
seat_me _ _ _ (row.serves s i o e f g q) = e.me
seat_me _ _ _ (row.grant_readies s t from a m l r fl fr left right manifest tombs e f g h i) = ap (λ (u : State). u.me) f
seat_me s _ _ m = refl

why_range : (s : State) (w : Why) → Each IsId s.known → WhyTells IsId w → Each IsId (learnt_of s w)
why_range s (why.Moved l r) k t = Each-learn IsId s.me _ r (Each-learn IsId s.me s.known l k t.0) t.1
why_range s (why.Busy j) k t = k
why_range s why.NotReady k t = k

seat_range : (s : State) (i : Input) (o : Outcome) → Seat s i o → InputTells IsId i → Each IsId s.known → Each IsId o.state.known
seat_range _ _ _ (row.serves s i o e f g q) t k = rw e.known k
seat_range _ _ _ (row.probes s from a m heard known y ys e f g) t k = rw f (Each-learn_all IsId s.me s.known heard k t.0)
seat_range _ _ _ (row.probes_on s from a m heard known old probed new e f g h) t k = rw f (Each-learn_all IsId s.me s.known heard k t.0)
seat_range _ _ _ (row.leases s from a m heard known old e f) t k = rw f (Each-learn_all IsId s.me s.known heard k t.0)
seat_range _ _ _ (row.denied s from a m l r fl fr w e) t k = why_range s w k t
seat_range _ _ _ (row.grant_readies s u from a m l r fl fr left right manifest tombs e f g h i) t k = rw f k
seat_range _ _ _ (row.confirms s from a b x y e f) t k = Each-learn IsId s.me s.known from k t
seat_range _ _ _ (row.announced s from) t k = Each-learn IsId s.me s.known from k t
seat_range s _ _ m t k = k

pub step_sound : (s : State) (i : Input) → IsSound s → InputIsInRange i → IsSound (step s i).state
step_sound s i so h = sound_by t (subst IsId (sym (seat_me s i (step s i) seat)) so.me) range some
    (seat_linked s i (step s i) seat so.me range (has_some s so) (linked s so)) (step_few s i h so.pending) where
      t : State
      t = (step s i).state

      seat : Seat s i (step s i)
      seat = step_seat s i

      range : Each IsId t.known
      range = seat_range s i (step s i) seat (input_tells i h) (each_id s.known so.in_ring)

      some : HasSome t.phase t.known
      some = (seat_knows (λ y. Unit {0}) s i (step s i) seat (λ e. tt) (knows_any s so)
          (InputTells-weaker IsId (λ y. Unit {0}) i (λ y r. tt) (input_tells i h))).state.some
