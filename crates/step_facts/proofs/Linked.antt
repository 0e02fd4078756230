-- What a state shows by itself: it never knows itself, it knows the links of its phase, and a joiner stands strictly between the two that it asks.
use Rattle.std.proofs.Common.{◌≡◌, ◌≢◌, ◌⊎◌, inl, inr, ◌<◌, ◌≤◌, ◌^◌, true, Option, Some, List, Contains, subst, arith}
use Rattle.std.proofs.lemmas.Bool.{cond_both}
use Rattle.std.proofs.lemmas.Bool.Decides.{nat_tests}
use Rattle.ring_math.specs.Names.{Id, Attempt, Number}
use Rattle.ring_math.specs.Ring.{cw_of, is_between}
use Rattle.ring_math.specs.Sides.{learn, first_or, left_side, right_side}
use Rattle.ring_math.proofs.Distances.{cw_cases, turn_cases, is_between-turn}
use Rattle.coverage.specs.GapFiles.{Lists}
use Rattle.wire_msg.specs.declared.reply.Why.{Why}
use Rattle.wire_msg.specs.declared.reply.Why.TheVariants as why
use Rattle.overlay_rules.specs.declared.gate.Gate.{Gate}
use Rattle.overlay_rules.specs.State.{State, Phase, Waiting, Asking, Probing, Leasing, Ready, bare}
use Rattle.overlay_rules.specs.Outcome.{Outcome, Input}
use Rattle.overlay_rules.specs.Joining.{learnt_of}
use Rattle.overlay_rules.specs.Gates.{link_after, is_gate_of}
use Rattle.overlay_rules.proofs.Each.{Each, Each-contains, Each-itself}
use Rattle.overlay_rules.proofs.Seat.{Seat}
use Rattle.overlay_rules.proofs.Seat as rule
use Rattle.coverage.proofs.Leaves as nearest
use Rattle.step_facts.proofs.Learnt.{IsCons, IsCons-learn_all, first_left-known, first_right-known, Contains-learn, learnt_itself, unknown-learn}
use Rattle.step_facts.proofs.Learnt.{unknown-learn_all}
use Rattle.step_facts.proofs.Knows.{HasSome}

-- the link is me, or I know it
abbrev pub IsLink : Id → List Id → Id → Type 0
IsLink me known y = (y ≡ me) ⊎ Contains known y

pub record IsAsked (me : Id) (known : List Id) (l r : Id) : Type 0 where
  pub left : Contains known l
  pub right : Contains known r
  pub between : is_between l me r ≡ true

abbrev pub PhaseLinked : Id → List Id → Phase → Type 0
PhaseLinked me known (Leasing a n l r from_left from_right) = IsAsked me known l r
PhaseLinked me known (Ready a l r) = IsLink me known l × IsLink me known r
PhaseLinked me known (Waiting a) = Unit {0}
PhaseLinked me known (Asking a n) = Unit {0}
PhaseLinked me known (Probing a n probed) = Unit {0}

pub record Linked (s : State) : Type 0 where
  pub unknown : Each (λ y. y ≢ s.me) s.known
  pub phase : PhaseLinked s.me s.known s.phase

-- ---- the nearest on each side stand around me

nearest_around : (me l r : Id) → me < 2 ^ 128 → l < 2 ^ 128 → r < 2 ^ 128 → l ≢ me → r ≢ me → cw_of me r ≤ cw_of me l → cw_of l me ≤ cw_of r me →
    is_between l me r ≡ true
nearest_around me l r hm hl hr nl nr right left =
    grind (
      arith,
      nat_tests,
      is_between-turn l me r hl hm hr,
      turn_cases l me hl hm,
      turn_cases l r hl hr,
      cw_cases me r hm hr,
      cw_cases me l hm hl,
      cw_cases l me hl hm,
      cw_cases r me hr hm,
    )

first_around : (me : Id) (known : List Id) → me < 2 ^ 128 → Each (λ y. y < 2 ^ 128) known → Each (λ y. y ≢ me) known → IsCons known →
    IsAsked me known (first_or me (left_side me known)) (first_or me (right_side me known))
first_around me known hm range unknown cons = record {
  left = left;
  right = right;
  between = nearest_around me l r hm (Each-contains (λ y. y < 2 ^ 128) known l range left) (Each-contains (λ y. y < 2 ^ 128) known r range right)
      (Each-contains (λ y. y ≢ me) known l unknown left) (Each-contains (λ y. y ≢ me) known r unknown right)
      ((nearest.first_right me l known left).least l left) ((nearest.first_left me l known left).least r right);
} where
  l : Id
  l = first_or me (left_side me known)

  r : Id
  r = first_or me (right_side me known)

  left : Contains known l
  left = first_left-known (Contains known) me known cons (Each-itself known)

  right : Contains known r
  right = first_right-known (Contains known) me known cons (Each-itself known)

-- ---- one step keeps it

still : (s t : State) → Linked s → t.me ≡ s.me → t.known ≡ s.known → t.phase ≡ s.phase → Linked t
still s t k m e f = record { unknown = rw (m, e) k.unknown; phase = rw (m, e, f) k.phase }

asked_is : (s : State) (a : Attempt) (n : Number) (l r : Id) (fl fr : Option Lists) → Linked s → s.phase ≡ Leasing a n l r fl fr → IsAsked s.me s.known l r
asked_is s a n l r fl fr k e = subst (PhaseLinked s.me s.known) e k.phase

links_are : (s : State) (a : Attempt) (l r : Id) → Linked s → s.phase ≡ Ready a l r → IsLink s.me s.known l × IsLink s.me s.known r
links_are s a l r k e = subst (PhaseLinked s.me s.known) e k.phase

-- learning one more keeps it
learnt_phase : (me : Id) (known : List Id) (y : Id) (p : Phase) → PhaseLinked me known p → PhaseLinked me (learn me known y) p
learnt_phase me known y (Leasing a n l r fl fr) h =
    record { left = Contains-learn me known y l h.left; right = Contains-learn me known y r h.right; between = h.between }
learnt_phase me known y (Ready a l r) h = (link_learn l h.0, link_learn r h.1) where
  link_learn : (z : Id) → IsLink me known z → IsLink me (learn me known y) z
  link_learn z (inl e) = inl e
  link_learn z (inr c) = inr (Contains-learn me known y z c)
learnt_phase me known y (Waiting a) h = tt
learnt_phase me known y (Asking a n) h = tt
learnt_phase me known y (Probing a n probed) h = tt

learnt_unknown : (s : State) (w : Why) → Linked s → Each (λ y. y ≢ s.me) (learnt_of s w)
learnt_unknown s (why.Moved l r) k = unknown-learn s.me (learn s.me s.known l) r (unknown-learn s.me s.known l k.unknown)
learnt_unknown s (why.Busy j) k = k.unknown
learnt_unknown s why.NotReady k = k.unknown

confirmed_link : (me : Id) (known : List Id) (from : Id) (a : Attempt) (g : Option Gate) (y : Id) → IsLink me known y →
    IsLink me (learn me known from) (link_after from a g y)
confirmed_link me known from a g y h =
    cond_both (is_gate_of from a g) from y (IsLink me (learn me known from)) (λ _. learnt_itself me known from)
    (λ _. elim h [ inl e ↦ inl e | inr c ↦ inr (Contains-learn me known from y c) ])

-- the node is an identifier, and so is all that it knows afterwards
pub seat_linked : (s : State) (i : Input) (o : Outcome) → Seat s i o → s.me < 2 ^ 128 → Each (λ y. y < 2 ^ 128) o.state.known → HasSome s.phase s.known →
    Linked s → Linked o.state
seat_linked _ _ _ (rule.serves s i o e f g q) hm range some k = still s o.state k e.me e.known e.phase
seat_linked _ _ _ (rule.begins s n via a e f) hm range some k = record { unknown = k.unknown; phase = tt }
seat_linked _ _ _ (rule.stops_asking s n a m e) hm range some k = record { unknown = k.unknown; phase = tt }
seat_linked _ _ _ (rule.stops_probing s n a m probed e) hm range some k = record { unknown = k.unknown; phase = tt }
seat_linked _ _ _ (rule.stops_leasing s n a m l r fl fr e) hm range some k = record { unknown = k.unknown; phase = tt }
seat_linked _ _ _ (rule.refused s from a m w e) hm range some k = record { unknown = k.unknown; phase = tt }
seat_linked _ _ _ (rule.probes s from a m heard known y ys e f g) hm range some k =
    record { unknown = rw f (unknown-learn_all s.me s.known heard k.unknown); phase = tt }
seat_linked _ _ _ (rule.probes_on s from a m heard known old probed new e f g h) hm range some k =
    record { unknown = rw f (unknown-learn_all s.me s.known heard k.unknown); phase = tt }
seat_linked _ _ _ (rule.leases s from a m heard known old e f) hm range some k =
    record { unknown = unknown; phase = first_around s.me known hm range unknown cons } where
      unknown : Each (λ y. y ≢ s.me) known
      unknown = rw f (unknown-learn_all s.me s.known heard k.unknown)

      cons : IsCons known
      cons = rw f (IsCons-learn_all s.me s.known heard (subst (λ p. HasSome p s.known) e some))
seat_linked _ _ _ (rule.denied s from a m l r fl fr w e) hm range some k = record { unknown = learnt_unknown s w k; phase = tt }
seat_linked _ _ _ (rule.grant_kept s from a m l r fl fr manifest tombs e w) hm range some k =
    record { unknown = k.unknown; phase = asked_is s a m l r fl fr k e }
seat_linked _ _ _ (rule.grant_readies s t from a m l r fl fr left right manifest tombs e f g h i) hm range some k =
    let asked = asked_is s a m l r fl fr k e in record { unknown = rw f k.unknown; phase = rw f (inr asked.left, inr asked.right) }
seat_linked _ _ _ (rule.file_readies s from a m l r left right file bytes e f g h) hm range some k =
    let asked = asked_is s a m l r (Some left) (Some right) k e in record { unknown = k.unknown; phase = (inr asked.left, inr asked.right) }
seat_linked _ _ _ (rule.confirms s from a b x y e f) hm range some k =
    let links = links_are s b x y k e in
    record {
      unknown = unknown-learn s.me s.known from k.unknown;
      phase = (confirmed_link s.me s.known from a (bare s.left_gate) x links.0, confirmed_link s.me s.known from a (bare s.right_gate) y links.1);
    }
seat_linked _ _ _ (rule.announced s from) hm range some k =
    record { unknown = unknown-learn s.me s.known from k.unknown; phase = learnt_phase s.me s.known from s.phase k.phase }
seat_linked s _ _ m hm range some k = record { unknown = k.unknown; phase = k.phase }
