-- One owner for each key: what the ring says, in the words of the laws.
use Rattle.std.proofs.Common.{◌≡◌, ◌⊎◌, inl, inr, ◌<◌, ◌^◌, ℕ, Bool, true, false, Option, Some, None, List, refl, sym, subst, ap, ◌∙◌}
use Rattle.std.proofs.lemmas.Bool.{false_from_ne_true}
use Rattle.ring_math.specs.Names.{Id, Key, Attempt}
use Rattle.ring_math.specs.Members.{IsClosest}
use Rattle.coverage.specs.Coverage.{covers_of, in_gap_of}
use Rattle.coverage.specs.Links as links
use Rattle.coverage.specs.Links.{reach_of, KeepsFor as Keeps}
use Rattle.coverage.proofs.RingSteps.{ring_one, ring_right, ring_owned}
use Rattle.overlay_rules.specs.declared.entry.Entry.{Entry}
use Rattle.overlay_rules.specs.State.{State, Lease, Phase, Ready, is_ready, reach, joiner_of}
use Rattle.overlay_rules.specs.Record.{Setting, World, IsRecord, world_after}
use Rattle.overlay_rules.specs.Ready.{IsReadyIn}
use Rattle.overlay_rules.specs.Laws.{Covers, OneCovers, ClosestCovers}
use Rattle.overlay_rules.specs.Rightly.{KeepsFor}
use Rattle.step_facts.proofs.Always.{always}
use Rattle.step_facts.proofs.Messages.{ReadyIn, attempt_in}
use Rattle.ring_laws.proofs.Sides.{short, link_of, side_of}
use Rattle.ring_laws.proofs.Ring.{JoinsHold, sides_in, joins_keep, joins_at_start}

-- the three invariants hold after every entry
pub joins_hold : (g : Setting) (es : List Entry) → IsRecord g es → (i : ℕ) → JoinsHold g (world_after g es i)
joins_hold g es r i = always g (JoinsHold g) (joins_at_start g r.setting) (joins_keep g r.setting) es r i

-- ---- the reach of a ready node

pub short-joiner : (o : Option Lease) → links.joiner_of (short o) ≡ joiner_of o
short-joiner None = refl
short-joiner (Some lease) = refl

pub reach_is : (x : Id) (s : State) (a : Attempt) (l r : Id) → s.me ≡ x → s.phase ≡ Ready a l r → reach_of x (side_of s) ≡ reach s l r
reach_is x s a l r m e = λ i. record {
  me = sym m i;
  left = ap (link_of false) e i;
  right = ap (link_of true) e i;
  left_joiner = short-joiner s.left_gate i;
  right_joiner = short-joiner s.right_gate i;
}

-- a node that is ready, with its attempt and links
pub ready_phase : (p : Phase) → is_ready p ≡ true → (a : Attempt) × ((l : Id) × ((r : Id) × (p ≡ Ready a l r)))
ready_phase (Ready a l r) h = (a, (l, (r, refl)))
ready_phase _ h = cc

ready_of : (w : World) → Id → Bool
ready_of w y = is_ready (w.states y).phase

-- ---- the laws, in one world

pub covers_ready : (s : State) (key : Key) → Covers s key → is_ready s.phase ≡ true
covers_ready s key c = ap is_ready c.1.1.1.0

pub covers_by : (g : Setting) (w : World) (x : Id) (key : Key) → JoinsHold g w → Covers (w.states x) key →
    covers_of (reach_of x (sides_in w.states x)) key ≡ true
covers_by g w x key h c =
    subst (λ r. covers_of r key ≡ true) (sym (reach_is x (w.states x) c.0 c.1.0 c.1.1.0 (h.messages.me x) c.1.1.1.0)) c.1.1.1.1

-- who covers a key is the closest to it
pub covers_right : (g : Setting) (w : World) (x : Id) (key : Key) → JoinsHold g w → key < 2 ^ 128 → Covers (w.states x) key → IsClosest (IsReadyIn g w) key x
unfolding ready_of
covers_right g w x key h hk c =
    let closest = ring_right (ready_of w) (attempt_in w.states) (sides_in w.states) x key h.ring.holds hk (covers_ready (w.states x) key c)
    (covers_by g w x key h c) in
    record {
      member = (h.messages.nodes x closest.member, closest.member);
      nearest = λ z r ne. closest.nearest z r.1 ne;
    }

one_covers : (g : Setting) (w : World) (key : Key) (x y : Id) → JoinsHold g w → key < 2 ^ 128 → Covers (w.states x) key → Covers (w.states y) key → x ≡ y
unfolding ready_of
one_covers g w key x y h hk cx cy =
    ring_one (ready_of w) (attempt_in w.states) (sides_in w.states) x y key h.ring.holds hk (covers_ready (w.states x) key cx)
    (covers_ready (w.states y) key cy) (covers_by g w x key h cx) (covers_by g w y key h cy)

pub keeps_is : (g : Setting) (w : World) (x : Id) (key : Key) (j : Id) (a : Attempt) (l r : Id) → JoinsHold g w → (w.states x).phase ≡ Ready a l r →
    Keeps (ReadyIn w.states) (reach_of x (sides_in w.states x)) key j →
    KeepsFor (w.states x) j key × (is_ready (w.states j).phase ≡ false)
keeps_is g w x key j a l r h e k = (
  (a, (l, (r, (e, joins k.joiner, subst (λ q. in_gap_of q j key ≡ true) (reach_is x (w.states x) a l r (h.messages.me x) e) k.gap)))),
  false_from_ne_true _ k.absent,
) where
  joins : ((reach_of x (sides_in w.states x)).right_joiner ≡ Some j) ⊎ ((reach_of x (sides_in w.states x)).left_joiner ≡ Some j) →
      (joiner_of (w.states x).left_gate ≡ Some j) ⊎ (joiner_of (w.states x).right_gate ≡ Some j)
  joins (inl f) = inr (sym (short-joiner (w.states x).right_gate) ∙ f)
  joins (inr f) = inl (sym (short-joiner (w.states x).left_gate) ∙ f)

closest_covers : (g : Setting) (w : World) (key : Key) (x : Id) → JoinsHold g w → key < 2 ^ 128 → IsClosest (IsReadyIn g w) key x →
    Covers (w.states x) key ⊎ ((j : Id) × (KeepsFor (w.states x) j key × (is_ready (w.states j).phase ≡ false)))
unfolding ready_of
closest_covers g w key x h hk c =
    let p = ready_phase (w.states x).phase c.member.1 in
    elim (ring_owned (ready_of w) (attempt_in w.states) (sides_in w.states) x key h.ring.holds hk
    (record { member = c.member.1; nearest = λ z r ne. c.nearest z (h.messages.nodes z r, r) ne })) [
      | inl f ↦ inl (
        p.0,
        (
          p.1.0,
          (
            p.1.1.0,
            (
              p.1.1.1,
              subst (λ q. covers_of q key ≡ true) (reach_is x (w.states x) p.0 p.1.0 p.1.1.0 (h.messages.me x) p.1.1.1) f,
            ),
          ),
        ),
      )
      | inr (j, k) ↦ inr (j, keeps_is g w x key j p.0 p.1.0 p.1.1.0 h p.1.1.1 k)
    ]

-- ---- over every legal record

pub one_owner : (g : Setting) (es : List Entry) → IsRecord g es → OneCovers g es
one_owner g es r i key x y hk nx ny cx cy = one_covers g (world_after g es i) key x y (joins_hold g es r i) hk cx cy

pub closest_owns : (g : Setting) (es : List Entry) → IsRecord g es → ClosestCovers g es
closest_owns g es r i key x hk c = closest_covers g (world_after g es i) key x (joins_hold g es r i) hk c
