-- The lists of a gatekeeper's leases: each lease after a step stood before it, or is new, and then its lists are those of the gap of its joiner.
-- And who becomes ready has entries for all that the lists of both its leases name.
use Rattle.std.proofs.Common.{◌≡◌, inl, inr, Bool, true, false, not, ◌&&◌, ◌==◌, Option, Some, None, is_none, is_some, List, [], ◌∷◌, filter, map, Contains}
use Rattle.std.proofs.Common.{suc, refl, sym, subst, ap, ◌∙◌, arith}
use Rattle.std.proofs.lemmas.Bool.{cond_both, cond-true, cond-false, cases_Bool, and_parts}
use Rattle.ring_math.specs.Names.{Id, FileId, Content, Attempt}
use Rattle.ring_math.specs.Bytewise.{same_bytes}
use Rattle.ring_math.specs.Keys.{key_of}
use Rattle.ring_math.specs.Files.{Slot, slot_of}
use Rattle.ring_math.specs.declared.file.Held.{Held}
use Rattle.coverage.specs.declared.Reach.{Reach}
use Rattle.coverage.specs.Coverage.{in_gap_of}
use Rattle.coverage.specs.GapFiles.{Lists, is_in_gap, files_in_gap, tombs_in_gap}
use Rattle.overlay_rules.specs.declared.gate.Gate.{Gate}
use Rattle.overlay_rules.specs.State.{State, Lease, Phase, Leasing, Ready, is_ready, reach, joiner_of}
use Rattle.overlay_rules.specs.Outcome.{Outcome, Input, Noise}
use Rattle.overlay_rules.specs.ReadyTest.{has_all}
use Rattle.overlay_rules.specs.Gates.{is_of, is_older, asked_for, gate_on}
use Rattle.overlay_rules.specs.Gatekeeper.{cleared, without_gates, gated_reach, with_lease, newly_gated, is_left_to}
use Rattle.overlay_rules.specs.declared.request.Pending.{Pending}
use Rattle.overlay_rules.proofs.Each.{Each, Each-weaker}
use Rattle.overlay_rules.proofs.Seat.{Seat}
use Rattle.overlay_rules.proofs.Seat as rule
use Rattle.overlay_rules.proofs.SeatStep.{new_lists}
use Rattle.ring_laws.proofs.Leases.{lease_on, end_in, new_lease, unless_some, lease_on-without, lease_on-but, lease_on-confirmed, lease_on-new, gate_on_some}
use Rattle.ring_laws.proofs.Grants.{PhaseKept, Brings, kept_then, kept_at, on_some, HasBoth, both_had}
use Rattle.wire_msg.specs.declared.reply.Reply.TheVariants as reply
use Rattle.table_laws.proofs.Slots.{held, same-is}
use Rattle.table_laws.proofs.Tables.{AllQuiet}
use Rattle.table_laws.proofs.FileRules.{each_quiet}

-- ---- the files of a gap

first_has : (f : FileId) (fs : List FileId) → Contains (f ∷ fs) f
first_has f fs = (0, omega arith, refl)

later_has : (g f : FileId) (fs : List FileId) → Contains fs f → Contains (g ∷ fs) f
later_has g f fs c = let lt = c.1 in (suc c.0, omega arith, c.2)

-- the files of the entries that pass a test: those of a kind of slot in a gap
abbrev named : (Held → Bool) → List Held → List FileId
named test hs = map (λ h. h.file) (filter test hs)

named_first : (test : Held → Bool) (h : Held) (hs : List Held) (f : FileId) → h.file ≡ f → test h ≡ true → Contains (named test (h ∷ hs)) f
named_first test h hs f e t = subst (λ xs. Contains (map (λ (h : Held). h.file) xs) f) (sym (cond-true (test h) (h ∷ filter test hs) (filter test hs) t))
    (subst (Contains (h.file ∷ named test hs)) e (first_has h.file (named test hs)))

named_later : (test : Held → Bool) (h : Held) (hs : List Held) (f : FileId) → Contains (named test hs) f → Contains (named test (h ∷ hs)) f
named_later test h hs f c = cond_both (test h) (h ∷ filter test hs) (filter test hs) (λ xs. Contains (map (λ (h : Held). h.file) xs) f)
    (λ _. later_has h.file f (named test hs) c) (λ _. c)

named_has : (test : Held → Bool) (hs : List Held) (f : FileId) (s : Slot) → slot_of hs f ≡ Some s → test (held f s) ≡ true → Contains (named test hs) f
named_has test [] f s e t = cc
named_has test (h ∷ hs) f s e t =
    elim (cases_Bool (same_bytes h.file f)) [
      | inl d ↦
          let file : h.file ≡ f = same-is h.file f d in
          let found : Some h.slot ≡ Some s = sym (cond-true (same_bytes h.file f) (Some h.slot) (slot_of hs f) d) ∙ e in
          let slot : h.slot ≡ s = cc in
          named_first test h hs f file (subst (λ (k : Held). test k ≡ true) (λ j. record { file = sym file j; slot = sym slot j }) t)
      | inr d ↦ named_later test h hs f (named_has test hs f s (sym (cond-false (same_bytes h.file f) (Some h.slot) (slot_of hs f) d) ∙ e) t)
    ]

-- what holds of each entry holds of those that pass
named_each : (P : Held → Type 0) (Q : FileId → Type 0) (test : Held → Bool) (hs : List Held) → ((h : Held) → test h ≡ true → P h → Q h.file) → Each P hs →
    Each Q (named test hs)
named_each P Q test [] f h = tt
named_each P Q test (x ∷ hs) f h =
    cond_both (test x) (x ∷ filter test hs) (filter test hs) (λ xs. Each Q (map (λ (h : Held). h.file) xs)) (λ t. (f x t h.0, named_each P Q test hs f h.1))
    (λ _. named_each P Q test hs f h.1)

manifest_has : (r : Reach) (j : Id) (hs : List Held) (f : FileId) (b : Content) → slot_of hs f ≡ Some (Some b) → in_gap_of r j (key_of f) ≡ true →
    Contains (files_in_gap r j hs) f
manifest_has r j hs f b e k = named_has (λ h. is_some h.slot && is_in_gap r j h) hs f (Some b) e k

tombs_have : (r : Reach) (j : Id) (hs : List Held) (f : FileId) → slot_of hs f ≡ Some None → in_gap_of r j (key_of f) ≡ true → Contains (tombs_in_gap r j hs) f
tombs_have r j hs f e k = named_has (λ h. is_none h.slot && is_in_gap r j h) hs f None e k

tomb_entry : (P : Held → Type 0) (h : Held) (b : Bool) → is_none h.slot && b ≡ true → P h → P (held h.file None)
tomb_entry P h b t p = by h.slot refl where
  by : (s : Slot) → h.slot ≡ s → P (held h.file None)
  by None e = subst P (λ j. record { file = h.file; slot = e j }) p
  by (Some bytes) e = let no' : is_none h.slot ≡ false = ap is_none e in let yes' = (and_parts (is_none h.slot) b t).0 in cc

tombs_each : (P : Held → Type 0) (r : Reach) (j : Id) (hs : List Held) → Each P hs → Each (λ f. P (held f None)) (tombs_in_gap r j hs)
tombs_each P r j hs h = named_each P (λ f. P (held f None)) (λ k. is_none k.slot && is_in_gap r j k) hs (λ k t p. tomb_entry P k (is_in_gap r j k) t p) h

-- ---- a new lease

-- what a filter leaves passes its test
pub filtered : (test : Pending → Bool) (ps : List Pending) → Each (λ p. test p ≡ true) (filter test ps)
filtered test [] = tt
filtered test (p ∷ ps) = cond_both (test p) _ _ (Each (λ q. test q ≡ true)) (λ e. (e, filtered test ps)) (λ _. filtered test ps)

-- the lists of a new lease are of the files in its joiner's gap, as the state is once it stands; P holds of each entry
pub record IsNew (P : Held → Type 0) (s : State) (o : Outcome) (lease : Lease) : Type 0 where
  pub attempt : Attempt
  pub left : Id
  pub right : Id
  pub phase : o.state.phase ≡ Ready attempt left right
  pub was : s.phase ≡ Ready attempt left right
  pub manifest : (f : FileId) (b : Content) → slot_of s.files f ≡ Some (Some b) → in_gap_of (reach o.state left right) lease.gate.joiner (key_of f) ≡ true →
      Contains lease.lists.manifest f
  pub tombs : (f : FileId) → slot_of s.files f ≡ Some None → in_gap_of (reach o.state left right) lease.gate.joiner (key_of f) ≡ true →
      Contains lease.lists.tombs f
  pub buried : Each (λ f. P (held f None)) lease.lists.tombs
  pub quiet : AllQuiet o.notes
  pub spares : Each (λ (p : Pending). in_gap_of (reach o.state left right) lease.gate.joiner (key_of p.file) ≡ false) o.state.pending

pub data LeaseRule (P : Held → Type 0) (right : Bool) (s : State) (o : Outcome) (lease : Lease) : Type 0 where
  stood : lease_on right s ≡ Some lease → LeaseRule P right s o lease
  is_new : IsNew P s o lease → LeaseRule P right s o lease

-- coverage reads no lists
no_lists : (side : Bool) (g : Gate) (x y : Lists) (old : Option Lease) →
    joiner_of (gate_on side (new_lease g x) old) ≡ joiner_of (gate_on side (new_lease g y) old)
no_lists true g x y old = refl
no_lists false g x y old = refl

pub gated_is : (c t : State) (x y : Id) (g : Gate) (lists : Lists) → t.me ≡ c.me →
    t.left_gate ≡ (with_lease c g lists).left_gate → t.right_gate ≡ (with_lease c g lists).right_gate → reach t x y ≡ gated_reach c x y g
gated_is c t x y g lists m e f = λ i. record {
  me = m i;
  left = x;
  right = y;
  left_joiner = (ap joiner_of e ∙ no_lists (c.me == g.right) g lists (record { manifest = []; tombs = [] }) c.left_gate) i;
  right_joiner = (ap joiner_of f ∙ no_lists (c.me == g.left) g lists (record { manifest = []; tombs = [] }) c.right_gate) i;
}

-- a gate is newly opened where the joiner's older ones are gone: c is the state before, its files those of s
module _ (P : Held → Type 0) (s c : State) (b : Attempt) (x y : Id) (g : Gate) (same : c.files ≡ s.files) (was : c.phase ≡ Ready b x y) where
  abbrev gated : Reach
  gated = gated_reach c x y g

  abbrev opens : Outcome
  opens = newly_gated c x y g

  abbrev lists : Lists
  lists = new_lists c x y g

  -- inserts that wait in the gap are over
  spared : Each (λ (p : Pending). in_gap_of gated g.joiner (key_of p.file) ≡ false) opens.state.pending
  spared = Each-weaker (λ p. not (is_left_to gated g.joiner p) ≡ true) (λ (p : Pending). in_gap_of gated g.joiner (key_of p.file) ≡ false) opens.state.pending
      (λ p e. off (in_gap_of gated g.joiner (key_of p.file)) e) (filtered (λ p. not (is_left_to gated g.joiner p)) c.pending) where
        off : (b : Bool) → not b ≡ true → b ≡ false
        off true d = cc
        off false d = refl

  quiet : AllQuiet opens.notes
  quiet = record { each = each_quiet s Noise [] _ (reply.Busy c.me g.joiner) (filter (is_left_to gated g.joiner) c.pending) }

  is_reach : reach opens.state x y ≡ gated
  is_reach = gated_is c opens.state x y g lists refl refl refl

  new_is : s.phase ≡ Ready b x y → Each P s.files → IsNew P s opens (new_lease g lists)
  new_is ready h = record {
    attempt = b;
    left = x;
    right = y;
    phase = was;
    was = ready;
    manifest = λ f bytes e k. manifest_has gated g.joiner c.files f bytes (ap (λ hs. slot_of hs f) same ∙ e)
        (subst (λ q. in_gap_of q g.joiner (key_of f) ≡ true) is_reach k);
    tombs = λ f e k. tombs_have gated g.joiner c.files f (ap (λ hs. slot_of hs f) same ∙ e) (subst (λ q. in_gap_of q g.joiner (key_of f) ≡ true) is_reach k);
    buried = tombs_each P gated g.joiner c.files (subst (Each P) (sym same) h);
    quiet = quiet;
    spares = subst (λ q. Each (λ (p : Pending). in_gap_of q g.joiner (key_of p.file) ≡ false) opens.state.pending) (sym is_reach) spared;
  }

stands_still : (P : Held → Type 0) (right : Bool) (s : State) (o : Outcome) (lease : Lease) → o.state.left_gate ≡ s.left_gate →
    o.state.right_gate ≡ s.right_gate → lease_on right o.state ≡ Some lease → LeaseRule P right s o lease
stands_still P right s o lease e f at = stood (sym (lease_on-but s o.state e f right) ∙ at)

left_over : (P : Held → Type 0) (right : Bool) (test : Gate → Bool) (s : State) (o : Outcome) (lease : Lease) →
    lease_on right o.state ≡ lease_on right (without_gates test s) → lease_on right o.state ≡ Some lease → LeaseRule P right s o lease
left_over P right test s o lease e at = stood (unless_some test (lease_on right s) lease (sym (lease_on-without test s right) ∙ (sym e ∙ at))).0

pub seat_leases : (P : Held → Type 0) (right : Bool) (s : State) (i : Input) (o : Outcome) → Seat s i o → Each P s.files → (lease : Lease) →
    lease_on right o.state ≡ Some lease → LeaseRule P right s o lease
seat_leases P right _ _ _ (rule.serves s i o e f g q) h lease at = stands_still P right s o lease e.left_gate e.right_gate at
seat_leases P right _ _ _ (rule.grant_readies s t from a m l r fl fr left right' manifest tombs e f g k i) h lease at =
    stands_still P right s _ lease (ap (λ (u : State). u.left_gate) f) (ap (λ (u : State). u.right_gate) f) at
seat_leases P right _ _ _ (rule.lease_busy s from a l r b x y j e f) h lease at = left_over P right (is_older from a) s _ lease refl at
seat_leases P right _ _ _ (rule.lease_moved s from a l r b x y e) h lease at = left_over P right (is_older from a) s _ lease refl at
seat_leases P right _ _ _ (rule.lease_new s from a l r b x y e f g) h lease at =
    elim (gate_on_some (c.me == end_in (not right) asked) (new_lease asked lists) (lease_on right c) lease (sym (gates right) ∙ at)) [
      | inl (here, is) ↦ subst (LeaseRule P right s opens) is (is_new (new_is P s c b x y asked refl e e h))
      | inr (other, was) ↦ stood (unless_some (is_older from a) (lease_on right s) lease (sym (lease_on-without (is_older from a) s right) ∙ was)).0
    ] where
      c : State
      c = cleared s from a

      asked : Gate
      asked = asked_for from a l r

      opens : Outcome
      opens = newly_gated c x y asked

      lists : Lists
      lists = new_lists c x y asked

      gates : (right : Bool) → lease_on right opens.state ≡ gate_on (c.me == end_in (not right) asked) (new_lease asked lists) (lease_on right c)
      gates right = lease_on-but (with_lease c asked lists) opens.state refl refl right ∙ lease_on-new c asked lists right
seat_leases P right _ _ _ (rule.released s from a) h lease at = left_over P right (is_of from a) s _ lease refl at
seat_leases P right _ _ _ (rule.confirms s from a b x y e f) h lease at =
    stood (unless_some (is_of from a) (lease_on right s) lease (sym (lease_on-confirmed s from a b x y right) ∙ at)).0
seat_leases P right s _ _ m h lease at = stands_still P right s _ lease refl refl at

-- ---- who becomes ready

-- as `Becomes` of the ring laws, with what the ready test found
pub data Fills (F : Id → State) (i : Id) (s : State) (o : Outcome) : Type 0 where
  is_same : is_ready o.state.phase ≡ is_ready s.phase → Fills F i s o
  fills : (has : HasBoth F i s) → o.state.phase ≡ Ready has.attempt has.left has.right → has_all o.state has.left_lists ≡ true →
      has_all o.state has.right_lists ≡ true →
      Fills F i s o

both_unready : (F : Id → State) (i : Id) (s : State) (o : Outcome) (p : Phase) → s.phase ≡ p → is_ready p ≡ false → is_ready o.state.phase ≡ false →
    Fills F i s o
both_unready F i s o p e f g = is_same (g ∙ sym (ap is_ready e ∙ f))

pub seat_fills : (F : Id → State) (i : Id) (s : State) (j : Input) (o : Outcome) → Seat s j o → Brings F i s.phase j → PhaseKept F i s.phase → Fills F i s o
seat_fills F i _ _ _ (rule.serves s j o e f g q) b h = is_same (ap is_ready e.phase)
seat_fills F i _ _ _ (rule.begins s n via a e f) b h = both_unready F i s _ _ e refl refl
seat_fills F i _ _ _ (rule.stops_asking s n a m e) b h = both_unready F i s _ _ e refl refl
seat_fills F i _ _ _ (rule.stops_probing s n a m probed e) b h = both_unready F i s _ _ e refl refl
seat_fills F i _ _ _ (rule.stops_leasing s n a m l r fl fr e) b h = both_unready F i s _ _ e refl refl
seat_fills F i _ _ _ (rule.refused s from a m w e) b h = both_unready F i s _ _ e refl refl
seat_fills F i _ _ _ (rule.probes s from a m heard known y ys e f g) b h = both_unready F i s _ _ e refl refl
seat_fills F i _ _ _ (rule.probes_on s from a m heard known old probed new e f g k) b h = both_unready F i s _ _ e refl refl
seat_fills F i _ _ _ (rule.leases s from a m heard known old e f) b h = both_unready F i s _ _ e refl refl
seat_fills F i _ _ _ (rule.denied s from a m l r fl fr w e) b h = both_unready F i s _ _ e refl refl
seat_fills F i _ _ _ (rule.grant_kept s from a m l r fl fr manifest tombs e w) b h = both_unready F i s _ _ e refl refl
seat_fills F i _ _ _ (rule.grant_readies s t from a m l r fl fr left right manifest tombs e f g k w) b h =
    let kept = kept_then F i s.phase from a m l r fl fr (record { manifest = manifest; tombs = tombs }) e b h in
    let all = and_parts (has_all t left) (has_all t right) w in
    fills (both_had F i s a m l r fl fr left right e (on_some _ _ left kept.0 g, on_some _ _ right kept.1 k)) refl all.0 all.1
seat_fills F i _ _ _ (rule.file_readies s from a m l r left right file bytes e f g k) b h =
    let kept = kept_at F i s.phase (Leasing a m l r (Some left) (Some right)) h e in
    let all = and_parts _ _ k in fills (both_had F i s a m l r (Some left) (Some right) left right e kept) refl all.0 all.1
seat_fills F i _ _ _ (rule.confirms s from a c x y e f) b h = is_same (sym (ap is_ready e))
seat_fills F i s _ _ m b h = is_same refl
