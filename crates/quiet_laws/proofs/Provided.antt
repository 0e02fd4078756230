-- What a joiner takes over is with it: each file of a manifest that it was or will be granted has an entry at it, or is on its way to it as a Handover,
-- or its store is full.
use Rattle.std.proofs.Common.{◌≡◌, ◌⊎◌, inl, inr, ◌≤◌, Bool, true, false, ◌&&◌, ◌==◌, Option, Some, None, is_some, List, [], ◌∷◌}
use Rattle.std.proofs.Common.{map, filter, length, refl, sym, subst, ap, ◌∙◌, arith}
use Rattle.std.proofs.lemmas.Bool.{cond_both, cond-true, cond-false, and_parts}
use Rattle.ring_math.specs.Names.{Id, FileId, Content, Attempt}
use Rattle.ring_math.specs.Bytewise.{same_bytes, is_before}
use Rattle.ring_math.specs.Files.{Slot, slot_of, with_slot, has_room, buried_at, buried, buried_all}
use Rattle.ring_math.specs.declared.file.Held.{Held}
use Rattle.coverage.specs.declared.Reach.{Reach}
use Rattle.coverage.specs.GapFiles.{Lists, is_in_gap, files_in_gap}
use Rattle.wire_msg.specs.Words.{Handover}
use Rattle.overlay_rules.specs.declared.gate.Gate.{Gate}
use Rattle.overlay_rules.specs.State.{State, Lease, Phase, Waiting, Asking, Probing, Leasing, Ready}
use Rattle.overlay_rules.specs.Outcome.{Outcome, Input, Comes, Sent}
use Rattle.overlay_rules.specs.Replicas.{holding, handover_at}
use Rattle.overlay_rules.specs.ReadyTest.{ready_test_in, has_all}
use Rattle.overlay_rules.specs.Gates.{asked_for, is_older, gate_on}
use Rattle.overlay_rules.specs.Gatekeeper.{cleared, unless_lease, handovers, with_handover, granted, gated_reach, newly_gated}
use Rattle.overlay_rules.specs.Step.{step}
use Rattle.overlay_rules.proofs.Each.{Each, Each-both, Each-weaker}
use Rattle.overlay_rules.proofs.Seat.{Seat}
use Rattle.overlay_rules.proofs.Seat as rule
use Rattle.overlay_rules.proofs.SeatStep.{new_lists}
use Rattle.ring_laws.proofs.Leases.{lease_on}
use Rattle.table_laws.proofs.Slots.{Lasts, Lasts-buried_all, same-itself, same-other, slot-itself}
use Rattle.table_laws.proofs.FileRules.{FileRule, same, accepts, reclaims, puts, buries}
use Rattle.table_laws.proofs.Rising.{IsRising, before-differs}
use Rattle.quiet_laws.proofs.Has.{Has, Has-left}
use Rattle.quiet_laws.proofs.Full.{longer, no_room}

-- the file is handed to j by one of these
abbrev pub HandsOver : Id → FileId → Sent → Type 0
HandsOver j f m = (m.receiver ≡ j) × ((b : Content) × (m.message ≡ Handover f b))

-- ---- a Handover that comes

tested_files : (t : State) (p : Phase) → (ready_test_in t p).state.files ≡ t.files
tested_files t (Leasing a n l r (Some gl) (Some gr)) =
    cond_both (has_all t gl && has_all t gr) _ _ (λ (o : Outcome). o.state.files ≡ t.files) (λ _. refl) (λ _. refl)
tested_files t (Leasing a n l r (Some gl) None) = refl
tested_files t (Leasing a n l r None gr) = refl
tested_files t (Waiting a) = refl
tested_files t (Asking a n) = refl
tested_files t (Probing a n probed) = refl
tested_files t (Ready a l r) = refl

-- an entry stands for the file, or there is no room for one
abbrev pub IsTaken : List Held → FileId → Type 0
IsTaken files f = ((s : Slot) × (slot_of files f ≡ Some s)) ⊎ (has_room files ≡ false)

pub handover_taken : (s : State) (from : Id) (f : FileId) (b : Content) → IsTaken (step s (Comes from (Handover f b))).state.files f
handover_taken s from f b = by (slot_of s.files f) refl where
  by : (h : Option Slot) → slot_of s.files f ≡ h → IsTaken (handover_at s f b h).state.files f
  by None at = cond_both (has_room s.files) _ _ (λ (o : Outcome). IsTaken o.state.files f)
      (λ _. inl (Some b, ap (λ hs. slot_of hs f) (tested_files (holding s f b) s.phase) ∙ slot-itself s.files f (Some b))) (λ e. inr e)
  by (Some slot) at = inl (slot, at)

-- ---- a store that is full stays so

longer_buried : (hs : List Held) (f : FileId) (o : Option Slot) → length hs ≤ length (buried_at hs f o)
longer_buried hs f None = cond_both (has_room hs) (with_slot hs f None) hs (λ zs. length hs ≤ length zs) (λ _. longer hs f None) (λ _. omega arith)
longer_buried hs f (Some s) = longer hs f None

longer_buried_all : (hs : List Held) (tombs : List FileId) → length hs ≤ length (buried_all hs tombs)
longer_buried_all hs [] = omega arith
longer_buried_all hs (f ∷ fs) =
    let first = longer_buried hs f (slot_of hs f) in let rest = longer_buried_all (buried hs f) fs in omega arith

pub rule_no_room : (s : State) (i : Input) (o : Outcome) → FileRule s i o → has_room s.files ≡ false → has_room o.state.files ≡ false
rule_no_room _ _ _ (same s i o d q) h = subst (λ hs. has_room hs ≡ false) (sym d) h
rule_no_room _ _ _ (accepts s i o from n f copies b rest req here none room d noted q) h =
    subst (λ hs. has_room hs ≡ false) (sym d) (no_room s.files (with_slot s.files f (Some b)) (longer s.files f (Some b)) h)
rule_no_room _ _ _ (reclaims s i o from n f b rest req here at d noted q) h =
    subst (λ hs. has_room hs ≡ false) (sym d) (no_room s.files (with_slot s.files f None) (longer s.files f None) h)
rule_no_room _ _ _ (puts s i o f b c none room d q) h =
    subst (λ hs. has_room hs ≡ false) (sym d) (no_room s.files (with_slot s.files f (Some b)) (longer s.files f (Some b)) h)
rule_no_room _ _ _ (buries s o from a manifest tombs d q) h =
    subst (λ hs. has_room hs ≡ false) (sym d) (no_room s.files (buried_all s.files tombs) (longer_buried_all s.files tombs) h)

-- ---- tombs that are buried

abbrev pub IsBuried : List Held → FileId → Type 0
IsBuried files f = (slot_of files f ≡ Some None) ⊎ (has_room files ≡ false)

buried_one : (hs : List Held) (f : FileId) → IsBuried (buried hs f) f
buried_one hs f = by (slot_of hs f) where
  by : (o : Option Slot) → IsBuried (buried_at hs f o) f
  by None = cond_both (has_room hs) (with_slot hs f None) hs (λ zs. IsBuried zs f) (λ _. inl (slot-itself hs f None)) (λ e. inr e)
  by (Some s) = inl (slot-itself hs f None)

pub buried_lasts : (xs ys : List Held) (f : FileId) → Lasts xs ys → (has_room xs ≡ false → has_room ys ≡ false) → IsBuried xs f → IsBuried ys f
buried_lasts xs ys f l r (inl tomb) = elim (l.lasts f None tomb) [ inl e ↦ inl e | inr e ↦ inl e ]
buried_lasts xs ys f l r (inr full) = inr (r full)

pub buried_each : (hs : List Held) (tombs : List FileId) → Each (IsBuried (buried_all hs tombs)) tombs
buried_each hs [] = tt
buried_each hs (f ∷ fs) = (
  buried_lasts (buried hs f) (buried_all (buried hs f) fs) f (Lasts-buried_all (buried hs f) fs)
      (no_room (buried hs f) (buried_all (buried hs f) fs) (longer_buried_all (buried hs f) fs)) (buried_one hs f),
  buried_each (buried hs f) fs,
)

-- ---- what goes with a new lease

-- each entry is what stands for its file
stands : (hs : List Held) → IsRising hs → Each (λ (h : Held). slot_of hs h.file ≡ Some h.slot) hs
stands [] r = tt
stands (h ∷ hs) r = (
  cond-true (same_bytes h.file h.file) (Some h.slot) (slot_of hs h.file) (same-itself h.file),
  Each-both (λ (k : Held). is_before h.file k.file ≡ true) (λ (k : Held). slot_of hs k.file ≡ Some k.slot)
      (λ (k : Held). slot_of (h ∷ hs) k.file ≡ Some k.slot) hs
      (λ k b e. cond-false (same_bytes h.file k.file) (Some h.slot) (slot_of hs k.file) (same-other h.file k.file (λ d. before-differs h.file k.file b (sym d)))
      ∙ e) r.0 (stands hs r.1),
)

-- bytes stand for the file
abbrev HasBytes : List Held → FileId → Type 0
HasBytes files f = (b : Content) × (slot_of files f ≡ Some (Some b))

listed_bytes : (r : Reach) (j : Id) (files hs : List Held) → Each (λ (h : Held). slot_of files h.file ≡ Some h.slot) hs →
    Each (HasBytes files) (files_in_gap r j hs)
listed_bytes r j files [] k = tt
listed_bytes r j files (h ∷ hs) k =
    cond_both (is_some h.slot && is_in_gap r j h) (h ∷ filter (λ k. is_some k.slot && is_in_gap r j k) hs) (filter (λ k. is_some k.slot && is_in_gap r j k) hs)
    (λ zs. Each (HasBytes files) (map (λ (k : Held). k.file) zs))
    (λ e. (bytes h.slot k.0 (and_parts (is_some h.slot) (is_in_gap r j h) e).0, listed_bytes r j files hs k.1)) (λ _. listed_bytes r j files hs k.1) where
      bytes : (s : Slot) → slot_of files h.file ≡ Some s → is_some s ≡ true → HasBytes files h.file
      bytes (Some b) e t = (b, e)
      bytes None e t = cc

-- each file that has bytes is handed over
handed_first : (to : Id) (f : FileId) (files : List Held) (b : Content) (rest : List Sent) → slot_of files f ≡ Some (Some b) →
    Has (HandsOver to f) (with_handover to f (slot_of files f) rest)
handed_first to f files b rest e = subst (λ o. Has (HandsOver to f) (with_handover to f o rest)) (sym e) (inl (refl, (b, refl)))

handed_later : (to : Id) (f g : FileId) (o : Option Slot) (rest : List Sent) → Has (HandsOver to g) rest → Has (HandsOver to g) (with_handover to f o rest)
handed_later to f g (Some (Some b)) rest h = inr h
handed_later to f g (Some None) rest h = h
handed_later to f g None rest h = h

handed : (to : Id) (files : List Held) (fs : List FileId) → Each (HasBytes files) fs → Each (λ f. Has (HandsOver to f) (handovers to files fs)) fs
handed to files [] h = tt
handed to files (f ∷ fs) h = (
  handed_first to f files h.0.0 (handovers to files fs) h.0.1,
  Each-weaker (λ g. Has (HandsOver to g) (handovers to files fs)) (λ g. Has (HandsOver to g) (handovers to files (f ∷ fs))) fs
      (λ g k. handed_later to f g (slot_of files f) (handovers to files fs) k) (handed to files fs h.1),
)

-- each file of these lists is handed to j by the outcome
abbrev pub AllHanded : Id → List FileId → Outcome → Type 0
AllHanded j manifest o = Each (λ f. Has (HandsOver j f) o.sends) manifest

-- ---- leases

still_lease : (test : Gate → Bool) (o : Option Lease) (lease : Lease) → unless_lease test o ≡ Some lease → o ≡ Some lease
still_lease test None lease = λ e. e
still_lease test (Some g) lease = cond_both (test g.gate) None (Some g) (λ z. z ≡ Some lease → Some g ≡ Some lease) (λ _ e. cc) (λ _ e. e)

still_on : (test : Gate → Bool) (right : Bool) (s t : State) (lease : Lease) → t.left_gate ≡ unless_lease test s.left_gate →
    t.right_gate ≡ unless_lease test s.right_gate → lease_on right t ≡ Some lease → lease_on right s ≡ Some lease
still_on test true s t lease e f h = still_lease test s.right_gate lease (sym f ∙ h)
still_on test false s t lease e f h = still_lease test s.left_gate lease (sym e ∙ h)

same_on : (right : Bool) (s t : State) → t.left_gate ≡ s.left_gate → t.right_gate ≡ s.right_gate → lease_on right t ≡ lease_on right s
same_on true s t e f = f
same_on false s t e f = e

-- the files of a new lease
new_handed : (s : State) (from : Id) (a : Attempt) (x y : Id) (g : Gate) → IsRising s.files → g.joiner ≡ from →
    AllHanded from (new_lists (cleared s from a) x y g).manifest (newly_gated (cleared s from a) x y g)
new_handed s from a x y g r e =
    Each-weaker (λ f. Has (HandsOver from f) (handovers g.joiner s.files lists.manifest))
    (λ f. Has (HandsOver from f) (newly_gated (cleared s from a) x y g).sends)
    lists.manifest (λ f k. Has-left (HandsOver from f) (granted g.joiner g.attempt lists s.files) _ (inr k))
    (subst (λ j. Each (λ f. Has (HandsOver from f) (handovers j s.files lists.manifest)) lists.manifest) (sym e)
    (handed from s.files lists.manifest (listed_bytes (gated_reach (cleared s from a) x y g) g.joiner s.files s.files (stands s.files r)))) where
      lists : Lists
      lists = new_lists (cleared s from a) x y g

gate_case : (side : Bool) (new : Lease) (old : Option Lease) (lease : Lease) → gate_on side new old ≡ Some lease → (old ≡ Some lease) ⊎ (new ≡ lease)
gate_case true new old lease e = inr (some_is e) where
  some_is : Some new ≡ Some lease → new ≡ lease
  some_is d = cc
gate_case false new old lease e = inl e

new_lease_handed : (s : State) (from : Id) (a : Attempt) (x y : Id) (g : Gate) → g.joiner ≡ from → IsRising s.files →
    (side : Bool) (old : Option Lease) (lease : Lease) →
    gate_on side (record { gate = g; lists = new_lists (cleared s from a) x y g }) (unless_lease (is_older from a) old) ≡ Some lease →
    (old ≡ Some lease) ⊎ AllHanded lease.gate.joiner lease.lists.manifest (newly_gated (cleared s from a) x y g)
new_lease_handed s from a x y g e r side old lease h =
    elim (gate_case side (record { gate = g; lists = new_lists (cleared s from a) x y g }) (unless_lease (is_older from a) old) lease h) [
      | inl was ↦ inl (still_lease (is_older from a) old lease was)
      | inr is ↦ inr (subst (λ (z : Lease). AllHanded z.gate.joiner z.lists.manifest (newly_gated (cleared s from a) x y g)) is
          (subst (λ j. AllHanded j (new_lists (cleared s from a) x y g).manifest (newly_gated (cleared s from a) x y g)) (sym e)
          (new_handed s from a x y g r e)))
    ]

-- a lease that stands afterwards stood, or all its files are handed to its joiner now
pub seat_handed : (right : Bool) (s : State) (i : Input) (o : Outcome) → Seat s i o → IsRising s.files → (lease : Lease) → lease_on right o.state ≡ Some lease →
    (lease_on right s ≡ Some lease) ⊎ AllHanded lease.gate.joiner lease.lists.manifest o
seat_handed right _ _ _ (rule.serves s i o e f g q) r lease h = inl (sym (same_on right s o.state e.left_gate e.right_gate) ∙ h)
seat_handed right _ _ _ (rule.grant_readies s t from b m x y fl fr left rights manifest tombs e f g k i) r lease h =
    inl (sym (same_on right s t (ap (λ (u : State). u.left_gate) f) (ap (λ (u : State). u.right_gate) f)) ∙ at right h) where
      at : (side : Bool) → lease_on side (record t { phase = Ready b x y }) ≡ Some lease → lease_on side t ≡ Some lease
      at true e = e
      at false e = e
seat_handed right _ _ _ (rule.lease_busy s from a l r' b x y j e f) r lease h = inl (still_on _ right s _ lease refl refl h)
seat_handed right _ _ _ (rule.lease_moved s from a l r' b x y e) r lease h = inl (still_on _ right s _ lease refl refl h)
seat_handed right _ _ _ (rule.released s from a) r lease h = inl (still_on _ right s _ lease refl refl h)
seat_handed right _ _ _ (rule.confirms s from a b x y e f) r lease h = inl (still_on _ right s _ lease refl refl h)
seat_handed true _ _ _ (rule.lease_new s from a l r' b x y e f g) r lease h =
    new_lease_handed s from a x y (asked_for from a l r') refl r (s.me == l) s.right_gate lease h
seat_handed false _ _ _ (rule.lease_new s from a l r' b x y e f g) r lease h =
    new_lease_handed s from a x y (asked_for from a l r') refl r (s.me == r') s.left_gate lease h
seat_handed true s _ _ m r lease h = inl h
seat_handed false s _ _ m r lease h = inl h
