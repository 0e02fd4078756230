-- The ring of the ready nodes from step to step: its start, a step at which nobody becomes ready, and one at which one node does.
-- So an induction over histories has to show no more than what its step makes of each side.
use Rattle.std.proofs.Common.{◌≡◌, ◌≢◌, ℕ, Bool, true, false, not, ◌^◌, ◌<◌, ◌≤◌, ◌⊎◌, Some, None, refl, sym, ◌∙◌, ap, subst, arith, inl, inr}
use Rattle.std.proofs.lemmas.Bool.{cases_eq, cases_Bool}
use Rattle.std.proofs.lemmas.Option.{same_Some}
use Rattle.ring_math.specs.Members.{IsClosest, with}
use Rattle.coverage.specs.declared.Reach.{Reach}
use Rattle.coverage.specs.Coverage.{covers_of}
use Rattle.coverage.specs.Links.{IsNext, stands, members, Lease, Side, HasGate, HasSide, IsRing, KeepsFor, reach_of}
use Rattle.coverage.proofs.Ways.{next_same, next_alone}
use Rattle.coverage.proofs.Added.{InRing-with, added_next, added_from, added_other, one_holder}
use Rattle.coverage.proofs.Owner.{IsEnded, EndsRight, Owns, covers, keeps, covers_closest, one_covers, closest_owns, gap_closest}
use Rattle.coverage.proofs.Gates.{StaysSame, side_ends, side_free, side_stays}

-- ---- one owner over the ring

reach_ends : (right : Bool) (P : ℕ → Type 0) (attempt_of : ℕ → ℕ) (sides : ℕ → Bool → Side) (x : ℕ) → ((j : ℕ) → P j ⊎ (P j → ⊥)) →
    IsRing P attempt_of sides → P x → EndsRight right P x (reach_of x (sides x))
reach_ends true P attempt_of sides x member ring px = side_ends true P attempt_of x (reach_of x (sides x))
    (sides x true) member ring.in_ring px refl refl refl (ring.side true x px)
reach_ends false P attempt_of sides x member ring px = side_ends false P attempt_of x (reach_of x (sides x))
    (sides x false) member ring.in_ring px refl refl refl (ring.side false x px)

pub ring-ended : (P : ℕ → Type 0) (attempt_of : ℕ → ℕ) (sides : ℕ → Bool → Side) (x : ℕ) → ((j : ℕ) → P j ⊎ (P j → ⊥)) → IsRing P attempt_of sides →
    P x → IsEnded P x (reach_of x (sides x))
ring-ended P attempt_of sides x member ring px = record { me = refl; side = λ right. reach_ends right P attempt_of sides x member ring px }

pub is_member : (test : ℕ → Bool) (j : ℕ) → members test j ⊎ (members test j → ⊥)
is_member test j = elim (cases_Bool (test j)) [ inl a ↦ inl a | inr b ↦ inr (λ a. cc) ]

pub ring_one : (ready : ℕ → Bool) (attempt_of : ℕ → ℕ) (sides : ℕ → Bool → Side) (x y key : ℕ) →
    IsRing (members ready) attempt_of sides → key < 2 ^ 128 → members ready x → members ready y → covers_of (reach_of x (sides x)) key ≡ true →
    covers_of (reach_of y (sides y)) key ≡ true → x ≡ y
ring_one ready attempt_of sides x y key ring hk px py cx cy =
    one_covers (members ready) x y key (reach_of x (sides x)) (reach_of y (sides y)) ring.in_ring hk px py
    (ring-ended (members ready) attempt_of sides x (is_member ready) ring px) (ring-ended (members ready) attempt_of sides y (is_member ready) ring py) cx cy

pub ring_right : (ready : ℕ → Bool) (attempt_of : ℕ → ℕ) (sides : ℕ → Bool → Side) (x key : ℕ) →
    IsRing (members ready) attempt_of sides → key < 2 ^ 128 → members ready x → covers_of (reach_of x (sides x)) key ≡ true → IsClosest (members ready) key x
ring_right ready attempt_of sides x key ring hk px h =
    covers_closest (members ready) x key (reach_of x (sides x)) ring.in_ring hk px (ring-ended (members ready) attempt_of sides x (is_member ready) ring px) h

owned : (P : ℕ → Type 0) (r : Reach) (key : ℕ) → Owns P r key → (covers_of r key ≡ true) ⊎ ((j : ℕ) × KeepsFor P r key j)
owned P r key (covers h) = inl h
owned P r key (keeps j h) = inr (j, h)

pub ring_owned : (ready : ℕ → Bool) (attempt_of : ℕ → ℕ) (sides : ℕ → Bool → Side) (x key : ℕ) → IsRing (members ready) attempt_of sides →
    key < 2 ^ 128 → IsClosest (members ready) key x →
    (covers_of (reach_of x (sides x)) key ≡ true) ⊎ ((j : ℕ) × KeepsFor (members ready) (reach_of x (sides x)) key j)
ring_owned ready attempt_of sides x key ring hk c =
    owned (members ready) (reach_of x (sides x)) key
    (closest_owns (members ready) x key (reach_of x (sides x)) ring.in_ring hk
    (ring-ended (members ready) attempt_of sides x (is_member ready) ring c.member) c)

pub ring_kept : (ready : ℕ → Bool) (attempt_of : ℕ → ℕ) (sides : ℕ → Bool → Side) (x j key : ℕ) → IsRing (members ready) attempt_of sides →
    key < 2 ^ 128 →
    members ready x → KeepsFor (members ready) (reach_of x (sides x)) key j → IsClosest (members ready) key x
ring_kept ready attempt_of sides x j key ring hk px h =
    gap_closest (members ready) x j key (reach_of x (sides x)) ring.in_ring hk px h.absent
    (ring-ended (members ready) attempt_of sides x (is_member ready) ring px) h.gap

-- ---- the start, and a step at which nobody becomes a member

pub ring_founded : (P : ℕ → Type 0) (attempt_of : ℕ → ℕ) (sides : ℕ → Bool → Side) (f : ℕ) → f < 2 ^ 128 → P f → ((z : ℕ) → P z → z ≡ f) →
    ((right : Bool) → sides f right ≡ record { link = f; gate = None }) → IsRing P attempt_of sides
ring_founded P attempt_of sides f hf pf only alone = record {
  in_ring = λ x p. rw (only x p) hf;
  side = λ right x p.
      let at_f : HasSide right P attempt_of f (sides f right) =
      subst (HasSide right P attempt_of f) (sym (alone right)) (side_free right P attempt_of f f (next_alone right P f pf only)) in
      subst (λ w. HasSide right P attempt_of w (sides w right)) (sym (only x p)) at_f;
}

-- each side that changes has its facts by the members and attempts before
pub ring_stays : (P Q : ℕ → Type 0) (before after : ℕ → ℕ) (old new : ℕ → Bool → Side) → IsRing P before old → StaysSame P Q before after →
    ((right : Bool) (x : ℕ) → P x → HasSide right P before x (new x right)) → IsRing Q after new
ring_stays P Q before after old new ring st sides = record {
  in_ring = λ x q. ring.in_ring x (st.back x q);
  side = λ right x q. side_stays right P Q before after x (new x right) st (sides right x (st.back x q));
}

-- ---- a step at which i becomes a member

-- `holder right` is the member whose gate on that side is i's; the two stand on either side of i, or are one
pub record Joins (P Q : ℕ → Type 0) (before after : ℕ → ℕ) (sides : ℕ → Bool → Side) (i a : ℕ) (holder : Bool → ℕ) : Type 0 where
  pub bound : i < 2 ^ 128
  pub absent : P i → ⊥
  pub there : (z : ℕ) → with P i z → Q z
  pub back : (z : ℕ) → Q z → with P i z
  pub attempt : after i ≡ a
  pub grows : (z : ℕ) → before z ≤ after z
  pub kept : (z : ℕ) → P z → after z ≡ before z
  pub held : (right : Bool) → P (holder right)
  pub link : (right : Bool) → (sides (holder right) right).link ≡ holder (not right)
  pub gate : (right : Bool) → (sides (holder right) right).gate ≡ Some (record { joiner = i; attempt = a })

-- the holders are neighbours, with i between them
record Between (right : Bool) (P : ℕ → Type 0) (i x y : ℕ) : Type 0 where
  next : IsNext right P x y
  between : stands right x i y ≡ true

between_holders : (right : Bool) {P Q : ℕ → Type 0} {before after : ℕ → ℕ} {sides : ℕ → Bool → Side} {i a : ℕ} {holder : Bool → ℕ} →
    IsRing P before sides → Joins P Q before after sides i a holder → Between right P i (holder right) (holder (not right))
between_holders right {P} {Q} {before} {after} {sides} {i} {a} {holder} ring j =
    let gate = (ring.side right (holder right) (j.held right)).gated (record { joiner = i; attempt = a }) (j.gate right) in
    record {
      next = subst (IsNext right P (holder right)) (j.link right) (gate.before j.absent);
      between = subst (λ y. stands right (holder right) i y ≡ true) (j.link right) gate.between;
    }

next_in : (right : Bool) {P Q : ℕ → Type 0} {before after : ℕ → ℕ} {sides : ℕ → Bool → Side} {i a : ℕ} {holder : Bool → ℕ} (x y : ℕ) →
    Joins P Q before after sides i a holder → IsNext right (with P i) x y → IsNext right Q x y
next_in right {P} {Q} {before} {after} {sides} {i} x y j n = next_same right (with P i) Q x y j.there j.back n

-- a member that is not the holder keeps its neighbour
next_other : (right : Bool) {P Q : ℕ → Type 0} {before after : ℕ → ℕ} {sides : ℕ → Bool → Side} {i a : ℕ} {holder : Bool → ℕ} (x y : ℕ) →
    IsRing P before sides → Joins P Q before after sides i a holder → P x → x ≢ holder right → IsNext right P x y → IsNext right Q x y
next_other right {P} {Q} {before} {after} {sides} {i} {a} {holder} x y ring j px ne n =
    let b = between_holders right ring j in
    next_in right x y j (added_other right P (holder right) (holder (not right)) i x y ring.in_ring j.bound (j.held right) px ne b.next b.between n)

-- who has no gate on that side, or another's, is not the holder
not_holder : (right : Bool) {P Q : ℕ → Type 0} {before after : ℕ → ℕ} {sides : ℕ → Bool → Side} {i a : ℕ} {holder : Bool → ℕ} (x : ℕ) →
    Joins P Q before after sides i a holder → ((sides x right).gate ≡ Some (record { joiner = i; attempt = a }) → ⊥) → x ≢ holder right
not_holder right {P} {Q} {before} {after} {sides} {i} {a} x j other e =
    other (subst (λ w. (sides w right).gate ≡ Some (record { joiner = i; attempt = a })) (sym e) (j.gate right))

-- the gate is i's, with the attempt with which i becomes a member, and it is at the holder
pub record IsHeld (right : Bool) (i a x : ℕ) (holder : Bool → ℕ) (gate : Lease) : Type 0 where
  pub at : x ≡ holder right
  pub is : gate ≡ record { joiner = i; attempt = a }

pub gate_held : (right : Bool) {P Q : ℕ → Type 0} {before after : ℕ → ℕ} {sides : ℕ → Bool → Side} {i a : ℕ} {holder : Bool → ℕ} (x : ℕ) (gate : Lease) →
    IsRing P before sides → Joins P Q before after sides i a holder → P x → (sides x right).gate ≡ Some gate → gate.joiner ≡ i →
    IsHeld right i a x holder gate
gate_held right {P} {Q} {before} {after} {sides} {i} {a} {holder} x gate ring j px e same =
    let mine : Lease = record { joiner = i; attempt = a } in
    let y : ℕ = (sides x right).link in
    let h = (ring.side right x px).gated gate e in
    let b = between_holders right ring j in
    let next : IsNext right P x y = h.before (λ p. j.absent (subst P same p)) in
    let inside : stands right x i y ≡ true = subst (λ k. stands right x k y ≡ true) same h.between in
    let at_holder : x ≡ holder right = one_holder right P x (holder right) y (holder (not right)) i ring.in_ring j.bound j.absent px
    (j.held right) next b.next inside b.between in
    let held : (sides x right).gate ≡ Some mine = subst (λ w. (sides w right).gate ≡ Some mine) (sym at_holder) (j.gate right) in
    record { at = at_holder; is = same_Some gate mine (sym e ∙ held) }

-- the gate of i
gate_joined : (right : Bool) {P Q : ℕ → Type 0} {before after : ℕ → ℕ} {sides : ℕ → Bool → Side} {i a : ℕ} {holder : Bool → ℕ} (x : ℕ) (gate : Lease) →
    IsRing P before sides → Joins P Q before after sides i a holder → P x → (sides x right).gate ≡ Some gate → gate.joiner ≡ i →
    HasGate right Q after x (sides x right).link gate
gate_joined right {P} {Q} {before} {after} {sides} {i} {a} x gate ring j px e same =
    let y : ℕ = (sides x right).link in
    let h = (ring.side right x px).gated gate e in
    let inside : stands right x i y ≡ true = subst (λ k. stands right x k y ≡ true) same h.between in
    let is_mine = (gate_held right x gate ring j px e same).is in
    let attempt : after gate.joiner ≡ gate.attempt = ap after same ∙ j.attempt ∙ sym (ap (λ (w : Lease). w.attempt) is_mine) in
    let next : IsNext right Q x i = next_in right x i j (added_next right P x y i ring.in_ring j.bound px (h.before (λ p. j.absent (subst P same p))) inside) in
    record {
      bound = h.bound;
      between = h.between;
      attempt = omega arith;
      before = λ n. absurd (n (subst Q (sym same) (j.there i (inr refl))));
      after = λ q. (attempt, subst (IsNext right Q x) (sym same) next);
    }

-- the gate of another
gate_other : (right : Bool) {P Q : ℕ → Type 0} {before after : ℕ → ℕ} {sides : ℕ → Bool → Side} {i a : ℕ} {holder : Bool → ℕ} (x : ℕ) (gate : Lease) →
    IsRing P before sides → Joins P Q before after sides i a holder → P x → (sides x right).gate ≡ Some gate → gate.joiner ≢ i →
    HasGate right Q after x (sides x right).link gate
gate_other right {P} {Q} {before} {after} {sides} {i} {a} {holder} x gate ring j px e ne =
    let mine : Lease = record { joiner = i; attempt = a } in
    let h = (ring.side right x px).gated gate e in
    let elsewhere : x ≢ holder right = not_holder right x j (λ f. ne (ap (λ (w : Lease). w.joiner) (same_Some gate mine (sym e ∙ f)))) in
    let stays : (y : ℕ) → IsNext right P x y → IsNext right Q x y = λ y n. next_other right x y ring j px elsewhere n in
    let was : Q gate.joiner → P gate.joiner = λ q. elim (j.back gate.joiner q) [ inl p ↦ p | inr f ↦ absurd (ne f) ] in
    record {
      bound = h.bound;
      between = h.between;
      attempt = let m = h.attempt in let n = j.grows gate.joiner in omega arith;
      before = λ n. stays (sides x right).link (h.before (λ p. n (j.there gate.joiner (inl p))));
      after = λ q. let p = was q in (j.kept gate.joiner p ∙ (h.after p).0, stays gate.joiner (h.after p).1);
    }

side_joined : (right : Bool) {P Q : ℕ → Type 0} {before after : ℕ → ℕ} {sides : ℕ → Bool → Side} {i a : ℕ} {holder : Bool → ℕ} (x : ℕ) →
    IsRing P before sides → Joins P Q before after sides i a holder → P x → HasSide right Q after x (sides x right)
side_joined right {P} {Q} {before} {after} {sides} {i} x ring j px = record {
  free = λ e. next_other right x (sides x right).link ring j px (not_holder right x j (λ f. cc)) ((ring.side right x px).free e);
  gated = λ gate e. elim (cases_eq gate.joiner i) [
    | inl same ↦ gate_joined right x gate ring j px e same
    | inr ne ↦ gate_other right x gate ring j px e ne
  ];
}

side_of_joiner : (right : Bool) {P Q : ℕ → Type 0} {before after : ℕ → ℕ} {sides : ℕ → Bool → Side} {i a : ℕ} {holder : Bool → ℕ} →
    IsRing P before sides → Joins P Q before after sides i a holder → HasSide right Q after i (record { link = holder (not right); gate = None })
side_of_joiner right {P} {Q} {before} {after} {sides} {i} {a} {holder} ring j =
    let b = between_holders right ring j in
    side_free right Q after i (holder (not right)) (next_in right i (holder (not right)) j
    (added_from right P (holder right) (holder (not right)) i ring.in_ring j.bound (j.held right) b.next b.between))

-- the sides of the others stay as they are, and i has its two holders as links
pub ring_joined : {P Q : ℕ → Type 0} {before after : ℕ → ℕ} {old : ℕ → Bool → Side} {i a : ℕ} {holder : Bool → ℕ} (new : ℕ → Bool → Side) →
    IsRing P before old → Joins P Q before after old i a holder → ((right : Bool) (x : ℕ) → P x → new x right ≡ old x right) →
    ((right : Bool) → new i right ≡ record { link = holder (not right); gate = None }) → IsRing Q after new
ring_joined {P} {Q} {before} {after} {old} {i} new ring j same mine = record {
  in_ring = λ x q. InRing-with P i ring.in_ring j.bound x (j.back x q);
  side = λ right x q. elim (j.back x q) [
    | inl p ↦ subst (HasSide right Q after x) (sym (same right x p)) (side_joined right x ring j p)
    | inr e ↦
        let at_i : HasSide right Q after i (new i right) = subst (HasSide right Q after i) (sym (mine right)) (side_of_joiner right ring j) in
        subst (λ w. HasSide right Q after w (new w right)) (sym e) at_i
  ];
}
