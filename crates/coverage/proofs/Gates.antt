-- Links and gates: what they say is what coverage asks (`IsEnded`), and what each step of a join makes of one side of a node.
use Rattle.std.proofs.Common.{◌≡◌, ℕ, Bool, true, ◌^◌, ◌<◌, ◌≤◌, ◌⊎◌, Option, Some, None, refl, sym, ◌∙◌, ap, subst, arith, inl, inr}
use Rattle.std.proofs.lemmas.Option.{same_Some}
use Rattle.ring_math.specs.Members.{InRing}
use Rattle.coverage.specs.declared.Reach.{Reach}
use Rattle.coverage.specs.Links.{IsNext, stands, Lease, Side, HasGate, HasSide, joiner_of}
use Rattle.coverage.proofs.Ways.{before_from_stands, next_member, next_same, none_before}
use Rattle.coverage.proofs.Ends.{link_on, joiner_on, end_on-free, end_on-joiner}
use Rattle.coverage.proofs.Owner.{EndsRight}

-- ---- what links and gates say of the ends of arcs

ends_at_gate : (right : Bool) (P : ℕ → Type 0) (attempt_of : ℕ → ℕ) (x : ℕ) (r : Reach) (gate : Lease) → P gate.joiner ⊎ (P gate.joiner → ⊥) →
    InRing P → P x →
    r.me ≡ x → joiner_on right r ≡ Some gate.joiner → HasGate right P attempt_of x (link_on right r) gate → EndsRight right P x r
ends_at_gate right P attempt_of x r gate member range px me e h =
    let before_link : stands right r.me gate.joiner (link_on right r) ≡ true =
    subst (λ m. stands right m gate.joiner (link_on right r) ≡ true) (sym me) h.between in
    let at_joiner = end_on-joiner right r gate.joiner e before_link in
    elim member [
      | inl p ↦ inl (rw at_joiner (h.after p).1)
      | inr n ↦
          let next = h.before n in
          inr (
            gate.joiner,
            record {
              joiner = e;
              absent = n;
              bound = h.bound;
              at_end = at_joiner;
              next = next;
              before = before_from_stands right x gate.joiner (link_on right r) (range x px) h.bound
                  (range (link_on right r) (next_member right P x (link_on right r) next)) h.between;
            },
          )
    ]

cases_gate : (o : Option Lease) → (o ≡ None) ⊎ ((gate : Lease) × (o ≡ Some gate))
cases_gate None = inl refl
cases_gate (Some gate) = inr (gate, refl)

pub side_ends : (right : Bool) (P : ℕ → Type 0) (attempt_of : ℕ → ℕ) (x : ℕ) (r : Reach) (side : Side) → ((j : ℕ) → P j ⊎ (P j → ⊥)) → InRing P →
    P x →
    r.me ≡ x → link_on right r ≡ side.link → joiner_on right r ≡ joiner_of side.gate → HasSide right P attempt_of x side → EndsRight right P x r
side_ends right P attempt_of x r side member range px me link joiner h =
    elim (cases_gate side.gate) [
      | inl e ↦
          let none : joiner_on right r ≡ None = joiner ∙ ap joiner_of e in
          inl (rw (end_on-free right r none, link) (h.free e))
      | inr (gate, e) ↦
          ends_at_gate right P attempt_of x r gate (member gate.joiner) range px me (joiner ∙ ap joiner_of e)
          (subst (λ y. HasGate right P attempt_of x y gate) (sym link) (h.gated gate e))
    ]

-- ---- a side that stays, while others change

-- nobody becomes a member, and only who is none may raise its attempt
pub record StaysSame (P Q : ℕ → Type 0) (before after : ℕ → ℕ) : Type 0 where
  pub there : (z : ℕ) → P z → Q z
  pub back : (z : ℕ) → Q z → P z
  pub grows : (z : ℕ) → before z ≤ after z
  pub kept : (z : ℕ) → P z → after z ≡ before z

next_stays : (right : Bool) (P Q : ℕ → Type 0) (before after : ℕ → ℕ) (x y : ℕ) → StaysSame P Q before after → IsNext right P x y → IsNext right Q x y
next_stays right P Q before after x y st n = next_same right P Q x y st.there st.back n

pub side_stays : (right : Bool) (P Q : ℕ → Type 0) (before after : ℕ → ℕ) (x : ℕ) (side : Side) → StaysSame P Q before after →
    HasSide right P before x side → HasSide right Q after x side
side_stays right P Q before after x side st h = record {
  free = λ e. next_stays right P Q before after x side.link st (h.free e);
  gated = λ gate e. let g = h.gated gate e in record {
    bound = g.bound;
    between = g.between;
    attempt = let a = g.attempt in let b = st.grows gate.joiner in omega arith;
    before = λ n. next_stays right P Q before after x side.link st (g.before (λ p. n (st.there gate.joiner p)));
    after = λ q. let p = st.back gate.joiner q in (st.kept gate.joiner p ∙ (g.after p).0, next_stays right P Q before after x gate.joiner st (g.after p).1);
  };
}

-- ---- a side that changes, while the members stay

-- a free side, with the true neighbour as its link
pub side_free : (right : Bool) (P : ℕ → Type 0) (attempt_of : ℕ → ℕ) (x y : ℕ) → IsNext right P x y →
    HasSide right P attempt_of x (record { link = y; gate = None })
side_free right P attempt_of x y n = record { free = λ e. n; gated = λ gate e. cc }

-- a gate is given on a free side
pub side_granted : (right : Bool) (P : ℕ → Type 0) (attempt_of : ℕ → ℕ) (x i a : ℕ) (side : Side) → InRing P → P x →
    HasSide right P attempt_of x side → side.gate ≡ None →
    i < 2 ^ 128 → stands right x i side.link ≡ true → a ≤ attempt_of i →
    HasSide right P attempt_of x (record { link = side.link; gate = Some (record { joiner = i; attempt = a }) })
side_granted right P attempt_of x i a side range px h e hi b le = record {
  free = λ f. cc;
  gated = λ gate f.
      let same : record { joiner = i; attempt = a } ≡ gate = same_Some (record { joiner = i; attempt = a }) gate f in
      subst (HasGate right P attempt_of x side.link) same (record {
        bound = hi;
        between = b;
        attempt = le;
        before = λ _. h.free e;
        after = λ p. absurd (none_before right P x side.link i range px (h.free e) b p);
      });
}

-- a gate is taken away whose joiner is no member
pub side_dropped : (right : Bool) (P : ℕ → Type 0) (attempt_of : ℕ → ℕ) (x : ℕ) (side : Side) (gate : Lease) → HasSide right P attempt_of x side →
    side.gate ≡ Some gate →
    (P gate.joiner → ⊥) → HasSide right P attempt_of x (record { link = side.link; gate = None })
side_dropped right P attempt_of x side gate h e absent = side_free right P attempt_of x side.link ((h.gated gate e).before absent)

-- a joiner whose attempt is beyond its gate's is no member
pub gate_stale : (right : Bool) (P : ℕ → Type 0) (attempt_of : ℕ → ℕ) (x link : ℕ) (gate : Lease) → HasGate right P attempt_of x link gate →
    gate.attempt < attempt_of gate.joiner → P gate.joiner → ⊥
gate_stale right P attempt_of x link gate h lt p = let e = (h.after p).0 in absurd (omega arith)

-- a joiner that is a member becomes the link
pub side_confirmed : (right : Bool) (P : ℕ → Type 0) (attempt_of : ℕ → ℕ) (x : ℕ) (side : Side) (gate : Lease) → HasSide right P attempt_of x side →
    side.gate ≡ Some gate →
    P gate.joiner → HasSide right P attempt_of x (record { link = gate.joiner; gate = None })
side_confirmed right P attempt_of x side gate h e p = side_free right P attempt_of x gate.joiner ((h.gated gate e).after p).1
