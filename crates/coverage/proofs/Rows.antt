-- The three messages of a join that change a side of a ready node, and that each keeps what links and gates say.
use Rattle.std.proofs.Common.{◌≡◌, ℕ, Bool, true, false, ◌^◌, ◌<◌, ◌≤◌, ◌&&◌, Option, Some, None, refl, sym, ◌∙◌, ap, subst, arith}
use Rattle.std.specs.Prelude.{◌==◌, nat_lt, if◌then◌else◌}
use Rattle.std.proofs.lemmas.Bool.{cond_both}
use Rattle.std.proofs.lemmas.Bool.Decides.{nat_tests}
use Rattle.coverage.specs.declared.Reach.{Reach}
use Rattle.coverage.specs.Coverage.{covers_of}
use Rattle.coverage.specs.Links.{Lease, Side, HasSide, joiner_of, reach_of, stands}
use Rattle.coverage.proofs.Ends.{link_on, joiner_on, end_on, end_on-free, end_on-joiner, end_on-same, covers-ends}
use Rattle.coverage.proofs.Gates.{side_dropped, side_confirmed, gate_stale}

-- the gate is of joiner i with attempt a
abbrev pub is_of : ℕ → ℕ → Option Lease → Bool
is_of i a None = false
is_of i a (Some gate) = gate.joiner == i && gate.attempt == a

-- the gate is of joiner i with an attempt before a
abbrev pub is_older : ℕ → ℕ → Option Lease → Bool
is_older i a None = false
is_older i a (Some gate) = gate.joiner == i && nat_lt gate.attempt a

-- Confirm of (i, a): the joiner becomes the link
abbrev pub confirmed : ℕ → ℕ → Side → Side
confirmed i a side = if is_of i a side.gate then record { link = i; gate = None } else side

-- Release of (i, a): the gate is taken away
abbrev pub released : ℕ → ℕ → Side → Side
released i a side = if is_of i a side.gate then record { link = side.link; gate = None } else side

-- LeaseRequest of (i, a): older gates of i are taken away
abbrev pub cleared : ℕ → ℕ → Side → Side
cleared i a side = if is_older i a side.gate then record { link = side.link; gate = None } else side

-- what such a test finds
record Found (i : ℕ) (P : ℕ → Type 0) (o : Option Lease) : Type 0 where
  gate : Lease
  is : o ≡ Some gate
  joiner : gate.joiner ≡ i
  attempt : P gate.attempt

found_of : (i a : ℕ) (o : Option Lease) → is_of i a o ≡ true → Found i (λ m. m ≡ a) o
found_of i a None h = cc
found_of i a (Some gate) h = record { gate = gate; is = refl; joiner = grind (arith, nat_tests, h); attempt = grind (arith, nat_tests, h) }

found_older : (i a : ℕ) (o : Option Lease) → is_older i a o ≡ true → Found i (λ m. m < a) o
found_older i a None h = cc
found_older i a (Some gate) h = record { gate = gate; is = refl; joiner = grind (arith, nat_tests, h); attempt = grind (arith, nat_tests, h) }

pub confirmed_keeps : (right : Bool) (P : ℕ → Type 0) (attempt_of : ℕ → ℕ) (x i a : ℕ) (side : Side) → P i → HasSide right P attempt_of x side →
    HasSide right P attempt_of x (confirmed i a side)
confirmed_keeps right P attempt_of x i a side pi h =
    cond_both (is_of i a side.gate) (record { link = i; gate = None }) side (HasSide right P attempt_of x)
    (λ e. let f = found_of i a side.gate e in
    subst (λ k. HasSide right P attempt_of x (record { link = k; gate = None })) f.joiner
    (side_confirmed right P attempt_of x side f.gate h f.is (subst P (sym f.joiner) pi)))
    (λ _. h)

pub released_keeps : (right : Bool) (P : ℕ → Type 0) (attempt_of : ℕ → ℕ) (x i a : ℕ) (side : Side) → a < attempt_of i →
    HasSide right P attempt_of x side → HasSide right P attempt_of x (released i a side)
released_keeps right P attempt_of x i a side past h =
    cond_both (is_of i a side.gate) (record { link = side.link; gate = None }) side (HasSide right P attempt_of x)
    (λ e. let f = found_of i a side.gate e in
    let lt : f.gate.attempt < attempt_of f.gate.joiner = rw (f.joiner, f.attempt) past in
    side_dropped right P attempt_of x side f.gate h f.is (gate_stale right P attempt_of x side.link f.gate (h.gated f.gate f.is) lt))
    (λ _. h)

pub cleared_keeps : (right : Bool) (P : ℕ → Type 0) (attempt_of : ℕ → ℕ) (x i a : ℕ) (side : Side) → a ≤ attempt_of i →
    HasSide right P attempt_of x side → HasSide right P attempt_of x (cleared i a side)
cleared_keeps right P attempt_of x i a side le h =
    cond_both (is_older i a side.gate) (record { link = side.link; gate = None }) side (HasSide right P attempt_of x)
    (λ e. let f = found_older i a side.gate e in
    let older = f.attempt in
    let lt : f.gate.attempt < attempt_of f.gate.joiner = rw f.joiner (omega arith) in
    side_dropped right P attempt_of x side f.gate h f.is (gate_stale right P attempt_of x side.link f.gate (h.gated f.gate f.is) lt))
    (λ _. h)

-- ---- a Confirm leaves coverage as it is

-- a reach of x has this side
record HasSideAt (right : Bool) (x : ℕ) (r : Reach) (side : Side) : Type 0 where
  me : r.me ≡ x
  link : link_on right r ≡ side.link
  joiner : joiner_on right r ≡ joiner_of side.gate

-- the arc of r ends where that of each reach with this side does
EndsAs : Bool → ℕ → Reach → Side → Type 0
EndsAs right x r side = (q : Reach) → HasSideAt right x q side → end_on right r ≡ end_on right q

confirmed_end : (right : Bool) (P : ℕ → Type 0) (attempt_of : ℕ → ℕ) (x i a : ℕ) (r : Reach) (side : Side) → HasSide right P attempt_of x side →
    HasSideAt right x r side → EndsAs right x r (confirmed i a side)
unfolding EndsAs
confirmed_end right P attempt_of x i a r side h at =
    cond_both (is_of i a side.gate) (record { link = i; gate = None }) side (EndsAs right x r)
    (λ e q there.
    let f = found_of i a side.gate e in
    let joiner : joiner_on right r ≡ Some f.gate.joiner = at.joiner ∙ ap joiner_of f.is in
    let before : stands right r.me f.gate.joiner (link_on right r) ≡ true =
    subst (λ m. stands right m f.gate.joiner (link_on right r) ≡ true) (sym at.me)
    (subst (λ l. stands right x f.gate.joiner l ≡ true) (sym at.link) (h.gated f.gate f.is).between) in
    end_on-joiner right r f.gate.joiner joiner before ∙ f.joiner ∙ sym (end_on-free right q there.joiner ∙ there.link))
    (λ _ q there. end_on-same right r q (at.me ∙ sym there.me) (at.link ∙ sym there.link) (at.joiner ∙ sym there.joiner))

pub covers-confirmed : (P : ℕ → Type 0) (attempt_of : ℕ → ℕ) (sides : Bool → Side) (x i a key : ℕ) → x < 2 ^ 128 → key < 2 ^ 128 →
    ((right : Bool) → HasSide right P attempt_of x (sides right)) →
    covers_of (reach_of x sides) key ≡ covers_of (reach_of x (λ right. confirmed i a (sides right))) key
unfolding EndsAs
covers-confirmed P attempt_of sides x i a key hx hk h = covers-ends (reach_of x sides)
    (reach_of x (λ right. confirmed i a (sides right))) key hx hk refl ends where
      ends : (right : Bool) → end_on right (reach_of x sides) ≡ end_on right (reach_of x (λ side. confirmed i a (sides side)))
      ends true = confirmed_end true P attempt_of x i a (reach_of x sides) (sides true) (h true) (record { me = refl; link = refl; joiner = refl })
          (reach_of x (λ side. confirmed i a (sides side))) (record { me = refl; link = refl; joiner = refl })
      ends false = confirmed_end false P attempt_of x i a (reach_of x sides) (sides false) (h false) (record { me = refl; link = refl; joiner = refl })
          (reach_of x (λ side. confirmed i a (sides side))) (record { me = refl; link = refl; joiner = refl })
