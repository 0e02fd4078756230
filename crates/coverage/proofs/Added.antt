-- One identifier i added to a set, between a member h and its neighbour y on a side: what becomes of the neighbours on that side.
-- h has i from then on, i has y, and each other member keeps its neighbour. And h alone has i before its neighbour.
use Rattle.std.proofs.Common.{◌≡◌, ◌≢◌, ℕ, Bool, true, false, ◌^◌, ◌<◌, ◌≤◌, subst, arith, inl, inr}
use Rattle.std.proofs.lemmas.Bool.{cases_eq}
use Rattle.ring_math.specs.Members.{InRing, with}
use Rattle.ring_math.proofs.Distances.{turn_cases}
use Rattle.ring_math.proofs.Neighbours.{least_kept, least_new}
use Rattle.coverage.specs.Links.{IsNext, stands}
use Rattle.coverage.proofs.Ways.{way, way-same, way-le, before_from_stands, next_least, least_next, next_member, next_one}

pub InRing-with : (P : ℕ → Type 0) (i : ℕ) → InRing P → i < 2 ^ 128 → InRing (with P i)
InRing-with P i range hi z (inl pz) = range z pz
InRing-with P i range hi z (inr e) = rw e hi

-- what is no nearer than y on the way from h is no nearer from each i before y
beyond : (right : Bool) (h i y z : ℕ) → h < 2 ^ 128 → i < 2 ^ 128 → y < 2 ^ 128 → z < 2 ^ 128 → way right h i < way right h y →
    way right h y ≤ way right h z → way right i y ≤ way right i z
beyond true h i y z hh hi hy hz lt le = grind (
  arith,
  turn_cases h i hh hi,
  turn_cases h y hh hy,
  turn_cases h z hh hz,
  turn_cases i y hi hy,
  turn_cases i z hi hz,
)
beyond false h i y z hh hi hy hz lt le = grind (
  arith,
  turn_cases i h hi hh,
  turn_cases y h hy hh,
  turn_cases z h hz hh,
  turn_cases y i hy hi,
  turn_cases z i hz hi,
)

-- with i between h and its neighbour y, and z the neighbour of another member x, i is behind z
behind : (right : Bool) (h y i x z : ℕ) → h < 2 ^ 128 → y < 2 ^ 128 → i < 2 ^ 128 → x < 2 ^ 128 → z < 2 ^ 128 → x ≢ h →
    way right h i < way right h y → way right h y ≤ way right h x → way right x z ≤ way right x h → way right x z ≤ way right x i
behind true h y i x z hh hy hi hx hz ne a b c = grind (arith, turn_cases x h hx hh, turn_cases x i hx hi, turn_cases h i hh hi, turn_cases h x hh hx)
behind false h y i x z hh hy hi hx hz ne a b c = grind (arith, turn_cases h x hh hx, turn_cases i x hi hx, turn_cases i h hi hh, turn_cases x h hx hh)

pub added_next : (right : Bool) (P : ℕ → Type 0) (h y i : ℕ) → InRing P → i < 2 ^ 128 → P h → IsNext right P h y → stands right h i y ≡ true →
    IsNext right (with P i) h i
added_next right P h y i range hi ph n b =
    let lt : way right h i < way right h y = before_from_stands right h i y (range h ph) hi (range y (next_member right P h y n)) b in
    least_next right (with P i) h i (least_new (way right h) P i y (next_least right P h y n) (omega arith))

pub added_from : (right : Bool) (P : ℕ → Type 0) (h y i : ℕ) → InRing P → i < 2 ^ 128 → P h → IsNext right P h y → stands right h i y ≡ true →
    IsNext right (with P i) i y
added_from right P h y i range hi ph n b =
    let hh = range h ph in
    let hy = range y (next_member right P h y n) in
    let least = next_least right P h y n in
    let lt : way right h i < way right h y = before_from_stands right h i y hh hi hy b in
    least_next right (with P i) i y (least_kept (way right i) P i y
    (record { member = least.member; least = λ z pz. beyond right h i y z hh hi hy (range z pz) lt (least.least z pz) })
    (rw (way-same right i) (way-le right i y)))

pub added_other : (right : Bool) (P : ℕ → Type 0) (h y i x z : ℕ) → InRing P → i < 2 ^ 128 → P h → P x → x ≢ h →
    IsNext right P h y → stands right h i y ≡ true → IsNext right P x z → IsNext right (with P i) x z
added_other right P h y i x z range hi ph px ne n b m =
    let hh = range h ph in
    let hy = range y (next_member right P h y n) in
    let hz = range z (next_member right P x z m) in
    let lt : way right h i < way right h y = before_from_stands right h i y hh hi hy b in
    least_next right (with P i) x z (least_kept (way right x) P i z (next_least right P x z m)
    (behind right h y i x z hh hy hi (range x px) hz ne lt ((next_least right P h y n).least x px) ((next_least right P x z m).least h ph)))

-- two members that have i before their neighbours are one
pub one_holder : (right : Bool) (P : ℕ → Type 0) (x h v y i : ℕ) → InRing P → i < 2 ^ 128 → (P i → ⊥) → P x → P h →
    IsNext right P x v → IsNext right P h y → stands right x i v ≡ true → stands right h i y ≡ true → x ≡ h
one_holder right P x h v y i range hi absent px ph p q a b =
    elim (cases_eq x h) [
      | inl e ↦ e
      | inr ne ↦
          -- once i is there it is the neighbour of x, which as seen from h keeps the one that it had
          let new : IsNext right (with P i) x i = added_next right P x v i range hi px p a in
          let old : IsNext right (with P i) x v = added_other right P h y i x v range hi ph px ne q b p in
          let e : v ≡ i = next_one right (with P i) x v i (InRing-with P i range hi) (inl px) old new in
          absurd (absent (subst P e (next_member right P x v p)))
    ]
