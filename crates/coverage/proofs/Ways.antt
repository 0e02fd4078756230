-- The two sides of a node as one: `way right x y` is how far y is from x, going to that side, a whole turn where y is x.
-- On either side the neighbour is the member to which the way is least, and i stands before y where the way to it is less.
use Rattle.std.proofs.Common.{◌≡◌, ℕ, Bool, true, false, not, ltb, ◌^◌, ◌<◌, ◌≤◌, arith}
use Rattle.std.proofs.lemmas.Bool.Decides.{nat_tests}
use Rattle.ring_math.specs.Members.{InRing}
use Rattle.ring_math.proofs.Distances.{turn, turn_cases, turn-same, turn-le, same_from_turn, same_from_turn_back, is_between-turn, is_between-turn_back}
use Rattle.ring_math.proofs.Neighbours.{IsLeast, least_one, succ_least, least_succ, pred_least, least_pred}
use Rattle.coverage.specs.Links.{IsNext, stands}

abbrev pub way : Bool → ℕ → ℕ → ℕ
way true x y = turn x y
way false x y = turn y x

pub way-same : (right : Bool) (x : ℕ) → way right x x ≡ 2 ^ 128
way-same true x = turn-same x
way-same false x = turn-same x

pub way-le : (right : Bool) (x y : ℕ) → way right x y ≤ 2 ^ 128
way-le true x y = turn-le x y
way-le false x y = turn-le y x

pub same_from_way : (right : Bool) (x a b : ℕ) → x < 2 ^ 128 → a < 2 ^ 128 → b < 2 ^ 128 → way right x a ≡ way right x b → a ≡ b
same_from_way true x a b hx ha hb e = same_from_turn x a b hx ha hb e
same_from_way false x a b hx ha hb e = same_from_turn_back x a b hx ha hb e

pub stands-way : (right : Bool) (x i y : ℕ) → x < 2 ^ 128 → i < 2 ^ 128 → y < 2 ^ 128 → stands right x i y ≡ ltb (way right x i) (way right x y)
stands-way true x i y hx hi hy = is_between-turn x i y hx hi hy
stands-way false x i y hx hi hy = is_between-turn_back y i x hy hi hx

pub before_from_stands : (right : Bool) (x i y : ℕ) → x < 2 ^ 128 → i < 2 ^ 128 → y < 2 ^ 128 → stands right x i y ≡ true →
    way right x i < way right x y
before_from_stands right x i y hx hi hy h = grind (arith, nat_tests, h, stands-way right x i y hx hi hy)

-- ---- the neighbour is the member to which the way is least

pub next_least : (right : Bool) (P : ℕ → Type 0) (x y : ℕ) → IsNext right P x y → IsLeast (way right x) P y
next_least true P x y n = succ_least P x y n
next_least false P x y n = pred_least P x y n

pub least_next : (right : Bool) (P : ℕ → Type 0) (x y : ℕ) → IsLeast (way right x) P y → IsNext right P x y
least_next true P x y n = least_succ P x y n
least_next false P x y n = least_pred P x y n

pub next_member : (right : Bool) (P : ℕ → Type 0) (x y : ℕ) → IsNext right P x y → P y
next_member right P x y n = (next_least right P x y n).member

-- there is one
pub next_one : (right : Bool) (P : ℕ → Type 0) (x y z : ℕ) → InRing P → P x → IsNext right P x y → IsNext right P x z → y ≡ z
next_one right P x y z range px p q =
    least_one (way right x) P y z (next_least right P x y p) (next_least right P x z q)
    (same_from_way right x y z (range x px) (range y (next_member right P x y p)) (range z (next_member right P x z q)))

-- no member stands before it
pub none_before : (right : Bool) (P : ℕ → Type 0) (x y z : ℕ) → InRing P → P x → IsNext right P x y → stands right x z y ≡ true → P z → ⊥
none_before right P x y z range px n b pz =
    let le : way right x y ≤ way right x z = (next_least right P x y n).least z pz in
    let lt : way right x z < way right x y = before_from_stands right x z y (range x px) (range z pz) (range y (next_member right P x y n)) b in
    absurd (omega arith)

-- a set that is told otherwise has the same neighbours
pub next_same : (right : Bool) (P Q : ℕ → Type 0) (x y : ℕ) → ((z : ℕ) → P z → Q z) → ((z : ℕ) → Q z → P z) → IsNext right P x y → IsNext right Q x y
next_same right P Q x y there back n =
    let least = next_least right P x y n in
    least_next right Q x y (record { member = there y least.member; least = λ z qz. least.least z (back z qz) })

-- a member alone is its own neighbour
pub next_alone : (right : Bool) (P : ℕ → Type 0) (x : ℕ) → P x → ((z : ℕ) → P z → z ≡ x) → IsNext right P x x
next_alone right P x px only = least_next right P x x (record { member = px; least = λ z pz. rw (only z pz) (omega arith) })

-- seen from either end, two neighbours are each other's
pub way_back : (right : Bool) (x y z : ℕ) → x < 2 ^ 128 → y < 2 ^ 128 → z < 2 ^ 128 → way right x y ≤ way right x z →
    way (not right) y x ≤ way (not right) y z
way_back true x y z hx hy hz le = grind (arith, turn_cases x y hx hy, turn_cases x z hx hz, turn_cases z y hz hy)
way_back false x y z hx hy hz le = grind (arith, turn_cases y x hy hx, turn_cases z x hz hx, turn_cases y z hy hz)

pub next_back : (right : Bool) (P : ℕ → Type 0) (x y : ℕ) → InRing P → P x → IsNext right P x y → IsNext (not right) P y x
next_back right P x y range px n =
    let least = next_least right P x y n in
    least_next (not right) P y x (record {
      member = px;
      least = λ z pz. way_back right x y z (range x px) (range y least.member) (range z pz) (least.least z pz);
    })
