-- Closest, succ and pred as one thing: the member of a set at which a number is least. That number is `rank key` for the closest, `turn x` for
-- the successor of x and the turn to x for the predecessor; so each is one alone, stays or gives way when a member is added, and exists in a list.
use Rattle.std.proofs.Common.{◌≡◌, ℕ, ◌^◌, ◌<◌, ◌≤◌, List, [], ◌∷◌, refl, arith, inl, inr}
use Rattle.std.specs.List.{Contains}
use Rattle.std.proofs.lemmas.Bool.{cases_eq, cases_lt}
use Rattle.std.proofs.lemmas.Bool.Decides.{nat_tests}
use Rattle.ring_math.specs.Members.{IsClosest, IsSucc, IsPred, InRing, with}
use Rattle.ring_math.proofs.Distances.{turn, cw-lt, turn-cw, turn-same, turn-le}
use Rattle.ring_math.proofs.Nearness.{rank, same_from_rank, is_nearer-rank}
use Rattle.ring_math.proofs.Membership.{Contains-here, Contains-there, Contains-cases, Contains-none}

-- y is the member at which f is least
pub record IsLeast (f : ℕ → ℕ) (P : ℕ → Type 0) (y : ℕ) : Type 0 where
  pub member : P y
  pub least : (z : ℕ) → P z → f y ≤ f z

pub least_one : (f : ℕ → ℕ) (P : ℕ → Type 0) (x y : ℕ) → IsLeast f P x → IsLeast f P y → (f x ≡ f y → x ≡ y) → x ≡ y
least_one f P x y p q apart = let a : f x ≤ f y = p.least y q.member in let b : f y ≤ f x = q.least x p.member in apart (omega arith)

pub least_kept : (f : ℕ → ℕ) (P : ℕ → Type 0) (i y : ℕ) → IsLeast f P y → f y ≤ f i → IsLeast f (with P i) y
least_kept f P i y p le = record {
  member = inl p.member;
  least = λ z h. grind (arith, p.least z);
}

pub least_new : (f : ℕ → ℕ) (P : ℕ → Type 0) (i y : ℕ) → IsLeast f P y → f i ≤ f y → IsLeast f (with P i) i
least_new f P i y p le = record {
  member = inr refl;
  least = λ z h. grind (arith, p.least z);
}

-- ---- the neighbours and the closest by what is least

pub succ_least : (P : ℕ → Type 0) (x y : ℕ) → IsSucc P x y → IsLeast (turn x) P y
succ_least P x y s = record {
  member = s.member;
  least = λ z pz. grind (arith, cases_eq z x, turn-same x, turn-le x y, turn-cw x z, turn-cw x y, s.first z pz);
}

pub least_succ : (P : ℕ → Type 0) (x y : ℕ) → IsLeast (turn x) P y → IsSucc P x y
least_succ P x y s = record {
  member = s.member;
  first = λ z pz ne. let le : turn x y ≤ turn x z = s.least z pz in grind (arith, turn-same x, turn-cw x z, turn-cw x y, cw-lt x z);
}

pub pred_least : (P : ℕ → Type 0) (x y : ℕ) → IsPred P x y → IsLeast (λ z. turn z x) P y
pred_least P x y s = record {
  member = s.member;
  least = λ z pz. grind (arith, cases_eq z x, turn-same x, turn-le y x, turn-cw z x, turn-cw y x, s.last z pz);
}

pub least_pred : (P : ℕ → Type 0) (x y : ℕ) → IsLeast (λ z. turn z x) P y → IsPred P x y
least_pred P x y s = record {
  member = s.member;
  last = λ z pz ne. let le : turn y x ≤ turn z x = s.least z pz in grind (arith, turn-same x, turn-cw z x, turn-cw y x, cw-lt z x);
}

pub closest_least : (P : ℕ → Type 0) (key y : ℕ) → key < 2 ^ 128 → InRing P → IsClosest P key y → IsLeast (rank key) P y
closest_least P key y hk range s = record {
  member = s.member;
  least = λ z pz. grind (arith, nat_tests, cases_eq z y, is_nearer-rank z y key (range z pz) (range y s.member) hk, s.nearest z pz);
}

pub least_closest : (P : ℕ → Type 0) (key y : ℕ) → key < 2 ^ 128 → InRing P → IsLeast (rank key) P y → IsClosest P key y
least_closest P key y hk range s = record {
  member = s.member;
  nearest = λ z pz ne. let le : rank key y ≤ rank key z = s.least z pz in grind (arith, nat_tests, is_nearer-rank z y key (range z pz) (range y s.member) hk);
}

-- a set has one closest member
pub closest_one : (P : ℕ → Type 0) (key x y : ℕ) → InRing P → key < 2 ^ 128 → IsClosest P key x → IsClosest P key y → x ≡ y
closest_one P key x y range hk p q =
    least_one (rank key) P x y (closest_least P key x hk range p) (closest_least P key y hk range q)
    (same_from_rank key x y hk (range x p.member) (range y q.member))

-- ---- in a list there is one

-- a list that is not empty has a member at which f is least
least_step : (f : ℕ → ℕ) (x : ℕ) (xs : List ℕ) (y : ℕ) → IsLeast f (Contains xs) y → (w : ℕ) × IsLeast f (Contains (x ∷ xs)) w
least_step f x xs y p =
    elim (cases_lt (f y) (f x)) [
      | inl lt ↦ (y, record { member = Contains-there x xs y p.member; least = λ z h. grind (arith, Contains-cases x xs z h, p.least z) })
      | inr le ↦ (x, record { member = Contains-here x xs; least = λ z h. grind (arith, Contains-cases x xs z h, p.least z) })
    ]

pub least_of : (f : ℕ → ℕ) (x : ℕ) (xs : List ℕ) → (y : ℕ) × IsLeast f (Contains (x ∷ xs)) y
least_of f x [] = (x, record { member = Contains-here x []; least = λ z h. grind (arith, Contains-cases x [] z h, Contains-none z) })
least_of f x (z ∷ xs) = least_step f x (z ∷ xs) (least_of f z xs).0 (least_of f z xs).1

-- of a list: a member of it, so the list is not empty
least_in : (f : ℕ → ℕ) (xs : List ℕ) (x : ℕ) → Contains xs x → (y : ℕ) × IsLeast f (Contains xs) y
least_in f [] x c = absurd (Contains-none x c)
least_in f (z ∷ xs) x c = least_of f z xs

pub closest_exists : (xs : List ℕ) (x key : ℕ) → InRing (Contains xs) → key < 2 ^ 128 → Contains xs x → (y : ℕ) × IsClosest (Contains xs) key y
closest_exists xs x key range hk c = let found = least_in (rank key) xs x c in (found.0, least_closest (Contains xs) key found.0 hk range found.1)

pub succ_exists : (xs : List ℕ) (x : ℕ) → Contains xs x → (y : ℕ) × IsSucc (Contains xs) x y
succ_exists xs x c = let found = least_in (turn x) xs x c in (found.0, least_succ (Contains xs) x found.0 found.1)

pub pred_exists : (xs : List ℕ) (x : ℕ) → Contains xs x → (y : ℕ) × IsPred (Contains xs) x y
pred_exists xs x c = let found = least_in (λ z. turn z x) xs x c in (found.0, least_pred (Contains xs) x found.0 found.1)
