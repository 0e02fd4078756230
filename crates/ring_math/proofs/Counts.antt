-- Counts of the members that a test passes, and of the ready nodes that are farther from a key than a node: each hop leaves one more behind.
use Rattle.std.proofs.Common.{◌≡◌, ℕ, Bool, true, false, ◌+◌, ◌<◌, ◌≤◌, ◌&&◌, List, [], ◌∷◌, cond, count_by, arith, inl, inr}
use Rattle.std.specs.List.{Contains}
use Rattle.std.proofs.lemmas.Bool.{cases_Bool}
use Rattle.std.proofs.lemmas.Bool.Decides.{nat_tests}
use Rattle.std.proofs.lemmas.List.Sums.{sum_by-cons}
use Rattle.ring_math.specs.Ring.{is_nearer}
use Rattle.ring_math.proofs.Nearness.{is_nearer-trans, is_nearer-same}
use Rattle.ring_math.proofs.Membership.{Contains-cases, Contains-none}

count_step : (a b : Bool) (m n : ℕ) → (a ≡ true → b ≡ true) → m ≤ n → cond a 1 0 + m ≤ cond b 1 0 + n
count_step a b m n h le = grind (arith, cases_Bool a, cases_Bool b)

count_by-cons : (p : ℕ → Bool) (x : ℕ) (xs : List ℕ) → count_by p (x ∷ xs) ≡ cond (p x) 1 0 + count_by p xs
count_by-cons p x xs = sum_by-cons (λ z. cond (p z) 1 0) x xs

-- a test that passes more counts no less
pub count_by-weaker : (p q : ℕ → Bool) (xs : List ℕ) → ((z : ℕ) → p z ≡ true → q z ≡ true) → count_by p xs ≤ count_by q xs
count_by-weaker p q [] h = omega arith
count_by-weaker p q (x ∷ xs) h = rw (count_by-cons p x xs, count_by-cons q x xs)
    (count_step (p x) (q x) (count_by p xs) (count_by q xs) (h x) (count_by-weaker p q xs h))

one_step : (a b : Bool) (m n : ℕ) → (a ≡ true → b ≡ true) → m < n → cond a 1 0 + m < cond b 1 0 + n
one_step a b m n h le = grind (arith, cases_Bool a, cases_Bool b)

one_here : (a b : Bool) (m n : ℕ) → a ≡ false → b ≡ true → m ≤ n → cond a 1 0 + m < cond b 1 0 + n
one_here a b m n ha hb le = grind (arith, ha, hb)

-- and more, where a member passes it that did not pass before
pub count_by-more : (p q : ℕ → Bool) (xs : List ℕ) (x : ℕ) → Contains xs x → ((z : ℕ) → p z ≡ true → q z ≡ true) → p x ≡ false → q x ≡ true →
    count_by p xs < count_by q xs
count_by-more p q [] x c h px qx = absurd (Contains-none x c)
count_by-more p q (y ∷ xs) x c h px qx =
    rw (count_by-cons p y xs, count_by-cons q y xs) (elim (Contains-cases y xs x c) [
      | inl e ↦ one_here (p y) (q y) (count_by p xs) (count_by q xs) (rw e at px) (rw e at qx) (count_by-weaker p q xs h)
      | inr c' ↦ one_step (p y) (q y) (count_by p xs) (count_by q xs) (h y) (count_by-more p q xs x c' h px qx)
    ])

-- a hop to a nearer node y leaves at least one more ready node behind: x itself
pub farther-more : (ready : ℕ → Bool) (nodes : List ℕ) (x y key : ℕ) → Contains nodes x → ready x ≡ true → is_nearer y x key ≡ true →
    count_by (λ z. ready z && is_nearer x z key) nodes < count_by (λ z. ready z && is_nearer y z key) nodes
farther-more ready nodes x y key c rx n =
    count_by-more (λ z. ready z && is_nearer x z key) (λ z. ready z && is_nearer y z key) nodes x c
    (λ z h. grind (arith, nat_tests, h, cases_Bool (ready z), is_nearer-trans y x z key n)) (grind (arith, nat_tests, is_nearer-same x key))
    (grind (arith, nat_tests, rx, n))

-- so the nodes left behind are fewer than the ready nodes
pub farther-fewer : (ready : ℕ → Bool) (nodes : List ℕ) (x key : ℕ) → Contains nodes x → ready x ≡ true →
    count_by (λ z. ready z && is_nearer x z key) nodes < count_by ready nodes
farther-fewer ready nodes x key c rx =
    count_by-more (λ z. ready z && is_nearer x z key) ready nodes x c
    (λ z h. grind (arith, nat_tests, h, cases_Bool (ready z))) (grind (arith, nat_tests, is_nearer-same x key)) rx
