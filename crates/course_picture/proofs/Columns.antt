-- How the columns of nodes stand to one another.
use Rattle.std.proofs.Common.{◌≡◌, ℕ, zero, suc, ◌+◌, ◌*◌, ◌<◌, ◌≤◌, Bool, true, false, cond, List, [], ◌∷◌, length, get_or, refl, arith}
use Rattle.std.specs.Prelude.{Contains, nat_lt, nat_le, count_by}
use Rattle.std.proofs.lemmas.Bool.{false≢true, ltb-true, leb-true, lt-ltb, le-leb, le-ltb}
use Rattle.std.proofs.lemmas.List.Sums.{sum_by-cons}
use Rattle.std.proofs.lemmas.Nat.{mul-le}
use Rattle.svg_text.specs.Labels.{rank_in}
use Rattle.course_picture.specs.Board.{Board, half_of, not_above_in, x_of}

one-le : (b c : Bool) → (b ≡ true → c ≡ true) → cond b 1 0 ≤ cond c 1 0
one-le true true h = omega arith
one-le true false h = absurd (false≢true (h refl))
one-le false c h = omega arith

-- what passes a test passes one that is weaker
count-le : (p q : ℕ → Bool) (ids : List ℕ) → ((z : ℕ) → p z ≡ true → q z ≡ true) → count_by p ids ≤ count_by q ids
count-le p q [] weaker = omega arith
count-le p q (z ∷ zs) weaker =
    let one = one-le (p z) (q z) (weaker z) in
    let rest = count-le p q zs weaker in
    let left = sum_by-cons (λ (x : ℕ). cond (p x) 1 0) z zs in
    let right = sum_by-cons (λ (x : ℕ). cond (q x) 1 0) z zs in omega arith

one-lt : (b c : Bool) → b ≡ false → c ≡ true → cond b 1 0 < cond c 1 0
one-lt true c e f = cc
one-lt false true e f = omega arith
one-lt false false e f = cc

count-lt : (p q : ℕ → Bool) (ids : List ℕ) (y k : ℕ) → ((z : ℕ) → p z ≡ true → q z ≡ true) → p y ≡ false → q y ≡ true → k < length ids →
    get_or ids k y ≡ y → count_by p ids < count_by q ids
count-lt p q [] y k weaker fails passes within at = absurd (omega arith)
count-lt p q (z ∷ zs) y zero weaker fails passes within at =
    let one = one-lt (p z) (q z) (rw at fails) (rw at passes) in
    let rest = count-le p q zs weaker in
    let left = sum_by-cons (λ (x : ℕ). cond (p x) 1 0) z zs in
    let right = sum_by-cons (λ (x : ℕ). cond (q x) 1 0) z zs in omega arith
count-lt p q (z ∷ zs) y (suc k) weaker fails passes within at =
    let one = one-le (p z) (q z) (weaker z) in
    let rest = count-lt p q zs y k weaker fails passes (omega arith) at in
    let left = sum_by-cons (λ (x : ℕ). cond (p x) 1 0) z zs in
    let right = sum_by-cons (λ (x : ℕ). cond (q x) 1 0) z zs in omega arith

rank-not_above : (ids : List ℕ) (x : ℕ) → rank_in ids x ≤ not_above_in ids x
rank-not_above ids x =
    count-le (λ z. nat_lt z x) (λ z. nat_le z x) ids (λ z e. let less = ltb-true z x e in le-leb z x (omega arith))

not_above-rank : (ids : List ℕ) (x y : ℕ) → x < y → not_above_in ids x ≤ rank_in ids y
not_above-rank ids x y less =
    count-le (λ z. nat_le z x) (λ z. nat_lt z y) ids (λ z e. let low = leb-true z x e in lt-ltb z y (omega arith))

rank-own : (ids : List ℕ) (y : ℕ) → Contains ids y → rank_in ids y < not_above_in ids y
rank-own ids y has =
    count-lt (λ z. nat_lt z y) (λ z. nat_le z y) ids y has.0 (λ z e. let less = ltb-true z y e in le-leb z y (omega arith))
    (le-ltb y y (omega arith)) (le-leb y y (omega arith)) has.1 has.2

pub columns-rise : (b : Board) (x y : ℕ) → Contains b.nodes y → x < y → x_of b x < x_of b y
columns-rise b x y has less =
    let a = rank-not_above b.nodes x in
    let c = not_above-rank b.nodes x y less in
    let d = rank-own b.nodes y has in
    let more : rank_in b.nodes x + not_above_in b.nodes x + 1 ≤ rank_in b.nodes y + not_above_in b.nodes y = omega arith in
    let wide = mul-le (half_of b.nodes) (rank_in b.nodes x + not_above_in b.nodes x + 1) (half_of b.nodes) (rank_in b.nodes y + not_above_in b.nodes y)
    (omega arith) more in
    products (half_of b.nodes) (rank_in b.nodes x + not_above_in b.nodes x) (rank_in b.nodes y + not_above_in b.nodes y) (omega arith) wide where
      products : (h m n : ℕ) → 10 ≤ h → h * (m + 1) ≤ h * n → 60 + h * m < 60 + h * n
      products h m n big le = let one : h * (m + 1) ≡ h * m + h = grind arith in omega arith
