-- The arcs of a node as arithmetic: which half of which arc a key is in, that it is then no nearer to anybody at the ends or beyond them,
-- and that a key in neither arc is nearer to one of the ends.
use Rattle.std.proofs.Common.{◌≡◌, ◌≢◌, ℕ, Bool, true, false, ◌^◌, ◌<◌, ◌≤◌, ◌⊎◌, arith}
use Rattle.std.proofs.lemmas.Bool.Decides.{nat_tests}
use Rattle.ring_math.specs.Ring.{cw_of}
use Rattle.ring_math.proofs.Distances.{turn, cw_cases, turn_cases, is_between-turn}
use Rattle.ring_math.proofs.Nearness.{rank, rank_cases}
use Rattle.coverage.specs.Coverage.{in_arcs}
use Rattle.coverage.proofs.Ways.{way}

-- the key is at most half-way from x to the end; exactly half-way it goes to the one counterclockwise
abbrev pub Near : Bool → ℕ → ℕ → ℕ → Type 0
Near true x end key = cw_of x key ≤ cw_of key end
Near false x end key = cw_of key x < cw_of end key

-- the key is in the nearer half of the arc of x that ends there on that side
pub record InHalf (right : Bool) (x end key : ℕ) : Type 0 where
  pub before : way right x key < way right x end
  pub near : Near right x end key

pub arcs_true : (x l r key : ℕ) → x < 2 ^ 128 → l < 2 ^ 128 → r < 2 ^ 128 → key < 2 ^ 128 → in_arcs x l r key ≡ true →
    (key ≡ x) ⊎ (((turn x key < turn x r) × (cw_of x key ≤ cw_of key r)) ⊎ ((turn key x < turn l x) × (cw_of key x < cw_of l key)))
unfolding in_arcs
arcs_true x l r key hx hl hr hk h =
    grind (
      arith,
      nat_tests,
      is_between-turn x key r hx hk hr,
      is_between-turn l key x hl hk hx,
      turn_cases l key hl hk,
      turn_cases l x hl hx,
      turn_cases key x hk hx,
    )

pub arcs_false : (x l r key : ℕ) → x < 2 ^ 128 → l < 2 ^ 128 → r < 2 ^ 128 → key < 2 ^ 128 → in_arcs x l r key ≡ false →
    (key ≢ x) × ((turn x key < turn x r → cw_of key r < cw_of x key) × (turn l key < turn l x → cw_of l key ≤ cw_of key x))
unfolding in_arcs
arcs_false x l r key hx hl hr hk h = grind (arith, nat_tests, is_between-turn x key r hx hk hr, is_between-turn l key x hl hk hx)

pub arcs_itself : (x l r : ℕ) → in_arcs x l r x ≡ true
unfolding in_arcs
arcs_itself x l r = grind (arith, nat_tests)

pub arcs_by_right : (x l r key : ℕ) → x < 2 ^ 128 → r < 2 ^ 128 → key < 2 ^ 128 → turn x key < turn x r → cw_of x key ≤ cw_of key r →
    in_arcs x l r key ≡ true
unfolding in_arcs
arcs_by_right x l r key hx hr hk a b = grind (arith, nat_tests, is_between-turn x key r hx hk hr)

pub arcs_by_left : (x l r key : ℕ) → x < 2 ^ 128 → l < 2 ^ 128 → key < 2 ^ 128 → turn key x < turn l x → cw_of key x < cw_of l key →
    in_arcs x l r key ≡ true
unfolding in_arcs
arcs_by_left x l r key hx hl hk a b =
    grind (arith, nat_tests, is_between-turn l key x hl hk hx, turn_cases l key hl hk, turn_cases l x hl hx, turn_cases key x hk hx)

-- ---- against the order by nearness

-- what the arcs of x have is no nearer to any z at their ends or beyond
pub arcs_nearest : (x l r key z : ℕ) → x < 2 ^ 128 → l < 2 ^ 128 → r < 2 ^ 128 → key < 2 ^ 128 → z < 2 ^ 128 →
    in_arcs x l r key ≡ true → turn x r ≤ turn x z → turn l x ≤ turn z x → rank key x ≤ rank key z
arcs_nearest x l r key z hx hl hr hk hz h pr pl =
    omega (
      arith,
      arcs_true x l r key hx hl hr hk h,
      rank_cases key x,
      rank_cases key z,
      cw_cases x key hx hk,
      cw_cases key r hk hr,
      cw_cases key x hk hx,
      cw_cases l key hl hk,
      cw_cases z key hz hk,
      turn_cases x key hx hk,
      turn_cases x r hx hr,
      turn_cases key x hk hx,
      turn_cases l x hl hx,
      turn_cases x z hx hz,
      turn_cases z x hz hx,
    )

-- a key that the arcs of x do not have is nearer to one of their ends
pub arcs_or_nearer : (x l r key : ℕ) → x < 2 ^ 128 → l < 2 ^ 128 → r < 2 ^ 128 → key < 2 ^ 128 →
    in_arcs x l r key ≡ false → (rank key l < rank key x) ⊎ (rank key r < rank key x)
arcs_or_nearer x l r key hx hl hr hk h =
    let f = arcs_false x l r key hx hl hr hk h in
    grind (
      arith,
      f,
      rank_cases key x,
      rank_cases key l,
      rank_cases key r,
      cw_cases x key hx hk,
      cw_cases key r hk hr,
      cw_cases key x hk hx,
      cw_cases l key hl hk,
      cw_cases r key hr hk,
      turn_cases x key hx hk,
      turn_cases x r hx hr,
      turn_cases l key hl hk,
      turn_cases l x hl hx,
    )

-- a longer arc has what a shorter one has
pub half_longer : (right : Bool) (x near far key : ℕ) → x < 2 ^ 128 → near < 2 ^ 128 → far < 2 ^ 128 → key < 2 ^ 128 →
    way right x near ≤ way right x far → InHalf right x near key → InHalf right x far key
half_longer true x near far key hx hn hf hk le h =
    let lt = h.before in let half = h.near in
    record {
      before = omega arith;
      near = omega (
        arith,
        cw_cases x key hx hk,
        cw_cases key near hk hn,
        cw_cases key far hk hf,
        turn_cases x key hx hk,
        turn_cases x near hx hn,
        turn_cases x far hx hf,
      );
    }
half_longer false x near far key hx hn hf hk le h =
    let lt = h.before in let half = h.near in
    record {
      before = omega arith;
      near = omega (
        arith,
        cw_cases key x hk hx,
        cw_cases near key hn hk,
        cw_cases far key hf hk,
        turn_cases key x hk hx,
        turn_cases near x hn hx,
        turn_cases far x hf hx,
      );
    }
