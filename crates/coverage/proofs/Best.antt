-- The first nearest place among the first n of a list, one place more at a time.
use Rattle.std.proofs.Common.{◌≡◌, ℕ, ◌+◌, ◌<◌, List, get_or, true, false, arith, below_more}
use Rattle.ring_math.specs.Ring.{is_nearer}
use Rattle.ring_math.proofs.Nearness.{is_nearer-same, is_nearer-turned, is_nearer-weaker}

-- among the first n, b is the first place that is as near to the key as each
pub record IsBest (xs : List ℕ) (key n b : ℕ) : Type 0 where
  pub within : b < n
  pub nearest : (j : ℕ) → j < n → is_nearer (get_or xs j 0) (get_or xs b 0) key ≡ false
  pub first : (j : ℕ) → j < b → is_nearer (get_or xs b 0) (get_or xs j 0) key ≡ true

pub best_one : (xs : List ℕ) (key : ℕ) → IsBest xs key 1 0
best_one xs key = record {
  within = omega arith;
  nearest = λ j lt. let e : j ≡ 0 = omega arith in rw e (is_nearer-same (get_or xs 0 0) key);
  first = λ j lt. absurd (omega arith);
}

pub best_new : (xs : List ℕ) (key n b : ℕ) → IsBest xs key n b → is_nearer (get_or xs n 0) (get_or xs b 0) key ≡ true → IsBest xs key (n + 1) n
best_new xs key n b p h =
    let ahead : (j : ℕ) → j < n → is_nearer (get_or xs n 0) (get_or xs j 0) key ≡ true =
    λ j lt. is_nearer-weaker (get_or xs n 0) (get_or xs b 0) (get_or xs j 0) key h (p.nearest j lt) in
    record {
      within = omega arith;
      nearest = below_more _ _ (λ j lt. is_nearer-turned (get_or xs n 0) (get_or xs j 0) key (ahead j lt)) (is_nearer-same (get_or xs n 0) key);
      first = ahead;
    }

pub best_kept : (xs : List ℕ) (key n b : ℕ) → IsBest xs key n b → is_nearer (get_or xs n 0) (get_or xs b 0) key ≡ false → IsBest xs key (n + 1) b
best_kept xs key n b p h = record {
  within = let lt : b < n = p.within in omega arith;
  nearest = below_more _ _ p.nearest h;
  first = p.first;
}
