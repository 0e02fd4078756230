-- What a buffer holds once the next bytes were copied to its front.
use Rattle.std.proofs.Common.{◌≡◌, ◌+◌, ℕ, List, ◌++◌, length, take, drop, ap, sym, ◌∙◌, arith, slice_range}
use Rattle.std.proofs.lemmas.List.{take_at}
use Rattle.std.proofs.lemmas.List.Folds.{drop_split}

-- what was left from `at` on is the front of the buffer, and then what is left n bytes further
pub drop-copied : (xs buf w : List ℕ) (at n : ℕ) → w ≡ slice_range xs at (at + n) → length w ≡ n → drop at xs ≡ take n (w ++ drop n buf) ++ drop (at + n) xs
drop-copied xs buf w at n is len =
    drop_split xs at (at + n) (omega arith) ∙ ap (λ front. front ++ drop (at + n) xs) (sym is ∙ sym (take_at w (drop n buf) n len))
