-- What is generated: a fragment has the words that come behind those of the fragments before it.
use Rattle.std.proofs.Common.{◌≡◌, ◌≤◌, ℕ, ◌+◌, ◌-◌, ◌*◌, min, List, length, take, drop, refl, sym, ap, ◌∙◌, arith}
use Rattle.std.specs.Int.{div_ceil}
use Rattle.std.proofs.lemmas.Grind.{div_ceil_times}
use Rattle.std.proofs.lemmas.List.{length-take}
use Rattle.schedule.specs.Words.{bytes_of, generator_after, stream_bytes, stream_start, words_to_come}
use Rattle.schedule.proofs.Filling.{after_split, part_filled, words_long}
use Rattle.fragments.specs.Large.{generated_bytes}

-- as many bytes are generated as are asked for
pub generated_long : (seed size : ℕ) → size ≤ 835584 → length (generated_bytes seed size) ≡ size
generated_long seed size few =
    let times = div_ceil_times size 4 (omega arith) in
    let low = times.0 in
    let long = words_long (stream_start seed 1) (div_ceil size 4) in
    let all = length-take size (stream_bytes seed 1 (div_ceil size 4)) in
    omega arith

-- before the first fragment no word was taken, and each takes 1,024
pub none_taken : (seed : ℕ) → stream_start seed 1 ≡ generator_after (stream_start seed 1) 0
unfolding generator_after
none_taken seed = refl

pub more_taken : (seed i count : ℕ) → count ≡ 1024 →
    generator_after (generator_after (stream_start seed 1) (1024 * i)) count ≡ generator_after (stream_start seed 1) (1024 * (i + 1))
more_taken seed i count is =
    sym (after_split (stream_start seed 1) (1024 * i) count) ∙ ap (λ n. generator_after (stream_start seed 1) n) same
  where
    same : 1024 * i + count ≡ 1024 * (i + 1)
    same = omega arith

-- the words behind them are the bytes of this fragment, or begin with them
pub part_generated : (seed size i n count : ℕ) (room : List ℕ) → n ≡ min 4096 (size - 4096 * i) → 4096 * i ≤ size → count ≡ 1024 →
    room ≡ bytes_of (words_to_come (generator_after (stream_start seed 1) (1024 * i)) count) →
    take n room ≡ take 4096 (drop (4096 * i) (generated_bytes seed size))
part_generated seed size i n count room is begun all filled =
    ap (λ bs. take n bs) filled ∙ ap (λ m. take n (bytes_of (words_to_come (generator_after (stream_start seed 1) (1024 * i)) m))) all ∙
    part_filled (stream_start seed 1) (1024 * i) 1024 n size (div_ceil size 4) (omega arith) (omega arith) enough ∙
    ap (λ k. take 4096 (drop k (generated_bytes seed size))) same
  where
    enough : size ≤ 4 * div_ceil size 4
    enough = let times = div_ceil_times size 4 (omega arith) in let low = times.0 in omega arith

    same : 4 * (1024 * i) ≡ 4096 * i
    same = omega arith
