-- Bytes that are filled with the words of a generator, and the words that a seed's generator gives.
use Rattle.std.proofs.Common.{◌≡◌, ◌<◌, ◌≤◌, ℕ, zero, suc, ◌+◌, ◌-◌, ◌*◌, ◌^◌, ◌%◌, min, List, [], ◌∷◌, ◌++◌, length, take, drop, w32, refl, sym}
use Rattle.std.proofs.Common.{ap, ◌∙◌, arith, append-nil, add-one, add-zero, zero-add}
use Rattle.std.specs.Int.{to_be_bytes}
use Rattle.std.proofs.lemmas.Grind.{flat_map-append}
use Rattle.std.proofs.lemmas.List.{take-append-le, take-take, take_min, drop-take, length-take}
use Rattle.std.proofs.lemmas.Slice.{take-put_mid}
use Rattle.std.proofs.Math.Nat.{suc-add}
use Rattle.std.proofs.Math.Seq.{drop-append_seam}
use borrow.Rule.Slice.PartMut.{put_mid}
use Rattle.rand_chacha.specs.ChaCha.{ChaCha, next_word}
use Rattle.schedule.specs.Words.{words_from, words_to_come, generator_after, bytes_of, generator_at, word_of}

-- one word more
pub words_more : (g : ChaCha) (k : ℕ) → words_to_come g (suc k) ≡ words_to_come g k ++ (next_word 4 (generator_after g k)).0 ∷ []
unfolding words_to_come generator_after
words_more g zero = refl
words_more g (suc k) = ap (λ ws. (next_word 4 g).0 ∷ ws) (words_more (next_word 4 g).1 k)

pub after_more : (g : ChaCha) (k : ℕ) → generator_after g (suc k) ≡ (next_word 4 (generator_after g k)).1
unfolding generator_after
after_more g zero = refl
after_more g (suc k) = after_more (next_word 4 g).1 k

-- a word that is written behind those before it
pub word_filled : (g now : ChaCha) (k a j n word : ℕ) (bytes four : List ℕ) →
    take a bytes ≡ bytes_of (words_to_come g k) → now ≡ generator_after g k → word ≡ (next_word 4 now).0 →
    four ≡ to_be_bytes w32 word → n ≡ a + length four → a ≤ length bytes →
    take n (put_mid a j bytes four) ≡ bytes_of (words_to_come g (k + 1))
word_filled g now k a j n word bytes four before at is wrote sum fits =
    take-put_mid a j bytes four n sum fits ∙
    ap (λ bs. bs ++ four) before ∙
    ap (λ bs. bytes_of (words_to_come g k) ++ bs) (wrote ∙ ap (λ w. to_be_bytes w32 w) (is ∙ ap (λ h. (next_word 4 h).0) at) ∙ sym (append-nil _)) ∙
    sym (flat_map-append (λ w. to_be_bytes w32 w) (words_to_come g k) _) ∙
    ap (λ ws. bytes_of ws) (sym (words_more g k)) ∙
    ap (λ n. bytes_of (words_to_come g n)) (sym (add-one k))

pub after_word : (g now next : ChaCha) (k : ℕ) → now ≡ generator_after g k → next ≡ (next_word 4 now).1 → next ≡ generator_after g (k + 1)
after_word g now next k at is =
    is ∙ ap (λ h. (next_word 4 h).1) at ∙ sym (after_more g k) ∙ ap (λ n. generator_after g n) (sym (add-one k))

-- the words of a generator at its start are the seed's
pub words_are : (seed t count : ℕ) → t + count < 2 ^ 68 → words_to_come (generator_at seed t) count ≡ words_from seed t count
unfolding words_from words_to_come
words_are seed t zero h = refl
words_are seed t (suc count) h =
    ap (λ p. word_of seed t ∷ words_to_come (generator_at seed p) count) next ∙
    ap (λ ws. word_of seed t ∷ ws) (words_are seed (suc t) count (omega arith))
  where
    next : (t + 1) % 2 ^ 68 ≡ suc t
    next = grind arith

-- a seed's generator, so many words on
pub seed_after : (seed t count : ℕ) → t + count < 2 ^ 68 → generator_after (generator_at seed t) count ≡ generator_at seed (t + count)
unfolding generator_after
seed_after seed t zero h = ap (λ n. generator_at seed n) (sym (add-zero t))
seed_after seed t (suc count) h =
    ap (λ n. generator_after (generator_at seed n) count) next ∙ seed_after seed (suc t) count (omega arith) ∙ ap (λ n. generator_at seed n) same
  where
    next : (t + 1) % 2 ^ 68 ≡ suc t
    next = grind arith

    same : suc t + count ≡ t + suc count
    same = omega arith

-- ---- bytes that are filled part by part

-- words in two parts, and the generator behind them
words_split : (g : ChaCha) (k m : ℕ) → words_to_come g (k + m) ≡ words_to_come g k ++ words_to_come (generator_after g k) m
unfolding words_to_come generator_after
words_split g zero m = ap (λ n. words_to_come g n) (zero-add m)
words_split g (suc k) m = ap (λ n. words_to_come g n) (suc-add k m) ∙ ap (λ ws. (next_word 4 g).0 ∷ ws) (words_split (next_word 4 g).1 k m)

pub after_split : (g : ChaCha) (k m : ℕ) → generator_after g (k + m) ≡ generator_after (generator_after g k) m
unfolding generator_after
after_split g zero m = ap (λ n. generator_after g n) (zero-add m)
after_split g (suc k) m = ap (λ n. generator_after g n) (suc-add k m) ∙ after_split (next_word 4 g).1 k m

-- a word has four bytes
pub words_long : (g : ChaCha) (count : ℕ) → length (bytes_of (words_to_come g count)) ≡ 4 * count
unfolding words_to_come
words_long g zero = refl
words_long g (suc count) = let rest = words_long (next_word 4 g).1 count in omega arith

bytes_split : (g : ChaCha) (k m : ℕ) →
    bytes_of (words_to_come g (k + m)) ≡ bytes_of (words_to_come g k) ++ bytes_of (words_to_come (generator_after g k) m)
bytes_split g k m = ap (λ ws. bytes_of ws) (words_split g k m) ∙ flat_map-append (λ w. to_be_bytes w32 w) (words_to_come g k) _

-- the first bytes are the same, however many words come
first_bytes : (g : ChaCha) (n k m : ℕ) → n ≤ 4 * k → k ≤ m → take n (bytes_of (words_to_come g m)) ≡ take n (bytes_of (words_to_come g k))
first_bytes g n k m inside more =
    ap (λ j. take n (bytes_of (words_to_come g j))) same ∙ ap (λ bs. take n bs) (bytes_split g k (m - k)) ∙
    take-append-le n (bytes_of (words_to_come g k)) _ (let long = words_long g k in omega arith)
  where
    same : m ≡ k + (m - k)
    same = omega arith

-- behind the bytes of the first words
bytes_behind : (g : ChaCha) (k all : ℕ) → k ≤ all →
    drop (4 * k) (bytes_of (words_to_come g all)) ≡ bytes_of (words_to_come (generator_after g k) (all - k))
bytes_behind g k all more =
    ap (λ j. drop (4 * k) (bytes_of (words_to_come g j))) same ∙ ap (λ bs. drop (4 * k) bs) (bytes_split g k (all - k)) ∙
    ap (λ n. drop n (bytes_of (words_to_come g k) ++ bytes_of (words_to_come (generator_after g k) (all - k)))) (sym (words_long g k)) ∙
    drop-append_seam (bytes_of (words_to_come g k)) _
  where
    same : all ≡ k + (all - k)
    same = omega arith

-- Of bytes that are a number of words, the last perhaps cut off: what m words write behind the first k is the part that stands
-- there, as far as it goes.
pub part_filled : (g : ChaCha) (k m n size all : ℕ) → n ≡ min (4 * m) (size - 4 * k) → 4 * k ≤ size → size ≤ 4 * all →
    take n (bytes_of (words_to_come (generator_after g k) m)) ≡ take (4 * m) (drop (4 * k) (take size (bytes_of (words_to_come g all))))
part_filled g k m n size all is begun fits =
    first_bytes next n (min m (all - k)) m (omega arith) (omega arith) ∙
    sym (first_bytes next n (min m (all - k)) (all - k) (omega arith) (omega arith)) ∙
    sym (take-take n left rest (omega arith)) ∙
    ap (λ j. take j (take left rest)) full ∙ take_min (4 * m) (take left rest) ∙
    ap (λ bs. take (4 * m) bs) (sym there)
  where
    next : ChaCha
    next = generator_after g k

    left : ℕ
    left = size - 4 * k

    rest : List ℕ
    rest = bytes_of (words_to_come (generator_after g k) (all - k))

    full : n ≡ min (4 * m) (length (take left rest))
    full = let cut = length-take left rest in let long = words_long next (all - k) in omega arith

    there : drop (4 * k) (take size (bytes_of (words_to_come g all))) ≡ take left rest
    there =
        ap (λ j. drop (4 * k) (take j (bytes_of (words_to_come g all)))) whole ∙ drop-take (4 * k) left _ ∙
        ap (λ bs. take left bs) (bytes_behind g k all (omega arith))
      where
        whole : size ≡ 4 * k + left
        whole = omega arith
