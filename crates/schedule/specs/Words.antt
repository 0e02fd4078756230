-- The random words of a seed.
use Rattle.std.specs.Prelude.{ℕ, zero, suc, List, [], ◌∷◌, ◌++◌, replicate}
use Rattle.std.specs.List.{flat_map}
use Rattle.std.specs.Int.{w32, w64, to_le_bytes, to_be_bytes}
use Rattle.rand_chacha.specs.ChaCha.{ChaCha, word_at, next_word, key_of}

-- the 32 bytes of a seed's key: the seed in eight bytes, least significant first, and 24 zeros
abbrev pub key_bytes : ℕ → List ℕ
key_bytes seed = to_le_bytes w64 seed ++ replicate 24 0

-- word t of ChaCha8 with that key, stream 0
abbrev pub word_of : ℕ → ℕ → ℕ
word_of seed t = word_at 4 (key_of (key_bytes seed)) 0 t

-- so many words, from word t on
unfoldable pub words_from : ℕ → ℕ → ℕ → List ℕ
words_from seed t zero = []
words_from seed t (suc count) = word_of seed t ∷ words_from seed (suc t) count

-- the generator whose next word is word t
abbrev pub generator_at : ℕ → ℕ → ChaCha
generator_at seed t = record { key = key_of (key_bytes seed); stream = 0; word_pos = t }

-- the next words of a generator
unfoldable pub words_to_come : ChaCha → ℕ → List ℕ
words_to_come g zero = []
words_to_come g (suc count) = (next_word 4 g).0 ∷ words_to_come (next_word 4 g).1 count

unfoldable pub generator_after : ChaCha → ℕ → ChaCha
generator_after g zero = g
generator_after g (suc count) = generator_after (next_word 4 g).1 count

-- words as bytes, of each the most significant first
abbrev pub bytes_of : List ℕ → List ℕ
bytes_of words = flat_map (λ word. to_be_bytes w32 word) words

-- the generator of a seed at the start of a stream, and its words as bytes
abbrev pub stream_start : ℕ → ℕ → ChaCha
stream_start seed stream = record { key = key_of (key_bytes seed); stream = stream; word_pos = 0 }

abbrev pub stream_bytes : ℕ → ℕ → ℕ → List ℕ
stream_bytes seed stream count = bytes_of (words_to_come (stream_start seed stream) count)
