-- The key of a name is an identifier.
use Rattle.std.proofs.Common.{◌<◌, ◌≤◌, ◌^◌, ◌*◌, ◌+◌, ℕ, zero, suc, List, [], ◌∷◌, take, arith}
use Rattle.std.specs.Int.{w32, byte_at, bytes_high_first, to_be_bytes}
use Rattle.std.specs.Prelude.{slice_index}
use Rattle.sha1.specs.Sha1.{sha1, digest_bytes}
use Rattle.ring_math.specs.Keys.{id_of, number_from}
use Rattle.overlay_rules.proofs.Each.{Each, Each-append}

abbrev IsByte : ℕ → Type 0
IsByte b = b < 256

byte_below : (i n : ℕ) → byte_at i n < 256
byte_below zero n = omega arith
byte_below (suc i) n = omega arith

bytes_below : (k n : ℕ) → Each IsByte (bytes_high_first k n)
bytes_below zero n = tt
bytes_below (suc k) n = (byte_below k n, bytes_below k n)

digest_below : (h : List ℕ) (n : ℕ) → Each IsByte (digest_bytes h n)
unfolding digest_bytes
digest_below h zero = tt
digest_below h (suc n) = Each-append IsByte (digest_bytes h n) (to_be_bytes w32 (slice_index h n)) (digest_below h n) (bytes_below 4 (slice_index h n))

sha1_below : (name : List ℕ) → Each IsByte (sha1 name)
unfolding sha1
sha1_below name = digest_below _ 5

-- m times 256, k times over
abbrev scaled : ℕ → ℕ → ℕ
scaled m zero = m
scaled m (suc k) = scaled (m * 256) k

scaled_more : (m k : ℕ) → m ≤ scaled m k
scaled_more m zero = omega arith
scaled_more m (suc k) = let more = scaled_more (m * 256) k in omega arith

number_below : (k before m : ℕ) (bs : List ℕ) → before < m → Each IsByte bs → number_from before (take k bs) < scaled m k
number_below zero before m bs lt h = lt
number_below (suc k) before m [] lt h = let more = scaled_more (m * 256) k in omega arith
number_below (suc k) before m (b ∷ bs) lt h = let below = h.0 in number_below k (256 * before + b) (m * 256) bs (omega arith) h.1

pub id_of-in_ring : (name : List ℕ) → id_of name < 2 ^ 128
id_of-in_ring name = number_below 16 0 1 (sha1 name) (omega arith) (sha1_below name)
