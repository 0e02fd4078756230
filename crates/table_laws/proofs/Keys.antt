-- The key of a file is an identifier.
use Rattle.std.proofs.Common.{◌≡◌, ℕ, zero, suc, ◌+◌, ◌*◌, ◌^◌, ◌<◌, ◌≤◌, List, [], ◌∷◌, take, length, refl, sym, subst, arith}
use Rattle.std.proofs.Math.Nat.{pow-succ'}
use Rattle.ring_math.specs.Names.{FileId}
use Rattle.ring_math.specs.Keys.{number_from, key_of}
use Rattle.overlay_rules.specs.Record.{IsFile}
use Rattle.overlay_rules.proofs.Each.{Each, Each-take, Each-from_all}

-- ---- bytes spell no more than there is room for

-- what is below n + 1 multiples of p, one byte on
one_byte : (n b p : ℕ) → b < 256 → (256 * n + b + 1) * p ≤ (n + 1) * (256 * p)
one_byte n b p lt = grind arith

pub number_below : (k before : ℕ) (bytes : List ℕ) → length bytes ≡ k → Each (λ b. b < 256) bytes → number_from before bytes < (before + 1) * 256 ^ k
number_below zero before [] e h = omega arith
number_below zero before (b ∷ bs) e h = absurd (omega arith)
number_below (suc k) before [] e h = absurd (omega arith)
number_below (suc k) before (b ∷ bs) e h =
    let rest : number_from (256 * before + b) bs < (256 * before + b + 1) * 256 ^ k = number_below k (256 * before + b) bs (omega arith) h.1 in
    let wide : (256 * before + b + 1) * 256 ^ k ≤ (before + 1) * 256 ^ suc k =
    subst (λ q. (256 * before + b + 1) * 256 ^ k ≤ (before + 1) * q) (sym (pow-succ' 256 k)) (one_byte before b (256 ^ k) h.0) in
    let next : number_from before (b ∷ bs) ≡ number_from (256 * before + b) bs = refl in
    omega arith

length-take16 : (xs : List ℕ) → length xs ≡ 20 → length (take 16 xs) ≡ 16
length-take16 xs e = grind arith

pub key_bound : (f : FileId) → IsFile f → key_of f < 2 ^ 128
key_bound f h = let lt = number_below 16 0 (take 16 f) (length-take16 f h.0) (Each-take (λ b. b < 256) 16 f (Each-from_all (λ b. b < 256) f h.1)) in omega arith
