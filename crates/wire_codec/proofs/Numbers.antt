-- Numbers of 1, 2, 4, 8 and 16 bytes: what is spelled is read again, and what is read is spelled so.
use Rattle.std.proofs.Common.{◌≡◌, ℕ, ◌+◌, ◌*◌, ◌/◌, ◌%◌, ◌^◌, ◌<◌, List, [], ◌∷◌, ◌++◌, length, take, drop, refl, sym, ap, ◌∙◌, inl, inr, arith}
use Rattle.std.specs.Int.{Width, w8, w16, w32, w64, w128, byte_len, from_be_bytes, to_be_bytes}
use Rattle.std.proofs.lemmas.Bool.{cases_lt}
use Rattle.std.proofs.lemmas.List.{take-append-drop, length-take, length-drop, get_or-drop, get_or-take, get_or_past}
use Rattle.std.proofs.lemmas.Nat.{be_bytes_2, be_bytes_4, be_bytes_8, from_be_bytes-to_be_bytes_2, from_be_bytes-to_be_bytes_4, from_be_bytes-to_be_bytes_8}
use Rattle.wire_codec.specs.Fields.{AreBytes}

-- ---- 16 bytes are twice 8

pub halves_spelled : (n high low : ℕ) → n ≡ high * 18446744073709551616 + low → low < 2 ^ 64 → high < 2 ^ 64
    → to_be_bytes w128 n ≡ to_be_bytes w64 high ++ to_be_bytes w64 low
halves_spelled n high low is low_fits high_fits =
    let b15 : n / 1329227995784915872903807060280344576 % 256 ≡ high / 72057594037927936 % 256 = omega arith in
    let b14 : n / 5192296858534827628530496329220096 % 256 ≡ high / 281474976710656 % 256 = omega arith in
    let b13 : n / 20282409603651670423947251286016 % 256 ≡ high / 1099511627776 % 256 = omega arith in
    let b12 : n / 79228162514264337593543950336 % 256 ≡ high / 4294967296 % 256 = omega arith in
    let b11 : n / 309485009821345068724781056 % 256 ≡ high / 16777216 % 256 = omega arith in
    let b10 : n / 1208925819614629174706176 % 256 ≡ high / 65536 % 256 = omega arith in
    let b9 : n / 4722366482869645213696 % 256 ≡ high / 256 % 256 = omega arith in
    let b8 : n / 18446744073709551616 % 256 ≡ high % 256 = omega arith in
    let b7 : n / 72057594037927936 % 256 ≡ low / 72057594037927936 % 256 = omega arith in
    let b6 : n / 281474976710656 % 256 ≡ low / 281474976710656 % 256 = omega arith in
    let b5 : n / 1099511627776 % 256 ≡ low / 1099511627776 % 256 = omega arith in
    let b4 : n / 4294967296 % 256 ≡ low / 4294967296 % 256 = omega arith in
    let b3 : n / 16777216 % 256 ≡ low / 16777216 % 256 = omega arith in
    let b2 : n / 65536 % 256 ≡ low / 65536 % 256 = omega arith in
    let b1 : n / 256 % 256 ≡ low / 256 % 256 = omega arith in
    let b0 : n % 256 ≡ low % 256 = omega arith in
    cc

halves_read : (high low : List ℕ) → length high ≡ 8 → length low ≡ 8
    → from_be_bytes w128 (high ++ low) ≡ from_be_bytes w64 high * 18446744073709551616 + from_be_bytes w64 low
halves_read (a ∷ b ∷ c ∷ d ∷ e ∷ f ∷ g ∷ h ∷ []) low high_len low_len = omega arith
halves_read [] low high_len low_len = absurd (omega arith)
halves_read (a ∷ []) low high_len low_len = absurd (omega arith)
halves_read (a ∷ b ∷ []) low high_len low_len = absurd (omega arith)
halves_read (a ∷ b ∷ c ∷ []) low high_len low_len = absurd (omega arith)
halves_read (a ∷ b ∷ c ∷ d ∷ []) low high_len low_len = absurd (omega arith)
halves_read (a ∷ b ∷ c ∷ d ∷ e ∷ []) low high_len low_len = absurd (omega arith)
halves_read (a ∷ b ∷ c ∷ d ∷ e ∷ f ∷ []) low high_len low_len = absurd (omega arith)
halves_read (a ∷ b ∷ c ∷ d ∷ e ∷ f ∷ g ∷ []) low high_len low_len = absurd (omega arith)
halves_read (a ∷ b ∷ c ∷ d ∷ e ∷ f ∷ g ∷ h ∷ i ∷ more) low high_len low_len = absurd (omega arith)

-- ---- parts of bytes

pub AreBytes-drop : (n : ℕ) (bytes : List ℕ) → AreBytes bytes → AreBytes (drop n bytes)
AreBytes-drop n bytes fits i = rw get_or-drop (fits (n + i))

pub AreBytes-take : (n : ℕ) (bytes : List ℕ) → AreBytes bytes → AreBytes (take n bytes)
AreBytes-take n bytes fits i =
    elim (cases_lt i n) [
      | inl lt ↦ rw (get_or-take n bytes i 0 lt) (fits i)
      | inr le ↦ rw (get_or_past (take n bytes) i 0 (omega (arith, length-take n bytes))) (omega arith)
    ]

-- ---- what holds of each width

pub record IsWide (w : Width) (limit : ℕ) : Type 0 where
  pub len : (n : ℕ) → length (to_be_bytes w n) ≡ byte_len w
  pub back : (bytes : List ℕ) → length bytes ≡ byte_len w → AreBytes bytes → to_be_bytes w (from_be_bytes w bytes) ≡ bytes
  pub again : (n : ℕ) → n < limit → from_be_bytes w (to_be_bytes w n) ≡ n
  pub below : (bytes : List ℕ) → AreBytes bytes → from_be_bytes w bytes < limit

back_8 : (bytes : List ℕ) → length bytes ≡ 1 → AreBytes bytes → to_be_bytes w8 (from_be_bytes w8 bytes) ≡ bytes
back_8 [] len fits = absurd (omega arith)
back_8 (b ∷ []) len fits =
    let below : b < 256 = fits 0 in
    let same : b % 256 ≡ b = omega arith in
    ap (λ (x : ℕ). x ∷ []) same
back_8 (b ∷ c ∷ more) len fits = absurd (omega arith)

-- a number of one byte is spelled by itself
pub byte_spelled : (n : ℕ) → n < 256 → to_be_bytes w8 n ≡ n ∷ []
byte_spelled n fits =
    let same : n % 256 ≡ n = omega arith in
    ap (λ (x : ℕ). x ∷ []) same

pub wide8 : IsWide w8 (2 ^ 8)
wide8 = record {
  len = λ n. refl;
  back = back_8;
  again = λ n fits. omega arith;
  below = λ bytes fits. fits 0;
}

pub wide16 : IsWide w16 (2 ^ 16)
wide16 = record {
  len = λ n. refl;
  back = λ bytes len fits. be_bytes_2 bytes _ len fits refl;
  again = λ n fits. from_be_bytes-to_be_bytes_2 n fits;
  below = λ bytes fits. omega (arith, fits 0, fits 1);
}

pub wide32 : IsWide w32 (2 ^ 32)
wide32 = record {
  len = λ n. refl;
  back = λ bytes len fits. be_bytes_4 bytes _ len fits refl;
  again = λ n fits. from_be_bytes-to_be_bytes_4 n fits;
  below = λ bytes fits. omega (arith, fits 0, fits 1, fits 2, fits 3);
}

pub wide64 : IsWide w64 (2 ^ 64)
wide64 = record {
  len = λ n. refl;
  back = λ bytes len fits. be_bytes_8 bytes _ len fits refl;
  again = λ n fits. from_be_bytes-to_be_bytes_8 n fits;
  below = λ bytes fits. omega (arith, fits 0, fits 1, fits 2, fits 3, fits 4, fits 5, fits 6, fits 7);
}

-- a number of 16 bytes is made of two of 8
halves_of : (bytes : List ℕ) → length bytes ≡ 16 → from_be_bytes w128 bytes ≡ from_be_bytes w64 (take 8 bytes) * 18446744073709551616 + from_be_bytes w64
    (drop 8 bytes)
halves_of bytes len =
    ap (from_be_bytes w128) (sym (take-append-drop 8 bytes))
    ∙ halves_read (take 8 bytes) (drop 8 bytes) (omega (arith, length-take 8 bytes)) (omega (arith, length-drop 8 bytes))

back_128 : (bytes : List ℕ) → length bytes ≡ 16 → AreBytes bytes → to_be_bytes w128 (from_be_bytes w128 bytes) ≡ bytes
back_128 bytes len fits =
    let high_fits = AreBytes-take 8 bytes fits in
    let low_fits = AreBytes-drop 8 bytes fits in
    halves_spelled (from_be_bytes w128 bytes) (from_be_bytes w64 (take 8 bytes)) (from_be_bytes w64 (drop 8 bytes)) (halves_of bytes len)
    (wide64.below (drop 8 bytes) low_fits) (wide64.below (take 8 bytes) high_fits)
    ∙ ap (λ (x : List ℕ). x ++ to_be_bytes w64 (from_be_bytes w64 (drop 8 bytes))) (wide64.back (take 8 bytes) (omega (arith, length-take 8 bytes)) high_fits)
    ∙ ap (λ (x : List ℕ). take 8 bytes ++ x) (wide64.back (drop 8 bytes) (omega (arith, length-drop 8 bytes)) low_fits)
    ∙ take-append-drop 8 bytes

again_128 : (n : ℕ) → n < 2 ^ 128 → from_be_bytes w128 (to_be_bytes w128 n) ≡ n
again_128 n fits =
    let high = n / 18446744073709551616 in
    let low = n % 18446744073709551616 in
    let high_fits : high < 2 ^ 64 = omega arith in
    let low_fits : low < 2 ^ 64 = omega arith in
    let parts : n ≡ high * 18446744073709551616 + low = omega arith in
    ap (from_be_bytes w128) (halves_spelled n high low parts low_fits high_fits)
    ∙ halves_read (to_be_bytes w64 high) (to_be_bytes w64 low) refl refl
    ∙ ap (λ (x : ℕ). x * 18446744073709551616 + from_be_bytes w64 (to_be_bytes w64 low)) (wide64.again high high_fits)
    ∙ ap (λ (x : ℕ). high * 18446744073709551616 + x) (wide64.again low low_fits)
    ∙ sym parts

-- bytes past the end count for nothing, so the bound holds of every list of bytes
bound_128 : (bytes : List ℕ) → AreBytes bytes → from_be_bytes w128 bytes < 2 ^ 128
bound_128 bytes fits =
    omega (arith, fits 0, fits 1, fits 2, fits 3, fits 4, fits 5, fits 6, fits 7, fits 8, fits 9, fits 10, fits 11, fits 12, fits 13, fits 14, fits 15)

pub wide128 : IsWide w128 (2 ^ 128)
wide128 = record {
  len = λ n. refl;
  back = back_128;
  again = again_128;
  below = bound_128;
}
