-- Lists of identifiers and of files: what is spelled is cut again, and what is cut was spelled so.
use Rattle.std.proofs.Common.{◌≡◌, ℕ, zero, suc, ◌*◌, ◌<◌, ◌^◌, List, [], ◌∷◌, ◌++◌, length, map, take, drop, refl, sym, ap, ◌∙◌, arith}
use Rattle.std.specs.List.{flat_map, AllByRecursion}
use Rattle.std.specs.Simd.{first_chunks}
use Rattle.std.specs.Int.{w128, from_be_bytes, to_be_bytes}
use Rattle.std.proofs.lemmas.List.{take_at, drop_at, take-append-drop, length-take, length-drop, nil_from_length}
use Rattle.wire_codec.specs.Fields.{AreBytes, IsFile}
use Rattle.wire_codec.proofs.Numbers.{wide128, AreBytes-take, AreBytes-drop}

abbrev pub ids_of : ℕ → List ℕ → List ℕ
ids_of n part = map (from_be_bytes w128) (first_chunks 16 n part)

pub ids_again : (ids : List ℕ) → AllByRecursion (λ id. id < 2 ^ 128) ids → ids_of (length ids) (flat_map (to_be_bytes w128) ids) ≡ ids
ids_again [] fits = refl
ids_again (id ∷ ids) fits =
    let first = wide128.again id fits.0 in
    let others = ids_again ids fits.1 in
    ap (λ (x : ℕ). x ∷ ids_of (length ids) (flat_map (to_be_bytes w128) ids)) first ∙ ap (λ (xs : List ℕ). id ∷ xs) others

-- a part of the bytes was the spelling of these identifiers
pub record AreIds (n : ℕ) (part ids : List ℕ) : Type 0 where
  pub spelled : flat_map (to_be_bytes w128) ids ≡ part
  pub len : length ids ≡ n
  pub fit : AllByRecursion (λ id. id < 2 ^ 128) ids

pub ids_taken : (n : ℕ) (part : List ℕ) → length part ≡ 16 * n → AreBytes part → AreIds n part (ids_of n part)
ids_taken zero part len fits = record { spelled = sym (nil_from_length part (omega arith)); len = refl; fit = tt }
ids_taken (suc n) part len fits =
    let here = AreBytes-take 16 part fits in
    let others = ids_taken n (drop 16 part) (omega (arith, length-drop 16 part)) (AreBytes-drop 16 part fits) in
    let back = wide128.back (take 16 part) (omega (arith, length-take 16 part)) here in
    record {
      spelled = ap (λ (x : List ℕ). x ++ flat_map (to_be_bytes w128) (ids_of n (drop 16 part))) back ∙ ap (λ (x : List ℕ). take 16 part ++ x) others.spelled
          ∙ take-append-drop 16 part;
      len = ap suc others.len;
      fit = (wide128.below (take 16 part) here, others.fit);
    }

pub files_again : (files : List (List ℕ)) → AllByRecursion IsFile files → first_chunks 20 (length files) (flat_map (λ file. file) files) ≡ files
files_again [] fits = refl
files_again (file ∷ files) fits =
    let front = take_at file (flat_map (λ f. f) files) 20 fits.0.0 in
    let rest = drop_at file (flat_map (λ f. f) files) 20 fits.0.0 in
    let others = files_again files fits.1 in
    rw (front, rest, others) refl

-- a part of the bytes was the spelling of these files
pub record AreCut (n : ℕ) (part : List ℕ) (files : List (List ℕ)) : Type 0 where
  pub spelled : flat_map (λ file. file) files ≡ part
  pub len : length files ≡ n
  pub fit : AllByRecursion IsFile files

pub files_taken : (n : ℕ) (part : List ℕ) → length part ≡ 20 * n → AreBytes part → AreCut n part (first_chunks 20 n part)
files_taken zero part len fits = record { spelled = sym (nil_from_length part (omega arith)); len = refl; fit = tt }
files_taken (suc n) part len fits =
    let others = files_taken n (drop 20 part) (omega (arith, length-drop 20 part)) (AreBytes-drop 20 part fits) in
    record {
      spelled = ap (λ (x : List ℕ). take 20 part ++ x) others.spelled ∙ take-append-drop 20 part;
      len = ap suc others.len;
      fit = ((omega (arith, length-take 20 part), AreBytes-take 20 part fits), others.fit);
    }
