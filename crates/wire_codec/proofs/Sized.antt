-- The spelling of fields that fit has the size of the fields.
use Rattle.std.proofs.Common.{◌≡◌, ℕ, ◌*◌, List, [], ◌∷◌, length, refl, arith, length-append}
use Rattle.std.specs.List.{flat_map, AllByRecursion}
use Rattle.std.specs.Int.{w16, w128, to_be_bytes}
use Rattle.wire_codec.specs.Fields.{Field, IsFile, spelled, Fits}
use Rattle.wire_codec.specs.Sizes.{size_of, size_of_all}

pub length-ids : (ids : List ℕ) → length (flat_map (to_be_bytes w128) ids) ≡ 16 * length ids
length-ids [] = refl
length-ids (id ∷ ids) = omega (arith, length-ids ids, length-append (to_be_bytes w128 id) (flat_map (to_be_bytes w128) ids))

pub length-files : (files : List (List ℕ)) → AllByRecursion IsFile files → length (flat_map (λ file. file) files) ≡ 20 * length files
length-files [] fits = refl
length-files (file ∷ files) fits = omega (arith, fits.0.0, length-files files fits.1, length-append file (flat_map (λ file. file) files))

pub length-spelled : (field : Field) → Fits field → length (spelled field) ≡ size_of field
length-spelled (Field.Id id) fits = refl
length-spelled (Field.File file) fits = fits.0
length-spelled (Field.Number number) fits = refl
length-spelled (Field.Attempt attempt) fits = refl
length-spelled (Field.Hops hops) fits = refl
length-spelled (Field.Copies copies) fits = refl
length-spelled (Field.Bytes bytes) fits = omega (arith, length-append (to_be_bytes w16 (length bytes)) bytes)
length-spelled (Field.Ids ids) fits = omega (arith, length-ids ids)
length-spelled (Field.Files files) fits =
    omega (arith, length-files files fits.2, length-append (to_be_bytes w16 (length files)) (flat_map (λ file. file) files))
length-spelled (Field.Tombs tombs) fits =
    omega (arith, length-files tombs fits.2, length-append (to_be_bytes w16 (length tombs)) (flat_map (λ tomb. tomb) tombs))
length-spelled (Field.Tag tag) fits = refl

pub length-fields : (fields : List Field) → AllByRecursion Fits fields → length (flat_map spelled fields) ≡ size_of_all fields
length-fields [] fits = refl
length-fields (field ∷ fields) fits =
    omega (arith, length-spelled field fits.0, length-fields fields fits.1, length-append (spelled field) (flat_map spelled fields))
