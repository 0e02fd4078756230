-- Fields written one behind another.
use Rattle.std.proofs.Common.{◌≡◌, ℕ, ◌+◌, ◌*◌, ◌<◌, ◌^◌, List, [], ◌∷◌, ◌++◌, length, sym, ap, ◌∙◌, append_assoc, arith}
use Rattle.std.specs.List.{flat_map}
use Rattle.std.proofs.lemmas.List.{append-nil}
use Rattle.std.proofs.lemmas.Grind.{flat_map-append}
use Rattle.wire_codec.specs.Fields.{Field, spelled}
use Rattle.std.specs.Int.{w32, w64, w128, to_be_bytes}
use Rattle.wire_msg.specs.Words.{Envelope}
use Rattle.wire_codec.specs.Kinds.{number_of, version_of, kind_of, fields_of}
use Rattle.wire_codec.specs.Sizes.{size_of_all}
use Rattle.wire_codec.specs.Spelling.{Spells, contents_of, version_number}
use Rattle.wire_codec.specs.Writing.{Writes}
use Rattle.wire_codec.proofs.Numbers.{halves_spelled}
use Rattle.wire_codec.proofs.Sized.{length-fields}

pub writes_then : {a b c : List ℕ} {f : Field} {fs : List Field} → Writes a b (f ∷ []) → Writes b c fs → Writes a c (f ∷ fs)
writes_then {a} {b} {c} {f} {fs} first others = record {
  bytes = others.bytes ∙ ap (λ (x : List ℕ). x ++ flat_map spelled fs) (first.bytes ∙ ap (λ (x : List ℕ). a ++ x) (append-nil (spelled f)))
      ∙ append_assoc a (spelled f) (flat_map spelled fs);
  fits = (first.fits.0, others.fits);
}

-- the command that is asked, and other fields behind it
pub asked_then : {a b c : List ℕ} {origin number : ℕ} {fs : List Field} → Writes a b (Field.Id origin ∷ (Field.Number number ∷ [])) → Writes b c fs →
    Writes a c (Field.Id origin ∷ (Field.Number number ∷ fs))
asked_then {a} {b} {c} {origin} {number} {fs} first others = let asked = Field.Id origin ∷ (Field.Number number ∷ []) in record {
  bytes = others.bytes ∙ ap (λ (x : List ℕ). x ++ flat_map spelled fs) first.bytes ∙ append_assoc a (flat_map spelled asked) (flat_map spelled fs)
      ∙ ap (λ (x : List ℕ). a ++ x) (sym (flat_map-append spelled asked fs));
  fits = (first.fits.0, (first.fits.1.0, others.fits));
}

-- the fields of an envelope's addresses, and others behind them
pub addresses_then : {a b c : List ℕ} {sender receiver stamp : ℕ} {fs : List Field} →
    Writes a b (Field.Id sender ∷ (Field.Id receiver ∷ (Field.Number stamp ∷ []))) → Writes b c fs →
    Writes a c (Field.Id sender ∷ (Field.Id receiver ∷ (Field.Number stamp ∷ fs)))
addresses_then {a} {b} {c} {sender} {receiver} {stamp} {fs} first others = let addresses =
    Field.Id sender ∷ (Field.Id receiver ∷ (Field.Number stamp ∷ [])) in record {
      bytes = others.bytes ∙ ap (λ (x : List ℕ). x ++ flat_map spelled fs) first.bytes ∙ append_assoc a (flat_map spelled addresses) (flat_map spelled fs)
          ∙ ap (λ (x : List ℕ). a ++ x) (sym (flat_map-append spelled addresses fs));
      fits = (first.fits.0, (first.fits.1.0, (first.fits.1.1.0, others.fits)));
    }

-- an identifier is written by halves
pub id_written : (id high low : ℕ) {a b c : List ℕ} → id < 2 ^ 128 → id ≡ high * 18446744073709551616 + low → low < 2 ^ 64 → high < 2 ^ 64
    → b ≡ a ++ to_be_bytes w64 high → c ≡ b ++ to_be_bytes w64 low → Writes a c (Field.Id id ∷ [])
id_written id high low {a} {b} {c} fits parts low_fits high_fits first second = record {
  bytes = second ∙ ap (λ (x : List ℕ). x ++ to_be_bytes w64 low) first ∙ append_assoc a (to_be_bytes w64 high) (to_be_bytes w64 low)
      ∙ ap (λ (x : List ℕ). a ++ x) (sym (halves_spelled id high low parts low_fits high_fits) ∙ sym (append-nil (to_be_bytes w128 id)));
  fits = (fits, tt);
}

-- an identifier and a number are written by words
pub asked_written : (origin number high low : ℕ) {old new : List ℕ} → origin < 2 ^ 128 → number < 2 ^ 64
    → origin ≡ high * 18446744073709551616 + low → low < 2 ^ 64 → high < 2 ^ 64
    → new ≡ old ++ (to_be_bytes w64 high ++ (to_be_bytes w64 low ++ (to_be_bytes w64 number ++ [])))
    → Writes old new (Field.Id origin ∷ (Field.Number number ∷ []))
asked_written origin number high low {old} {new} fits fits_number parts low_fits high_fits written = record {
  bytes = written
      ∙ ap (λ (x : List ℕ). old ++ x)
      (sym (append_assoc (to_be_bytes w64 high) (to_be_bytes w64 low) _)
      ∙ ap (λ (x : List ℕ). x ++ (to_be_bytes w64 number ++ [])) (sym (halves_spelled origin high low parts low_fits high_fits)));
  fits = (fits, (fits_number, tt));
}

-- two identifiers and a number are written by words
pub addresses_written : (sender receiver stamp high low high_too low_too : ℕ) {old new : List ℕ} → sender < 2 ^ 128 → receiver < 2 ^ 128 → stamp < 2 ^ 64
    → sender ≡ high * 18446744073709551616 + low → low < 2 ^ 64 → high < 2 ^ 64
    → receiver ≡ high_too * 18446744073709551616 + low_too → low_too < 2 ^ 64 → high_too < 2 ^ 64
    → new ≡ old ++ (to_be_bytes w64 high ++ (to_be_bytes w64 low ++ (to_be_bytes w64 high_too ++ (to_be_bytes w64 low_too ++ (to_be_bytes w64 stamp ++ [])))))
    → Writes old new (Field.Id sender ∷ (Field.Id receiver ∷ (Field.Number stamp ∷ [])))
addresses_written sender receiver stamp high low high_too low_too {old} {new} fits fits_too fits_stamp parts low_fits high_fits parts_too low_fits_too
    high_fits_too written = record {
      bytes = written
          ∙ ap (λ (x : List ℕ). old ++ x)
          (sym (append_assoc (to_be_bytes w64 high) (to_be_bytes w64 low) _)
          ∙ ap (λ (x : List ℕ). x ++ (to_be_bytes w64 high_too ++ (to_be_bytes w64 low_too ++ (to_be_bytes w64 stamp ++ []))))
          (sym (halves_spelled sender high low parts low_fits high_fits))
          ∙ ap (λ (x : List ℕ). to_be_bytes w128 sender ++ x)
          (sym (append_assoc (to_be_bytes w64 high_too) (to_be_bytes w64 low_too) _)
          ∙ ap (λ (x : List ℕ). x ++ (to_be_bytes w64 stamp ++ [])) (sym (halves_spelled receiver high_too low_too parts_too low_fits_too high_fits_too))));
      fits = (fits, (fits_too, (fits_stamp, tt)));
    }

-- behind a header with the right size, the fields of an envelope make its frame
pub frame_written : (e : Envelope) (size : ℕ) {header a b : List ℕ}
    → header ≡ version_number (version_of (kind_of e.message)) ∷ number_of (kind_of e.message) ∷ to_be_bytes w32 size
    → size ≡ 40 + size_of_all (fields_of e.message) → Writes header a (Field.Id e.sender ∷ (Field.Id e.receiver ∷ (Field.Number e.stamp ∷ [])))
    → Writes a b (fields_of e.message) → Spells b e
frame_written e size {header} {a} {b} header_is size_is addresses fields =
    let all = addresses_then addresses fields in
    let long : size ≡ length (flat_map spelled (contents_of e).fields) = omega (arith, length-fields (contents_of e).fields all.fits) in
    record {
      bytes_are = all.bytes ∙ ap (λ (front : List ℕ). front ++ flat_map spelled (contents_of e).fields)
          (header_is ∙ ap (λ (n : ℕ). version_number (version_of (kind_of e.message)) ∷ number_of (kind_of e.message) ∷ to_be_bytes w32 n) long);
      fits = all.fits;
    }
