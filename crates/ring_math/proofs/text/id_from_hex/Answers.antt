use Rattle.std.proofs.Common.{◌≡◌, List, ℕ, Result, Ok, Err, Some, ap, sym, ◌∙◌, refl}
use Rattle.std.specs.Prelude.{MatchResult}
use Rattle.hex.specs.declared.error.FromHexError.{FromHexError}
use Rattle.ring_math.specs.Texts.{faulty_place}
use Rattle.ring_math.specs.declared.text.IdFault.TheVariants.{Digit}
use Rattle.ring_math.proofs.Spelling.{id_read-decoded, id_read-refused}
use Rattle.ring_math.proofs.text.id_from_hex.Goals as goal

-- what hex's decoding into `out` says, from what it answered
decoded : (read : Result (List ℕ) FromHexError) (answer : Result (Unit {0}) FromHexError) (out : List ℕ) →
    MatchResult read (λ bytes. (answer ≡ Ok tt) × (out ≡ bytes)) (λ e. answer ≡ Err e) → answer ≡ Ok tt → read ≡ Ok out
decoded (Ok bytes) answer out h e = ap Ok (sym h.1)
decoded (Err f) answer out h e = cc

refused : (read : Result (List ℕ) FromHexError) (answer : Result (Unit {0}) FromHexError) (out : List ℕ) (f : FromHexError) →
    MatchResult read (λ bytes. (answer ≡ Ok tt) × (out ≡ bytes)) (λ e. answer ≡ Err e) → answer ≡ Err f → read ≡ Err f
refused (Ok bytes) answer out f h e = let g = h.0 in cc
refused (Err g) answer out f h e = let same = sym h ∙ e in cc

pub place_of-requires : goal.place_of-requires
place_of-requires c =
    let bad = id_read-refused c.args.text.now c.in-Err.fault c.if-text.false
    (refused _ _ c.decode_to_slice.new.out _ c.decode_to_slice.ensures.value c.in-Err.is) in rw bad.1 refl

pub returns-in-Ok : goal.returns-in-Ok
returns-in-Ok c =
    let read = id_read-decoded c.args.text.now c.decode_to_slice.new.out c.if-text.false
    (decoded _ _ _ c.decode_to_slice.ensures.value c.in-Ok.is) in
    ap Ok c.from_be_bytes.ensures ∙ sym read

pub returns-in-Err : goal.returns-in-Err
returns-in-Err c =
    let bad = id_read-refused c.args.text.now c.in-Err.fault c.if-text.false
    (refused _ _ c.decode_to_slice.new.out _ c.decode_to_slice.ensures.value c.in-Err.is) in
    let place : faulty_place c.in-Err.fault ≡ Some bad.0 = ap faulty_place bad.1 in
    let same : c.place_of.result ≡ bad.0 = let named = c.place_of.ensures in cc in
    ap (λ p. Err (Digit p)) same ∙ sym bad.2
