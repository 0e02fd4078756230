-- How lines are cut out of bytes that come piece by piece, and that these are the lines of all the bytes.
use Rattle.std.proofs.Common.{◌≡◌, ◌∙◌, ◌<◌, ℕ, false, List, [], ◌∷◌, ◌++◌, length, append-nil, append_assoc, ap, refl, sym, arith}
use Rattle.std.specs.List.{AllByRecursion, flat_map, onto_first}
use Rattle.std.proofs.lemmas.List.Concat.{flat_map-append}
use Rattle.wire_codec.proofs.Lists.{AllByRecursion-append}
use Rattle.scenario_reader.specs.Lines.{lines_of}
use Rattle.node_service.specs.Cut.{HasNoEnd, IsCut, ended, is_end}

-- nothing came
pub cut_nothing : (line : List ℕ) → HasNoEnd line → IsCut (line ++ []) [] line
cut_nothing line begun = record { whole = append-nil line; each = tt; begun = begun }

-- a byte that ends no line
pub cut_byte : (line : List ℕ) (byte : ℕ) → HasNoEnd line → is_end byte ≡ false → IsCut (line ++ byte ∷ []) [] (line ++ byte ∷ [])
cut_byte line byte begun goes_on = record {
  whole = refl;
  each = tt;
  begun = AllByRecursion-append (λ (b : ℕ). is_end b ≡ false) line (byte ∷ []) begun (goes_on, tt);
}

-- the byte that ends one
pub cut_end : (line : List ℕ) → HasNoEnd line → IsCut (line ++ 10 ∷ []) (line ∷ []) []
cut_end line begun = record {
  whole = sym (append-nil (ended line)) ∙ sym (append-nil (ended line ++ []));
  each = (begun, tt);
  begun = tt;
}

-- one piece after another
pub cut_then : (bytes more : List ℕ) (lines others : List (List ℕ)) (rest last : List ℕ) → IsCut bytes lines rest → IsCut (rest ++ more) others last →
    IsCut (bytes ++ more) (lines ++ others) last
cut_then bytes more lines others rest last first next = record {
  whole =
      ap (λ bs. bs ++ more) first.whole ∙ append_assoc (flat_map ended lines) rest more ∙ ap (λ bs. flat_map ended lines ++ bs) next.whole
      ∙ sym (append_assoc (flat_map ended lines) (flat_map ended others) last) ∙ ap (λ bs. bs ++ last) (sym (flat_map-append ended lines others));
  each = AllByRecursion-append HasNoEnd lines others first.each next.each;
  begun = next.begun;
}

-- the lines of a text that begins with a line and its end
lines_of-ended : (line more : List ℕ) → HasNoEnd line → lines_of (line ++ 10 ∷ more) ≡ line ∷ lines_of more
lines_of-ended [] more none = refl
lines_of-ended (byte ∷ line) more none = rw none.0 (ap (onto_first byte) (lines_of-ended line more none.1))

lines_of-whole : (lines : List (List ℕ)) (more : List ℕ) → AllByRecursion HasNoEnd lines → lines_of (flat_map ended lines ++ more) ≡ lines ++ lines_of more
lines_of-whole [] more each = refl
lines_of-whole (line ∷ lines) more each =
    ap lines_of (append_assoc (ended line) (flat_map ended lines) more ∙ append_assoc line (10 ∷ []) (flat_map ended lines ++ more))
    ∙ lines_of-ended line (flat_map ended lines ++ more) each.0 ∙ ap (λ ls. line ∷ ls) (lines_of-whole lines more each.1)

-- the lines of all bytes are those that ended, and those of the rest with what follows
pub lines_of-cut : (bytes more : List ℕ) (lines : List (List ℕ)) (rest : List ℕ) → IsCut bytes lines rest →
    lines_of (bytes ++ more) ≡ lines ++ lines_of (rest ++ more)
lines_of-cut bytes more lines rest cut =
    ap (λ bs. lines_of (bs ++ more)) cut.whole ∙ ap lines_of (append_assoc (flat_map ended lines) rest more) ∙ lines_of-whole lines (rest ++ more) cut.each

-- what came of a line is one, if it is the last
pub lines_of-last : (line : List ℕ) → HasNoEnd line → 0 < length line → lines_of line ≡ line ∷ []
lines_of-last [] none some = absurd (omega arith)
lines_of-last (byte ∷ []) none some = rw none.0 refl
lines_of-last (byte ∷ next ∷ line) none some = rw none.0 (ap (onto_first byte) (lines_of-last (next ∷ line) none.1 (omega arith)))
