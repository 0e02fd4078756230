-- How the first line is cut off a text, and the first piece off a line.
use Rattle.std.proofs.Common.{◌≡◌, ℕ, zero, suc, ◌<◌, Bool, true, false, List, [], ◌∷◌, length, get_or, take, drop, arith, refl, ap}
use Rattle.std.specs.List.{onto_first, slice_split}
use Rattle.std.proofs.lemmas.Bool.{false_from_ne_true}
use Rattle.memchr.specs.Find.{Nowhere, Passes, is_byte}
use Rattle.scenario_reader.specs.Lines.{lines_of}

-- no byte below place k passes the test
pub record NoneBelow (test : ℕ → Bool) (text : List ℕ) (k : ℕ) : Type 0 where
  pub fails : (j : ℕ) → j < k → test (get_or text j 0) ≡ false

-- what a search that found nothing before place k says
pub NoneBelow-from_search : (byte : ℕ) (text : List ℕ) (k : ℕ) → Nowhere (Passes (is_byte byte) text) 0 k → NoneBelow (is_byte byte) text k
NoneBelow-from_search byte text k nowhere =
    record { fails = λ j before. false_from_ne_true _ (nowhere j (omega arith) before) }

NoneBelow-tail : (test : ℕ → Bool) (byte : ℕ) (text : List ℕ) (k : ℕ) → NoneBelow test (byte ∷ text) (suc k) → NoneBelow test text k
NoneBelow-tail test byte text k none = record { fails = λ j before. none.fails (suc j) (omega arith) }

-- the first end of a line stands at place k
pub lines_of-cut : (text : List ℕ) (k : ℕ) → k < length text → NoneBelow (is_byte 10) text k → is_byte 10 (get_or text k 0) ≡ true →
    lines_of text ≡ take k text ∷ lines_of (drop (suc k) text)
lines_of-cut [] k within none ends = absurd (omega arith)
lines_of-cut (byte ∷ text) zero within none ends = rw ends refl
lines_of-cut (byte ∷ text) (suc k) within none ends =
    rw (none.fails 0 (omega arith)) (ap (onto_first byte) (lines_of-cut text k (omega arith) (NoneBelow-tail (is_byte 10) byte text k none) ends))

-- there is none
pub lines_of-last : (text : List ℕ) → 0 < length text → NoneBelow (is_byte 10) text (length text) → lines_of text ≡ text ∷ []
lines_of-last [] some none = absurd (omega arith)
lines_of-last (byte ∷ []) some none = rw (none.fails 0 (omega arith)) refl
lines_of-last (byte ∷ next ∷ text) some none =
    rw (none.fails 0 (omega arith)) (ap (onto_first byte)
    (lines_of-last (next ∷ text) (omega arith) (NoneBelow-tail (is_byte 10) byte (next ∷ text) (suc (length text)) none)))

-- the first byte that ends a piece stands at place k
pub slice_split-cut : (test : ℕ → Bool) (text : List ℕ) (k : ℕ) → k < length text → NoneBelow test text k → test (get_or text k 0) ≡ true →
    slice_split test text ≡ take k text ∷ slice_split test (drop (suc k) text)
slice_split-cut test [] k within none ends = absurd (omega arith)
slice_split-cut test (byte ∷ text) zero within none ends = rw ends refl
slice_split-cut test (byte ∷ text) (suc k) within none ends =
    rw (none.fails 0 (omega arith)) (ap (onto_first byte) (slice_split-cut test text k (omega arith) (NoneBelow-tail test byte text k none) ends))

-- there is none
pub slice_split-last : (test : ℕ → Bool) (text : List ℕ) → NoneBelow test text (length text) → slice_split test text ≡ text ∷ []
slice_split-last test [] none = refl
slice_split-last test (byte ∷ text) none =
    rw (none.fails 0 (omega arith)) (ap (onto_first byte) (slice_split-last test text (NoneBelow-tail test byte text (length text) none)))
