-- A text cut at the first byte of a kind: where it is cut, and that it is cut at one place alone.
use Rattle.std.proofs.Common.{◌≡◌, ℕ, zero, suc, ◌<◌, ◌≤◌, true, not, eqb, List, [], ◌∷◌, ◌++◌, length, get_or, take, drop, refl}
use Rattle.std.proofs.Common.{sym, ap, ◌∙◌, arith}
use Rattle.std.proofs.Common.{eq-eqb}
use Rattle.std.proofs.lemmas.Bool.{and_from, and_parts, eqb-true}
use Rattle.std.proofs.lemmas.List.Folds.{list_all-append}
use Rattle.std.proofs.lemmas.List.{take_all}
use Rattle.memchr.specs.Find.{is_byte}
use Rattle.scenario_reader.proofs.Cuts.{NoneBelow}
use Rattle.trace_text.specs.Digits.{lacks}

-- ---- where it is cut

-- what stands before the first such byte has none
pub lacks-below : (byte : ℕ) (text : List ℕ) (k : ℕ) → NoneBelow (is_byte byte) text k → k ≤ length text → lacks byte (take k text) ≡ true
lacks-below byte text zero none within = refl
lacks-below byte [] (suc k) none within = absurd (omega arith)
lacks-below byte (b ∷ text) (suc k) none within =
    and_from (not (eqb b byte)) (lacks byte (take k text)) (ap not (none.fails 0 (omega arith)))
    (lacks-below byte text k (record { fails = λ j before. none.fails (suc j) (omega arith) }) (omega arith))

pub lacks-all : (byte : ℕ) (text : List ℕ) → NoneBelow (is_byte byte) text (length text) → lacks byte text ≡ true
lacks-all byte text none =
    ap (lacks byte) (sym (take_all (length text) text (omega arith))) ∙ lacks-below byte text (length text) none (omega arith)

-- the parts before and behind place k, and the byte there
pub cut_at : (byte : ℕ) (text : List ℕ) (k : ℕ) → k < length text → is_byte byte (get_or text k 0) ≡ true → text ≡ take k text ++ byte ∷ drop (suc k) text
cut_at byte [] k within is = absurd (omega arith)
cut_at byte (b ∷ text) zero within is = ap (λ (n : ℕ). n ∷ text) (eqb-true b byte is)
cut_at byte (b ∷ text) (suc k) within is = ap (λ (t : List ℕ). b ∷ t) (cut_at byte text k (omega arith) is)

-- ---- at one place alone

lacks_first : (byte c : ℕ) (text : List ℕ) → c ≡ byte → lacks byte (c ∷ text) ≡ true → ⊥
lacks_first byte c text is h =
    let same : eqb c byte ≡ true = eq-eqb c byte is in
    let other : not (eqb c byte) ≡ true = (and_parts (not (eqb c byte)) (lacks byte text) h).0 in
    let none : not true ≡ true = rw same at other in
    cc

-- a text without the byte is not cut
pub uncut : (byte : ℕ) (text before behind : List ℕ) → lacks byte text ≡ true → text ≡ before ++ byte ∷ behind → ⊥
uncut byte text before behind none is =
    let parts = and_parts (lacks byte before) (lacks byte (byte ∷ behind))
    (sym (list_all-append (λ (b : ℕ). not (eqb b byte)) before (byte ∷ behind)) ∙ sym (ap (lacks byte) is) ∙ none) in
    lacks_first byte byte behind refl parts.1

pub record AreSameCut (a b x y : List ℕ) : Type 0 where
  pub before : a ≡ b
  pub behind : x ≡ y

pub cut_told : (byte : ℕ) (a b x y : List ℕ) → lacks byte a ≡ true → lacks byte b ≡ true → a ++ byte ∷ x ≡ b ++ byte ∷ y → AreSameCut a b x y
cut_told byte [] [] x y none none_too is = record { before = refl; behind = ap (drop 1) is }
cut_told byte [] (c ∷ b) x y none none_too is =
    let first : byte ≡ c = ap (λ (t : List ℕ). get_or t 0 0) is in
    absurd (lacks_first byte c b (sym first) none_too)
cut_told byte (c ∷ a) [] x y none none_too is =
    let first : c ≡ byte = ap (λ (t : List ℕ). get_or t 0 0) is in
    absurd (lacks_first byte c a first none)
cut_told byte (c ∷ a) (d ∷ b) x y none none_too is =
    let first : c ≡ d = ap (λ (t : List ℕ). get_or t 0 0) is in
    let rest = cut_told byte a b x y (and_parts (not (eqb c byte)) (lacks byte a) none).1 (and_parts (not (eqb d byte)) (lacks byte b) none_too).1
    (ap (drop 1) is) in
    record { before = ap (λ (n : ℕ). n ∷ a) first ∙ ap (λ (t : List ℕ). d ∷ t) rest.before; behind = rest.behind }
