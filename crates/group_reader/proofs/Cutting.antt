-- Texts of whole lines: lines of one and of what stands behind it, and how the line `groups` is come to.
use Rattle.std.proofs.Common.{◌≡◌, ◌<◌, ◌≤◌, ◌+◌, ◌-◌, ◌==◌, min, ℕ, zero, suc, nat_lt, Bool, true, false, cond, List, [], ◌∷◌, ◌++◌, length, take}
use Rattle.std.proofs.Common.{drop, get_or}
use Rattle.std.proofs.Common.{append_assoc, length-drop, refl, sym, ap, subst, ◌∙◌, arith, Result, Ok, Err, inl, inr}
use Rattle.std.specs.List.{onto_first}
use Rattle.std.proofs.Math.Seq.{take-add}
use Rattle.std.proofs.lemmas.Bool.{cases_lt, ltb-false}
use Rattle.std.proofs.lemmas.Bool.Decides.{Decides-eqb, nat_tests}
use Rattle.std.proofs.lemmas.List.{drop-drop, drop_all, length-take-le, length_push, take_all}
use Rattle.memchr.specs.Find.{is_byte}
use Rattle.scenario_reader.specs.declared.fault.LineFault.{LineFault}
use Rattle.scenario_reader.specs.declared.fault.LineFault.TheVariants as fault
use Rattle.scenario_reader.specs.declared.limits.TheConstants.{MOST_LINES}
use Rattle.scenario_reader.specs.Grammar as scenario
use Rattle.scenario_reader.specs.Lines.{lines_of}
use Rattle.scenario_reader.specs.Plain.{PlainScenario, Draft as ScenarioDraft}
use Rattle.scenario_reader.proofs.Cuts.{NoneBelow}
use Rattle.group_reader.specs.Grammar.{and_then, read_from, read_line}
use Rattle.group_reader.specs.Parts.{IsClosed, is_mark, part_one, part_two}
use Rattle.group_reader.specs.Plain.{Draft}

-- ---- whole lines

-- a text with a byte has a first line
record HasFirst (lines : List (List ℕ)) : Type 0 where
  line : List ℕ
  others : List (List ℕ)
  is : lines ≡ line ∷ others

onto_some : (byte : ℕ) (lines : List (List ℕ)) → HasFirst (onto_first byte lines)
onto_some byte [] = record { line = byte ∷ []; others = []; is = refl }
onto_some byte (line ∷ lines) = record { line = byte ∷ line; others = lines; is = refl }

has_first : (byte : ℕ) (text : List ℕ) → HasFirst (lines_of (byte ∷ text))
has_first byte text = by_test (byte == 10) where
  by_test : (t : Bool) → HasFirst (cond t ([] ∷ lines_of text) (onto_first byte (lines_of text)))
  by_test true = record { line = []; others = lines_of text; is = refl }
  by_test false = onto_some byte (lines_of text)

onto_more : (byte : ℕ) (lines others : List (List ℕ)) → HasFirst lines → onto_first byte (lines ++ others) ≡ onto_first byte lines ++ others
onto_more byte lines others f = let e = f.is in rw e refl

pub lines_append : (xs ys : List ℕ) → IsClosed xs → lines_of (xs ++ ys) ≡ lines_of xs ++ lines_of ys
lines_append [] ys h = refl
lines_append (byte ∷ []) ys h = let ends : byte == 10 ≡ true = (Decides-eqb byte 10).1 h in rw ends refl
lines_append (byte ∷ next ∷ text) ys h = by_test (byte == 10) (lines_append (next ∷ text) ys h) where
  by_test : (t : Bool) → lines_of ((next ∷ text) ++ ys) ≡ lines_of (next ∷ text) ++ lines_of ys →
      cond t ([] ∷ lines_of ((next ∷ text) ++ ys)) (onto_first byte (lines_of ((next ∷ text) ++ ys)))
      ≡ cond t ([] ∷ lines_of (next ∷ text)) (onto_first byte (lines_of (next ∷ text))) ++ lines_of ys
  by_test true rest = ap (λ (ls : List (List ℕ)). [] ∷ ls) rest
  by_test false rest = ap (onto_first byte) rest ∙ onto_more byte (lines_of (next ∷ text)) (lines_of ys) (has_first next text)

pub closed_append : (xs ys : List ℕ) → 0 < length ys → IsClosed ys → IsClosed (xs ++ ys)
closed_append xs [] some h = absurd (omega arith)
closed_append [] (y ∷ ys) some h = h
closed_append (x ∷ []) (y ∷ ys) some h = h
closed_append (x ∷ z ∷ xs) (y ∷ ys) some h = closed_append (z ∷ xs) (y ∷ ys) some h

-- ---- one line

tail_below : (byte : ℕ) (text : List ℕ) (k : ℕ) → NoneBelow (is_byte 10) (byte ∷ text) (suc k) → NoneBelow (is_byte 10) text k
tail_below byte text k none = record { fails = λ j before. none.fails (suc j) (omega arith) }

-- a line with its end
pub line_alone : (text : List ℕ) (k : ℕ) → k < length text → NoneBelow (is_byte 10) text k → is_byte 10 (get_or text k 0) ≡ true →
    lines_of (take (suc k) text) ≡ take k text ∷ []
line_alone [] k within none ends = absurd (omega arith)
line_alone (byte ∷ text) zero within none ends = rw ends refl
line_alone (byte ∷ text) (suc k) within none ends =
    rw (none.fails 0 (omega arith)) (ap (onto_first byte) (line_alone text k (omega arith) (tail_below byte text k none) ends))

pub line_closed : (text : List ℕ) (k : ℕ) → k < length text → is_byte 10 (get_or text k 0) ≡ true → IsClosed (take (suc k) text)
line_closed [] k within ends = absurd (omega arith)
line_closed (byte ∷ text) zero within ends = (Decides-eqb byte 10).0 ends
line_closed (byte ∷ []) (suc k) within ends = absurd (omega arith)
line_closed (byte ∷ next ∷ text) (suc k) within ends = line_closed (next ∷ text) k (omega arith) ends

-- ---- the line `groups`

one_later : (line : List ℕ) (lines : List (List ℕ)) → is_mark line ≡ false → part_one (line ∷ lines) ≡ line ∷ part_one lines
one_later line lines t = rw t refl

two_later : (line : List ℕ) (lines : List (List ℕ)) → is_mark line ≡ false → part_two (line ∷ lines) ≡ part_two lines
two_later line lines t = rw t refl

-- the lines before this place are whole, so many, and none of them is `groups`
pub record IsCutTo (bytes : List ℕ) (from lines : ℕ) : Type 0 where
  pub within : from ≤ length bytes
  pub closed : from < length bytes → IsClosed (take from bytes)
  pub one : part_one (lines_of bytes) ≡ lines_of (take from bytes) ++ part_one (lines_of (drop from bytes))
  pub two : part_two (lines_of bytes) ≡ part_two (lines_of (drop from bytes))
  pub count : lines ≡ length (lines_of (take from bytes))
  pub few : lines ≤ from

-- past one line more
pub cut_next : (bytes : List ℕ) (from lines end next : ℕ) → IsCutTo bytes from lines → from < length bytes → end ≤ length (drop from bytes) →
    next ≡ min (end + 1) (length (drop from bytes)) →
    lines_of (drop from bytes) ≡ take end (drop from bytes) ∷ lines_of (drop (end + 1) (drop from bytes)) →
    lines_of (take (end + 1) (drop from bytes)) ≡ take end (drop from bytes) ∷ [] →
    (end < length (drop from bytes) → IsClosed (take (end + 1) (drop from bytes))) →
    is_mark (take end (drop from bytes)) ≡ false → IsCutTo bytes (from + next) (lines + 1)
cut_next bytes from lines end next h more within is first alone closed other = record {
  within = let l = rest_length in omega arith;
  closed = λ lt.
      let l = rest_length in
      let ends : end < length rest = omega arith in
      subst IsClosed (sym (taken ∙ ap (λ xs. take from bytes ++ xs) next_taken))
      (closed_append (take from bytes) (take (end + 1) rest) (let t = length-take-le (end + 1) rest (omega arith) in omega arith) (closed ends));
  one = h.one ∙ ap (λ ls. lines_of (take from bytes) ++ part_one ls) first
      ∙ ap (λ ls. lines_of (take from bytes) ++ ls) (one_later line (lines_of (drop (end + 1) rest)) other)
      ∙ sym (append_assoc (lines_of (take from bytes)) (line ∷ []) (part_one (lines_of (drop (end + 1) rest))))
      ∙ ap (λ ls. ls ++ part_one (lines_of (drop (end + 1) rest))) (sym lines_now)
      ∙ ap (λ xs. lines_of (take (from + next) bytes) ++ part_one (lines_of xs)) (sym dropped);
  two = h.two ∙ ap part_two first ∙ two_later line (lines_of (drop (end + 1) rest)) other ∙ ap (λ xs. part_two (lines_of xs)) (sym dropped);
  count =
      let now = ap (λ (ls : List (List ℕ)). length ls) lines_now in
      let long = length_push (lines_of (take from bytes)) line in
      let was = h.count in omega arith;
  few = let l = rest_length in let few = h.few in omega arith;
} where
  rest : List ℕ
  rest = drop from bytes

  line : List ℕ
  line = take end rest

  rest_length : length rest ≡ length bytes - from
  rest_length = length-drop from bytes

  by_end : {A : Type 0} → (next ≡ end + 1 → A) → (next ≡ length rest → length rest ≤ end + 1 → A) → A
  by_end f g = elim (cases_lt (length rest) (end + 1)) [ inl lt ↦ g (omega arith) (omega arith) | inr ge ↦ f (omega arith) ]

  next_taken : take next rest ≡ take (end + 1) rest
  next_taken = by_end (λ e. ap (λ k. take k rest) e)
      (λ e le. ap (λ k. take k rest) e ∙ take_all (length rest) rest (omega arith) ∙ sym (take_all (end + 1) rest le))

  next_dropped : drop next rest ≡ drop (end + 1) rest
  next_dropped = by_end (λ e. ap (λ k. drop k rest) e)
      (λ e le. ap (λ k. drop k rest) e ∙ drop_all (length rest) rest (omega arith) ∙ sym (drop_all (end + 1) rest le))

  taken : take (from + next) bytes ≡ take from bytes ++ take next rest
  taken = take-add from next bytes

  dropped : drop (from + next) bytes ≡ drop (end + 1) rest
  dropped = sym (drop-drop next from bytes) ∙ next_dropped

  lines_now : lines_of (take (from + next) bytes) ≡ lines_of (take from bytes) ++ line ∷ []
  lines_now =
      ap lines_of taken ∙ lines_append (take from bytes) (take next rest) (h.closed more)
      ∙ ap (λ ls. lines_of (take from bytes) ++ ls) (ap lines_of next_taken ∙ alone)

-- ---- too many lines

pub too_many : (d : Draft) (n k : ℕ) (bytes : List ℕ) → 0 < length bytes → MOST_LINES < k → read_from d n k (lines_of bytes) ≡ Err (fault.Limit n 0)
too_many d n k [] some lt = absurd (omega arith)
too_many d n k (byte ∷ bytes) some lt =
    let f : HasFirst (lines_of (byte ∷ bytes)) = has_first byte bytes in
    let yes : nat_lt MOST_LINES k ≡ true = grind (arith, nat_tests) in
    ap (read_from d n k) f.is ∙ ap (λ t. cond t (Err (fault.Limit n 0)) (and_then (read_line d n f.line) (λ next. read_from next (n + 1) (k + 1) f.others))) yes

-- the lines of a scenario that was read are not too many
pub few_lines : (d : ScenarioDraft) (n : ℕ) (lines : List (List ℕ)) (s : PlainScenario) → n ≤ MOST_LINES + 1 → scenario.read_from d n lines ≡ Ok s →
    n + length lines ≤ MOST_LINES + 1
few_lines d n [] s le is = omega arith
few_lines d n (line ∷ lines) s le is = by_count (nat_lt MOST_LINES n) refl is (λ next lt e. few_lines next (n + 1) lines s (omega arith) e) where
  by_line : (r : Result ScenarioDraft LineFault) → n < MOST_LINES + 1 → scenario.and_then r (λ next. scenario.read_from next (n + 1) lines) ≡ Ok s →
      ((next : ScenarioDraft) → n < MOST_LINES + 1 → scenario.read_from next (n + 1) lines ≡ Ok s → n + 1 + length lines ≤ MOST_LINES + 1) →
      n + suc (length lines) ≤ MOST_LINES + 1
  by_line (Ok next) lt e later = let few = later next lt e in omega arith
  by_line (Err fault) lt e later = cc

  by_count : (t : Bool) → nat_lt MOST_LINES n ≡ t →
      cond t (Err (fault.Limit n 0)) (scenario.and_then (scenario.read_line d n line) (λ next. scenario.read_from next (n + 1) lines)) ≡ Ok s →
      ((next : ScenarioDraft) → n < MOST_LINES + 1 → scenario.read_from next (n + 1) lines ≡ Ok s → n + 1 + length lines ≤ MOST_LINES + 1) →
      n + suc (length lines) ≤ MOST_LINES + 1
  by_count true t e later = cc
  by_count false t e later = let few = ltb-false MOST_LINES n t in by_line (scenario.read_line d n line) (omega arith) e later
