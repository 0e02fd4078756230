-- How long a script can be: twice 10,000 lines of 9,000 bytes, each with its end, and the line `groups` between them.
use Rattle.std.proofs.Common.{◌≡◌, ◌≤◌, ◌+◌, ◌-◌, ◌*◌, ℕ, suc, nat_lt, Bool, true, false, cond, ◌==◌, List, [], ◌∷◌, length, Option, Some, None}
use Rattle.std.proofs.Common.{Result, Ok, Err, refl, ap, arith}
use Rattle.std.specs.List.{onto_first}
use Rattle.std.specs.Prelude.{IfOk, codes}
use Rattle.std.proofs.lemmas.Slice.Eq.{bytes_eq-Decides}
use Rattle.std.proofs.lemmas.Bool.Decides.{nat_tests}
use Rattle.scenario_reader.specs.declared.fault.LineFault.{LineFault}
use Rattle.scenario_reader.specs.declared.fault.LineFault.TheVariants as fault
use Rattle.scenario_reader.specs.declared.limits.TheConstants.{MOST_LINE_BYTES, MOST_LINES}
use Rattle.scenario_reader.specs.Checks.{fault_if, not_text, too_long}
use Rattle.scenario_reader.specs.Grammar.{◌before◌}
use Rattle.scenario_reader.specs.Grammar as scenario
use Rattle.scenario_reader.specs.Lines.{lines_of}
use Rattle.scenario_reader.specs.Plain.{PlainScenario, Draft as ScenarioDraft}
use Rattle.scenario_reader.specs.Plain as scenario_draft
use Rattle.scenario_reader.specs.Words.{words_of}
use Rattle.group_reader.specs.declared.limits.TheConstants.{MOST_SCRIPT_BYTES}
use Rattle.group_reader.specs.Grammar.{and_then, groups_of, read_from, read_line, read_parts, read_text}
use Rattle.group_reader.specs.Parts.{is_mark, part_one, part_two}
use Rattle.group_reader.specs.Plain.{Draft, PlainScript, nothing_yet}

-- ---- the bytes of lines, each with its end

abbrev total : List (List ℕ) → ℕ
total [] = 0
total (line ∷ lines) = length line + 1 + total lines

total-onto_first : (byte : ℕ) (lines : List (List ℕ)) → total lines + 1 ≤ total (onto_first byte lines)
total-onto_first byte [] = omega arith
total-onto_first byte (line ∷ lines) = omega arith

total-byte : (byte : ℕ) (b : Bool) (n : ℕ) (lines : List (List ℕ)) → n ≤ total lines → suc n ≤ total (cond b ([] ∷ lines) (onto_first byte lines))
total-byte byte true n lines h = omega arith
total-byte byte false n lines h = omega (arith, total-onto_first byte lines)

length-lines : (bytes : List ℕ) → length bytes ≤ total (lines_of bytes)
length-lines [] = omega arith
length-lines (byte ∷ bytes) = total-byte byte (byte == 10) (length bytes) (lines_of bytes) (length-lines bytes)

-- ---- a line that was read

short_line : (n : ℕ) (line : List ℕ) → too_long n line before not_text n line ≡ None → length line ≤ MOST_LINE_BYTES
short_line n line none = by_test (nat_lt MOST_LINE_BYTES (length line)) refl none where
  by_test : (t : Bool) → nat_lt MOST_LINE_BYTES (length line) ≡ t → fault_if t (fault.TooLong n) before not_text n line ≡ None → length line ≤ MOST_LINE_BYTES
  by_test true is none = cc
  by_test false is none = grind (arith, nat_tests)

short_of_one : (d next : ScenarioDraft) (n : ℕ) (line : List ℕ) → scenario.read_line d n line ≡ Ok next → length line ≤ MOST_LINE_BYTES
short_of_one d next n line is = by_fault (too_long n line before not_text n line) refl is where
  by_fault : (f : Option LineFault) → too_long n line before not_text n line ≡ f → scenario.unless f (scenario.read_words d n (words_of line)) ≡ Ok next →
      length line ≤ MOST_LINE_BYTES
  by_fault None none is = short_line n line none
  by_fault (Some f) some is = cc

short_of_two : (d next : Draft) (n : ℕ) (line : List ℕ) → read_line d n line ≡ Ok next → length line ≤ MOST_LINE_BYTES
short_of_two d next n line is = by_fault (too_long n line before not_text n line) refl is where
  by_fault : (f : Option LineFault) → too_long n line before not_text n line ≡ f → read_text d n line f ≡ Ok next → length line ≤ MOST_LINE_BYTES
  by_fault None none is = short_line n line none
  by_fault (Some f) some is = cc

not_past : (n : ℕ) → nat_lt MOST_LINES n ≡ false → n ≤ MOST_LINES
not_past n within = grind (arith, nat_tests)

-- so many bytes more, with a line that is no longer than it may be
more_bytes : (n size rest : ℕ) → n ≤ MOST_LINES → size ≤ MOST_LINE_BYTES → rest ≤ 9001 * (10001 - (n + 1)) → size + 1 + rest ≤ 9001 * (10001 - n)
more_bytes n size rest within short later = omega arith

-- ---- part one

one_sized : (d : ScenarioDraft) (n : ℕ) (lines : List (List ℕ)) (s : PlainScenario) → scenario.read_from d n lines ≡ Ok s → total lines ≤ 9001 * (10001 - n)
one_sized d n [] s is = omega arith
one_sized d n (line ∷ lines) s is = by_count (nat_lt MOST_LINES n) refl is (λ next e. one_sized next (n + 1) lines s e) where
  by_line : (r : Result ScenarioDraft LineFault) → scenario.read_line d n line ≡ r → n ≤ MOST_LINES →
      scenario.and_then r (λ next. scenario.read_from next (n + 1) lines) ≡ Ok s →
      ((next : ScenarioDraft) → scenario.read_from next (n + 1) lines ≡ Ok s → total lines ≤ 9001 * (10001 - (n + 1))) →
      length line + 1 + total lines ≤ 9001 * (10001 - n)
  by_line (Ok next) gave within e later = more_bytes n (length line) (total lines) within (short_of_one d next n line gave) (later next e)
  by_line (Err f) gave within e later = cc

  by_count : (t : Bool) → nat_lt MOST_LINES n ≡ t →
      cond t (Err (fault.Limit n 0)) (scenario.and_then (scenario.read_line d n line) (λ next. scenario.read_from next (n + 1) lines)) ≡ Ok s →
      ((next : ScenarioDraft) → scenario.read_from next (n + 1) lines ≡ Ok s → total lines ≤ 9001 * (10001 - (n + 1))) →
      length line + 1 + total lines ≤ 9001 * (10001 - n)
  by_count true t e later = cc
  by_count false t e later = by_line (scenario.read_line d n line) refl (not_past n t) e later

-- ---- part two

two_sized : (d : Draft) (n k : ℕ) (lines : List (List ℕ)) (s : PlainScript) → read_from d n k lines ≡ Ok s → total lines ≤ 9001 * (10001 - k)
two_sized d n k [] s is = omega arith
two_sized d n k (line ∷ lines) s is = by_count (nat_lt MOST_LINES k) refl is (λ next e. two_sized next (n + 1) (k + 1) lines s e) where
  by_line : (r : Result Draft LineFault) → read_line d n line ≡ r → k ≤ MOST_LINES → and_then r (λ next. read_from next (n + 1) (k + 1) lines) ≡ Ok s →
      ((next : Draft) → read_from next (n + 1) (k + 1) lines ≡ Ok s → total lines ≤ 9001 * (10001 - (k + 1))) →
      length line + 1 + total lines ≤ 9001 * (10001 - k)
  by_line (Ok next) gave within e later = more_bytes k (length line) (total lines) within (short_of_two d next n line gave) (later next e)
  by_line (Err f) gave within e later = cc

  by_count : (t : Bool) → nat_lt MOST_LINES k ≡ t →
      cond t (Err (fault.Limit n 0)) (and_then (read_line d n line) (λ next. read_from next (n + 1) (k + 1) lines)) ≡ Ok s →
      ((next : Draft) → read_from next (n + 1) (k + 1) lines ≡ Ok s → total lines ≤ 9001 * (10001 - (k + 1))) →
      length line + 1 + total lines ≤ 9001 * (10001 - k)
  by_count true t e later = cc
  by_count false t e later = by_line (read_line d n line) refl (not_past k t) e later

-- ---- both

-- the line `groups` with its end
mark_bytes : (line : List ℕ) → is_mark line ≡ true → length line ≡ 6
mark_bytes line is = ap (λ (xs : List ℕ). length xs) ((bytes_eq-Decides line (codes "groups")).0 is)

both_total : (lines behind : List (List ℕ)) → part_two lines ≡ Some behind → total lines ≡ total (part_one lines) + 7 + total behind
both_total [] behind is = cc
both_total (line ∷ lines) behind is = by_mark (is_mark line) refl is (λ e. both_total lines behind e) where
  by_mark : (t : Bool) → is_mark line ≡ t → cond t (Some lines) (part_two lines) ≡ Some behind →
      (part_two lines ≡ Some behind → total lines ≡ total (part_one lines) + 7 + total behind) →
      length line + 1 + total lines ≡ total (cond t [] (line ∷ part_one lines)) + 7 + total behind
  by_mark true mark e later =
      let same : lines ≡ behind = cc in
      let six = mark_bytes line mark in
      let rest = ap (λ (ls : List (List ℕ)). total ls) same in omega arith
  by_mark false other e later = let rest = later e in omega arith

-- the bytes of a script, by its parts
both_sized : (bytes : List ℕ) (sc : PlainScenario) (behind : List (List ℕ)) (n : ℕ) (s : PlainScript) →
    scenario.read_from scenario_draft.nothing_yet 1 (part_one (lines_of bytes)) ≡ Ok sc → part_two (lines_of bytes) ≡ Some behind →
    read_from (nothing_yet sc) n 1 behind ≡ Ok s → length bytes ≤ MOST_SCRIPT_BYTES
both_sized bytes sc behind n s one two read =
    let first = one_sized scenario_draft.nothing_yet 1 (part_one (lines_of bytes)) sc one in
    let second = two_sized (nothing_yet sc) n 1 behind s read in
    let all = both_total (lines_of bytes) behind two in
    let long = length-lines bytes in omega arith

parts_sized : (bytes : List ℕ) (s : PlainScript) (one : Result PlainScenario LineFault) (two : Option (List (List ℕ))) →
    scenario.read_from scenario_draft.nothing_yet 1 (part_one (lines_of bytes)) ≡ one → part_two (lines_of bytes) ≡ two →
    read_parts one (length (part_one (lines_of bytes))) two ≡ Ok s → length bytes ≤ MOST_SCRIPT_BYTES
parts_sized bytes s (Err f) two first second is = cc
parts_sized bytes s (Ok sc) None first second is = cc
parts_sized bytes s (Ok sc) (Some behind) first second is = both_sized bytes sc behind (length (part_one (lines_of bytes)) + 2) s first second is

-- a script is no longer than this
pub script-sized : (bytes : List ℕ) (s : PlainScript) → groups_of bytes ≡ Ok s → length bytes ≤ MOST_SCRIPT_BYTES
script-sized bytes s is =
    parts_sized bytes s (scenario.read_from scenario_draft.nothing_yet 1 (part_one (lines_of bytes))) (part_two (lines_of bytes)) refl refl is

-- nor is what was read as one
pub read-sized : (bytes : List ℕ) (sc : PlainScenario) (behind : List (List ℕ)) (n : ℕ) (r : Result PlainScript LineFault) →
    scenario.read_from scenario_draft.nothing_yet 1 (part_one (lines_of bytes)) ≡ Ok sc → part_two (lines_of bytes) ≡ Some behind →
    IfOk r (λ s. read_from (nothing_yet sc) n 1 behind ≡ Ok s) → IfOk r (λ s. length bytes ≤ MOST_SCRIPT_BYTES)
read-sized bytes sc behind n (Ok s) one two read = both_sized bytes sc behind n s one two read
read-sized bytes sc behind n (Err f) one two read = tt
