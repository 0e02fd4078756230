-- How long a scenario can be: 10,000 lines of 9,000 bytes, each with its end.
use Rattle.std.proofs.Common.{Result, Err, ◌≡◌, ◌≤◌, ℕ, suc, ◌+◌, ◌-◌, ◌*◌, Bool, true, false, ◌==◌, if◌then◌else◌, List, [], ◌∷◌, length, Option, Some, None}
use Rattle.std.proofs.Common.{Ok, refl, arith, nat_lt}
use Rattle.std.proofs.lemmas.Bool.Decides.{nat_tests}
use Rattle.std.specs.List.{onto_first}
use Rattle.scenario_reader.specs.declared.fault.LineFault.{LineFault}
use Rattle.scenario_reader.specs.Plain.{PlainScenario, Draft, nothing_yet}
use Rattle.scenario_reader.specs.Words.{words_of}
use Rattle.scenario_reader.specs.Lines.{lines_of}
use Rattle.scenario_reader.specs.Checks.{fault_if, too_long, not_text}
use Rattle.scenario_reader.specs.Grammar.{unless, and_then, ◌before◌, read_words, read_line, read_from, scenario_of}

-- ---- what a reading that gave something went through

unless_ok : (f : Option LineFault) (r : Result Draft LineFault) (next : Draft) → unless f r ≡ Ok next → (f ≡ None) × (r ≡ Ok next)
unless_ok None r next e = (refl, e)
unless_ok (Some f) r next e = cc

-- the draft that a line gave, and that the lines after it went on with
record GoesOn (line : Result Draft LineFault) (later : Draft → Result PlainScenario LineFault) (s : PlainScenario) : Type 0 where
  next : Draft
  gave : line ≡ Ok next
  ends : later next ≡ Ok s

goes_on : (line : Result Draft LineFault) (later : Draft → Result PlainScenario LineFault) (s : PlainScenario) →
    and_then line later ≡ Ok s → GoesOn line later s
goes_on (Ok next) later s e = record { next = next; gave = refl; ends = e }
goes_on (Err f) later s e = cc

-- line 10,001 is not read
within_lines : (n : ℕ) (read : Result PlainScenario LineFault) (f : LineFault) (s : PlainScenario) →
    (if nat_lt 10000 n then Err f else read) ≡ Ok s → (nat_lt 10000 n ≡ false) × (read ≡ Ok s)
within_lines n read f s = cases (nat_lt 10000 n) where
  cases : (b : Bool) → (if b then Err f else read) ≡ Ok s → (b ≡ false) × (read ≡ Ok s)
  cases true e = cc
  cases false e = (refl, e)

-- ---- how long it is

-- the bytes of lines, each with its end
abbrev total : List (List ℕ) → ℕ
total [] = 0
total (line ∷ lines) = length line + 1 + total lines

total-onto_first : (byte : ℕ) (lines : List (List ℕ)) → total lines + 1 ≤ total (onto_first byte lines)
total-onto_first byte [] = omega arith
total-onto_first byte (line ∷ lines) = omega arith

total-byte : (byte : ℕ) (b : Bool) (n : ℕ) (lines : List (List ℕ)) → n ≤ total lines → suc n ≤ total (if b then [] ∷ lines else onto_first byte lines)
total-byte byte true n lines h = omega arith
total-byte byte false n lines h = omega (arith, total-onto_first byte lines)

length-lines : (bytes : List ℕ) → length bytes ≤ total (lines_of bytes)
length-lines [] = omega arith
length-lines (byte ∷ bytes) = total-byte byte (byte == 10) (length bytes) (lines_of bytes) (length-lines bytes)

before_none : (f g : Option LineFault) → f before g ≡ None → f ≡ None
before_none None g e = refl
before_none (Some f) g e = cc

no_fault : (b : Bool) (f : LineFault) → fault_if b f ≡ None → b ≡ false
no_fault true f e = cc
no_fault false f e = refl

line-short : (draft next : Draft) (n : ℕ) (line : List ℕ) → read_line draft n line ≡ Ok next → length line ≤ 9000
line-short draft next n line e =
    let none = (unless_ok (too_long n line before not_text n line) (read_words draft n (words_of line)) next e).0 in
    let short : nat_lt 9000 (length line) ≡ false = no_fault _ _ (before_none (too_long n line) (not_text n line) none) in
    grind (arith, nat_tests)

not_past : (n : ℕ) → nat_lt 10000 n ≡ false → n ≤ 10000
not_past n e = grind (arith, nat_tests)

read_from-sized : (draft : Draft) (n : ℕ) (lines : List (List ℕ)) (s : PlainScenario) → n ≤ 10001 → read_from draft n lines ≡ Ok s →
    total lines ≤ 9001 * (10001 - n)
read_from-sized draft n [] s h e = omega arith
read_from-sized draft n (line ∷ lines) s h e =
    let read = within_lines n _ _ s e in
    let le : n ≤ 10000 = not_past n read.0 in
    let on : GoesOn (read_line draft n line) (λ next. read_from next (n + 1) lines) s = goes_on _ _ s read.1 in
    let short : length line ≤ 9000 = line-short draft on.next n line on.gave in
    let later : total lines ≤ 9001 * (10001 - (n + 1)) = read_from-sized on.next (n + 1) lines s (omega arith) on.ends in
    omega arith

-- a scenario has at most 90,010,000 bytes
pub scenario-sized : (bytes : List ℕ) (s : PlainScenario) → scenario_of bytes ≡ Ok s → length bytes ≤ 90010000
scenario-sized bytes s e =
    let lines : total (lines_of bytes) ≤ 9001 * (10001 - 1) = read_from-sized nothing_yet 1 (lines_of bytes) s (omega arith) e in
    omega (arith, length-lines bytes)
