-- Which bytes are which scenario, and for all other bytes the one fault.
use Rattle.std.specs.Prelude.{ℕ, ◌+◌, ◌==◌, nat_lt, Bool, false, if◌then◌else◌, List, [], ◌∷◌, Option, Some, None, Result, Ok, Err}
use Rattle.scenario_reader.specs.declared.limits.TheConstants.{MOST_LINES}
use Rattle.scenario_reader.specs.declared.fault.LineFault.{LineFault}
use Rattle.scenario_reader.specs.declared.fault.LineFault.TheVariants as fault
use Rattle.scenario_reader.specs.declared.form.Form.{Form}
use Rattle.scenario_reader.specs.Plain.{PlainScenario, Draft, nothing_yet, with_founder}
use Rattle.scenario_reader.specs.Lines.{lines_of}
use Rattle.scenario_reader.specs.Words.{Word, words_of}
use Rattle.scenario_reader.specs.Checks.{too_long, not_text, wrong_count, no_number, no_hex, no_name, twice, no_founder, second_founder, over_limit, frame}
use Rattle.scenario_reader.specs.Forms.{form_of}
use Rattle.scenario_reader.specs.Effects.{after_form}

-- the first fault counts, in the order of the checks
infixr 5 ◌before◌
abbrev pub ◌before◌ : Option LineFault → Option LineFault → Option LineFault
None before later = later
(Some fault) before later = Some fault

-- what is read, unless there is a fault
abbrev pub unless : Option LineFault → Result Draft LineFault → Result Draft LineFault
unless None read = read
unless (Some fault) read = Err fault

-- the fault of line n, which has this form and these words behind the first
abbrev pub form_fault : Draft → ℕ → Form → List Word → Option LineFault
form_fault draft n form words =
    wrong_count n form words
    before no_number n form words
    before no_hex n form words
    before no_name draft n form words
    before twice draft n form words
    before no_founder draft n form
    before second_founder draft n form
    before over_limit draft n form words
    before frame n form words

abbrev pub read_form : Draft → ℕ → Form → List Word → Result Draft LineFault
read_form draft n form words = unless (form_fault draft n form words) (Ok (after_form draft n form words))

-- a line of a form, or (check 3) one whose first word, at this place, is none of the table's
abbrev pub read_known : Draft → ℕ → ℕ → Option Form → List Word → Result Draft LineFault
read_known draft n place None words = Err (fault.Word n place)
read_known draft n place (Some form) words = read_form draft n form words

-- a word that begins with #
abbrev pub is_comment : List ℕ → Bool
is_comment [] = false
is_comment (byte ∷ bytes) = byte == 35

-- A line with no word, or whose first word begins with #, is passed over.
abbrev pub read_words : Draft → ℕ → List Word → Result Draft LineFault
read_words draft n [] = Ok draft
read_words draft n (first ∷ words) =
    if is_comment first.text then Ok draft else read_known draft n first.place (form_of first.text) words

-- what line n makes of a draft, or its fault
abbrev pub read_line : Draft → ℕ → List ℕ → Result Draft LineFault
read_line draft n line = unless (too_long n line before not_text n line) (read_words draft n (words_of line))

-- after the last line, the next of which would be line n
abbrev pub finished : Draft → ℕ → Option ℕ → Result PlainScenario LineFault
finished draft n None = Err (fault.NoFounder n)
finished draft n (Some founder) = Ok (with_founder draft founder)

-- what a step gives is taken on, unless it is a fault
abbrev pub and_then : Result Draft LineFault → (Draft → Result PlainScenario LineFault) → Result PlainScenario LineFault
and_then (Ok draft) next = next draft
and_then (Err fault) next = Err fault

-- The lines from line n on. Line 10,001 is refused before its checks.
abbrev pub read_from : Draft → ℕ → List (List ℕ) → Result PlainScenario LineFault
read_from draft n [] = finished draft n draft.founder
read_from draft n (line ∷ lines) =
    if nat_lt MOST_LINES n then Err (fault.Limit n 0)
    else and_then (read_line draft n line) (λ next. read_from next (n + 1) lines)

-- the scenario that the bytes are, or their fault
abbrev pub scenario_of : List ℕ → Result PlainScenario LineFault
scenario_of bytes = read_from nothing_yet 1 (lines_of bytes)
