-- What was read of a source: all of it, where it is a scenario, a script of groups or a trace.
use Rattle.std.proofs.Common.{◌≡◌, ◌<◌, ◌≤◌, ℕ, List, length, take, Option, Some, None, Result, Ok, Err, ap, subst, ◌∙◌, inl, inr, arith}
use Rattle.std.proofs.lemmas.Bool.{cases_order}
use Rattle.std.proofs.lemmas.List.{drop_all, take_all, length-take}
use Rattle.scenario_reader.specs.declared.fault.LineFault.{LineFault}
use Rattle.scenario_reader.specs.Plain.{PlainScenario}
use Rattle.scenario_reader.specs.Grammar.{scenario_of}
use Rattle.scenario_reader.proofs.Sizes.{scenario-sized}
use Rattle.group_reader.specs.Grammar.{groups_of}
use Rattle.group_reader.specs.Plain.{PlainScript}
use Rattle.group_reader.proofs.Sizes.{script-sized}
use Rattle.trace_text.specs.declared.fault.TraceFault.{TraceFault}
use Rattle.trace_text.specs.declared.limits.TheConstants.{MOST_TRACE_BYTES}
use Rattle.trace_text.specs.declared.trace.Trace.{Trace}
use Rattle.trace_text.specs.Traces.{IsTraceOf, PlainTrace}
use Rattle.pastry.specs.declared.checking.TheConstants.{TRACE_LIMIT}
use Rattle.pastry.specs.declared.reading.TheConstants.{INPUT_LIMIT, SCRIPT_LIMIT}
use Rattle.pastry.specs.Checked.{IsReadTrace}
use Rattle.pastry.specs.Reading.{WasRead, WasReadToEnd, IsReadAs, IsScenario, IsScript}

short : (n : ℕ) (xs bytes : List ℕ) → bytes ≡ take n xs → length bytes < n → length xs < n
short n xs bytes e h = omega (arith, ap length e, length-take n xs)

-- fewer bytes than the limit are all that there were
pub read_whole : (limit : ℕ) (before after : Option (List ℕ)) (bytes : List ℕ) → WasRead limit before after bytes → length bytes < limit →
    WasReadToEnd before after bytes
read_whole limit None after bytes r h = record { told = record { bytes = tt } }
read_whole limit (Some xs) None bytes r h = absurd r.told.bytes
read_whole limit (Some xs) (Some ys) bytes r h =
    let all : length xs < limit = short limit xs bytes r.told.bytes.0 (omega arith) in
    record { told = record { bytes = (r.told.bytes.0 ∙ take_all limit xs (omega arith), r.told.bytes.1 ∙ drop_all limit xs (omega arith)) } }

-- what is in a language was read to its end, where it has fewer bytes than the limit
read_in : {A : Type 0} (language : List ℕ → Result A LineFault) (limit : ℕ) (before after : Option (List ℕ)) (bytes : List ℕ) (s : A) →
    WasRead limit before after bytes → language bytes ≡ Ok s → length bytes < limit → IsReadAs language before after s
read_in language limit before after bytes s r e short = record { bytes = bytes; read = read_whole limit before after bytes r short; is = e }

-- a scenario has fewer bytes than the limit
short_scenario : (bytes : List ℕ) (s : PlainScenario) → scenario_of bytes ≡ Ok s → length bytes < 90010001
short_scenario bytes s e = let size = scenario-sized bytes s e in omega arith

-- a scenario was read to its end
pub read_scenario : (before after : Option (List ℕ)) (bytes : List ℕ) (s : PlainScenario) → WasRead INPUT_LIMIT before after bytes → scenario_of bytes ≡ Ok s →
    IsScenario before after s
read_scenario before after bytes s r e = read_in scenario_of INPUT_LIMIT before after bytes s r e (short_scenario bytes s e)

-- and so was a script of groups
pub read_script : (before after : Option (List ℕ)) (bytes : List ℕ) (s : PlainScript) → WasRead SCRIPT_LIMIT before after bytes → groups_of bytes ≡ Ok s →
    IsScript before after s
read_script before after bytes s r e =
    let size = script-sized bytes s e in read_in groups_of SCRIPT_LIMIT before after bytes s r e (omega arith)

-- ---- traces

at_most : (n m : ℕ) → (m < n → ⊥) → n ≤ m
at_most n m h =
    elim (cases_order n m) [
      | inl e ↦ omega arith
      | inr (inl l) ↦ omega arith
      | inr (inr l) ↦ absurd (h l)
    ]

-- what was read is not refused
pub not_refused : {t : Trace} {f : TraceFault} → ◌≡◌ {A = Result Trace TraceFault} (Ok t) (Err f) → ⊥
not_refused e = cc

-- a trace was read to its end
pub read_trace : (before after : Option (List ℕ)) (bytes seen : List ℕ) (t : PlainTrace) → seen ≡ bytes → WasRead TRACE_LIMIT before after bytes →
    (MOST_TRACE_BYTES < length seen → ⊥) → IsTraceOf seen t → IsReadTrace before after t
read_trace before after bytes seen t same r short is =
    let few : length bytes ≤ MOST_TRACE_BYTES = subst (λ (bs : List ℕ). length bs ≤ MOST_TRACE_BYTES) same (at_most (length seen) MOST_TRACE_BYTES short) in
    record {
      bytes = bytes;
      read = read_whole TRACE_LIMIT before after bytes r (omega (arith, few));
      few = few;
      is = subst (λ (bs : List ℕ). IsTraceOf bs t) same is;
    }
