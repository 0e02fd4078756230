-- What answer is due in a mode.
use Rattle.std.specs.Prelude.{◌≡◌, ◌≤◌, ◌⊎◌, ℕ, List, length, take, Option, Some, None, Result, Ok, Err}
use Rattle.scenario_reader.specs.declared.fault.LineFault.{LineFault}
use Rattle.scenario_reader.specs.Grammar.{scenario_of}
use Rattle.scenario_reader.specs.Plain.{PlainScenario}
use Rattle.group_reader.specs.Grammar.{groups_of}
use Rattle.cli_words.specs.declared.mode.Mode.{Mode}
use Rattle.cli_words.specs.declared.mode.Mode.TheVariants.{Play, Run, Big, Trace, TraceRun, Check, Points, Large, Messages, Groups, Draw, OneNode}
use Rattle.overlay_harness.specs.declared.fault.RunFault.TheVariants as run_fault
use Rattle.overlay_harness.specs.Fault.{first_unfit_line}
use Rattle.trace_text.specs.declared.fault.TraceFault.{TraceFault}
use Rattle.trace_text.specs.Traces.{IsTraceOf, PlainTrace, setting_of}
use Rattle.trace_text.specs.declared.limits.TheConstants.{MOST_TRACE_BYTES}
use Rattle.trace_check.specs.declared.verdict.Verdict.{Verdict}
use Rattle.trace_check.specs.declared.verdict.Verdict.TheVariants as verdict
use Rattle.trace_check.specs.Verdicts.{IsVerdict}
use Rattle.pastry.specs.declared.checking.TheConstants.{TRACE_LIMIT}
use Rattle.pastry.specs.declared.reading.TheConstants.{INPUT_LIMIT, SCRIPT_LIMIT}
use Rattle.pastry.specs.Checked.{IsFaultOf}
use Rattle.pastry.specs.declared.outcome.TopFault.{TopFault}
use Rattle.pastry.specs.declared.outcome.TopFault.TheVariants as fault

-- the answer is this one, or want of memory
abbrev pub DoneOr : Option TopFault → Option TopFault → Type 0
DoneOr answered due = (answered ≡ due) ⊎ (answered ≡ Some fault.OutOfMemory)

-- what a source has is played where a language has it, and else refused for its fault, which the first bytes up to a limit show
abbrev pub IsAnsweredBy : {A : Type 0} → (List ℕ → Result A LineFault) → ℕ → Option (List ℕ) → Option TopFault → Type 0
IsAnsweredBy {A} language limit left answered =
    (xs : List ℕ) → left ≡ Some xs →
    ((s : A) → language xs ≡ Ok s → DoneOr answered None)
    × ((f : LineFault) → language (take limit xs) ≡ Err f → DoneOr answered (Some (fault.Scenario f)))

abbrev pub IsAnswered : Option (List ℕ) → Option TopFault → Type 0
IsAnswered left answered = IsAnsweredBy scenario_of INPUT_LIMIT left answered

abbrev pub IsScriptAnswered : Option (List ℕ) → Option TopFault → Type 0
IsScriptAnswered left answered = IsAnsweredBy groups_of SCRIPT_LIMIT left answered

-- what a source has is run where it is a scenario that can be run; where it is another one, its first line that a run can't have
-- is named; and else it is refused for its fault
pub record IsRunRightly (left : Option (List ℕ)) (answered : Option TopFault) : Type 0 where
  pub run : (xs : List ℕ) (s : PlainScenario) → left ≡ Some xs → scenario_of xs ≡ Ok s → first_unfit_line s ≡ None → DoneOr answered None
  pub unfit : (xs : List ℕ) (s : PlainScenario) (line : ℕ) → left ≡ Some xs → scenario_of xs ≡ Ok s → first_unfit_line s ≡ Some line →
      DoneOr answered (Some (fault.Run (run_fault.NotForRun line)))
  pub refused : (xs : List ℕ) (f : LineFault) → left ≡ Some xs → scenario_of (take INPUT_LIMIT xs) ≡ Err f → DoneOr answered (Some (fault.Scenario f))

-- how a check ends that comes to this verdict
abbrev pub fault_of : Verdict → Option TopFault
fault_of (verdict.Legal ready) = None
fault_of (verdict.Wrong entry p) = Some (fault.Wrong entry p)

-- of a trace that a source has the verdict is told, and what is no trace is refused for its fault
pub record IsJudgedRightly (left : Option (List ℕ)) (answered : Option TopFault) : Type 0 where
  pub told : (xs : List ℕ) (t : PlainTrace) (v : Verdict) → left ≡ Some xs → length xs ≤ MOST_TRACE_BYTES → IsTraceOf xs t →
      IsVerdict (setting_of t.nodes t.founder) t.entries v → DoneOr answered (fault_of v)
  pub refused : (xs : List ℕ) (f : TraceFault) → left ≡ Some xs → IsFaultOf (take TRACE_LIMIT xs) f → DoneOr answered (Some (fault.Trace f))

-- what is due in a mode where no device fails: what the source has is answered; `big`, `large` and `node` are done, whatever it has
abbrev pub IsDue : Mode → Type 0 → Type 0 → Option (List ℕ) → Option TopFault → Type 0
IsDue Play source_fails sink_fails left answered = ¬ source_fails → ¬ sink_fails → IsAnswered left answered
IsDue Run source_fails sink_fails left answered = ¬ source_fails → ¬ sink_fails → IsRunRightly left answered
IsDue (Big nodes seed) source_fails sink_fails left answered = ¬ sink_fails → DoneOr answered None
IsDue Trace source_fails sink_fails left answered = ¬ source_fails → ¬ sink_fails → IsAnswered left answered
IsDue TraceRun source_fails sink_fails left answered = ¬ source_fails → ¬ sink_fails → IsRunRightly left answered
IsDue Check source_fails sink_fails left answered = ¬ source_fails → ¬ sink_fails → IsJudgedRightly left answered
IsDue (Points room) source_fails sink_fails left answered = ¬ source_fails → ¬ sink_fails → IsAnswered left answered
IsDue (Large nodes seed size) source_fails sink_fails left answered = ¬ sink_fails → DoneOr answered None
IsDue Messages source_fails sink_fails left answered = ¬ source_fails → ¬ sink_fails → IsAnswered left answered
IsDue Groups source_fails sink_fails left answered = ¬ source_fails → ¬ sink_fails → IsScriptAnswered left answered
IsDue (Draw from entries) source_fails sink_fails left answered = ¬ source_fails → ¬ sink_fails → IsJudgedRightly left answered
IsDue OneNode source_fails sink_fails left answered = ¬ source_fails → ¬ sink_fails → DoneOr answered None
