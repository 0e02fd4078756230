-- That a trace was read and checked.
use Rattle.std.specs.Prelude.{◌≡◌, ◌<◌, ◌≤◌, ◌⊎◌, ℕ, List, length, Option, Some, None}
use Rattle.overlay_rules.specs.declared.entry.Record.{Record}
use Rattle.overlay_rules.specs.Record.{IsRecord, world_after}
use Rattle.step_facts.specs.ReadyCount.{ready_count}
use Rattle.trace_text.specs.declared.fault.TraceFault.{TraceFault}
use Rattle.trace_text.specs.declared.fault.TraceFault.TheVariants as trace_fault
use Rattle.trace_text.specs.declared.limits.TheConstants.{MOST_TRACE_BYTES}
use Rattle.trace_text.specs.Fronts.{IsFault}
use Rattle.trace_text.specs.Traces.{IsTraceOf, PlainTrace, setting_of}
use Rattle.trace_check.specs.declared.verdict.Part.{Part}
use Rattle.trace_check.specs.declared.verdict.Verdict.{Verdict}
use Rattle.trace_check.specs.declared.verdict.Verdict.TheVariants as verdict
use Rattle.trace_check.specs.Verdicts.{IsFirstWrong}
use Rattle.pastry.specs.declared.checking.TheConstants.{TRACE_LIMIT}
use Rattle.pastry.specs.Headline.{Headline}
use Rattle.pastry.specs.Reading.{WasRead, WasReadToEnd}

-- what was read is the text of this trace, within the limit
pub record IsReadTrace (before after : Option (List ℕ)) (t : PlainTrace) : Type 0 where
  pub bytes : List ℕ
  pub read : WasReadToEnd before after bytes
  pub few : length bytes ≤ MOST_TRACE_BYTES
  pub is : IsTraceOf bytes t

-- the bytes are no trace, for this fault
abbrev pub IsFaultOf : List ℕ → TraceFault → Type 0
IsFaultOf bytes (trace_fault.TooLong found) = (MOST_TRACE_BYTES < length bytes) × (found ≡ length bytes)
IsFaultOf bytes (trace_fault.Line line) = (length bytes ≤ MOST_TRACE_BYTES) × IsFault bytes line
IsFaultOf bytes trace_fault.OutOfMemory = ⊥

-- what was read is no trace, for this fault
pub record IsNoTrace (before after : Option (List ℕ)) (f : TraceFault) : Type 0 where
  pub bytes : List ℕ
  pub read : WasRead TRACE_LIMIT before after bytes
  pub refused : IsFaultOf bytes f

-- a legal record, of which the headline holds; and W says what became of its text, which `told` gives
pub record HasChecked (told : PlainTrace → Verdict → List ℕ) (before after : Option (List ℕ)) (W : List ℕ → Type 0) (checked : Option Record) : Type 0 where
  pub trace : PlainTrace
  pub record_of : Record
  pub read : IsReadTrace before after trace
  pub entries : record_of.entries ≡ trace.entries
  pub skipped : record_of.skipped ≡ trace.skipped
  pub legal : IsRecord (setting_of trace.nodes trace.founder) trace.entries
  pub headline : Headline (setting_of trace.nodes trace.founder) trace.entries
  pub same : checked ≡ Some record_of
  pub written : W (told trace (verdict.Legal
      (ready_count (setting_of trace.nodes trace.founder) (world_after (setting_of trace.nodes trace.founder) trace.entries (length trace.entries)))))

-- a record that is not legal, and where; none is handed out, and W says what became of its text
pub record HasFoundWrong (told : PlainTrace → Verdict → List ℕ) (before after : Option (List ℕ)) (W : List ℕ → Type 0) (checked : Option Record)
    (entry : ℕ) (p : Part) : Type 0 where
  pub trace : PlainTrace
  pub read : IsReadTrace before after trace
  pub wrong : IsFirstWrong (setting_of trace.nodes trace.founder) trace.entries entry p
  pub none : checked ≡ None
  pub written : W (told trace (verdict.Wrong entry p))

-- one or the other
abbrev pub HasJudged : (PlainTrace → Verdict → List ℕ) → Option (List ℕ) → Option (List ℕ) → (List ℕ → Type 0) → Option Record → Type 0
HasJudged told before after W checked =
    HasChecked told before after W checked ⊎ ((entry : ℕ) × ((p : Part) × HasFoundWrong told before after W checked entry p))
