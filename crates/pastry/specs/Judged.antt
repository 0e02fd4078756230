-- A record that was checked, the verdict on it and the text of both, before any of it is written.
use Rattle.std.specs.Prelude.{◌≡◌, ℕ, List, Option, Some, None}
use Rattle.overlay_rules.specs.declared.entry.Record.{Record}
use Rattle.overlay_rules.specs.Record.{IsRecord}
use Rattle.trace_text.specs.Traces.{PlainTrace, setting_of}
use Rattle.trace_check.specs.declared.verdict.Verdict.{Verdict}
use Rattle.trace_check.specs.declared.verdict.Verdict.TheVariants as verdict
use Rattle.trace_check.specs.Verdicts.{IsVerdict}
use Rattle.pastry.specs.Headline.{Headline}

-- where the verdict is that a record is legal, the headline holds of it
abbrev pub IsHeaded : PlainTrace → Verdict → Type 0
IsHeaded t (verdict.Legal ready) = IsRecord (setting_of t.nodes t.founder) t.entries × Headline (setting_of t.nodes t.founder) t.entries
IsHeaded t (verdict.Wrong entry part) = Unit {0}

-- a record is handed out if it is legal
abbrev pub handed_out : Verdict → Record → Option Record
handed_out (verdict.Legal ready) r = Some r
handed_out (verdict.Wrong entry part) r = None

pub record IsJudged (told : PlainTrace → Verdict → List ℕ) (t : PlainTrace) (v : Verdict) (r : Record) (text : List ℕ) : Type 0 where
  pub entries : r.entries ≡ t.entries
  pub skipped : r.skipped ≡ t.skipped
  pub is_verdict : IsVerdict (setting_of t.nodes t.founder) t.entries v
  pub headed : IsHeaded t v
  pub is_text : text ≡ told t v
