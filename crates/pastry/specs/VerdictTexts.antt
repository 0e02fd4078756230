-- What is written of a trace and the verdict on it.
use Rattle.std.specs.Prelude.{ℕ, ◌≤◌, List, ◌++◌, length, codes, decimal}
use Rattle.trace_check.specs.declared.verdict.Part.{Part}
use Rattle.trace_check.specs.declared.verdict.Verdict.{Verdict}
use Rattle.trace_check.specs.declared.verdict.Verdict.TheVariants as verdict
use Rattle.trace_check.specs.Words.{part_word}
use Rattle.course_picture.specs.declared.sizes.TheConstants.{MOST_ROWS}
use Rattle.trace_picture.specs.Picture.{picture_text}
use Rattle.trace_text.specs.Traces.{PlainTrace}
use Rattle.pastry.specs.declared.verdict.Telling.{Telling}
use Rattle.pastry.specs.declared.verdict.Telling.TheVariants as telling

-- a legal record: how many entries it has, and how many nodes are ready after the last
abbrev pub legal_text : ℕ → ℕ → List ℕ
legal_text entries ready = codes "legal entries " ++ (decimal entries ++ (codes " ready " ++ (decimal ready ++ codes "\n")))

-- another: the first entry, from 1, that may not stand where it stands, and what of it is wrong
abbrev pub wrong_text : ℕ → Part → List ℕ
wrong_text entry p = codes "wrong entry " ++ (decimal entry ++ (codes " " ++ (part_word p ++ codes "\n")))

abbrev pub verdict_text : ℕ → Verdict → List ℕ
verdict_text entries (verdict.Legal ready) = legal_text entries ready
verdict_text entries (verdict.Wrong entry p) = wrong_text entry p

-- a picture has no more rows than it has room for
abbrev pub IsDrawable : Telling → Type 0
IsDrawable telling.Line = Unit {0}
IsDrawable (telling.Picture from entries) = entries ≤ MOST_ROWS

-- the line that tells the verdict, or a picture
abbrev pub told_by : Telling → PlainTrace → Verdict → List ℕ
told_by telling.Line t v = verdict_text (length t.entries) v
told_by (telling.Picture from entries) t v = picture_text t v from entries
