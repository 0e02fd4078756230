use Rattle.std.proofs.Common.{◌≡◌, ◌+◌, ◌<◌, ℕ, None, length, take, get_or}
use Rattle.std.specs.Option.{option_or, option_copied}
use Rattle.delivery_report.specs.Report.{closing_of}
use Rattle.delivery_report.proofs.closings.take_in_all.Given as goal

abbrev pub invariant-loop-note : goal.invariant-loop-note
invariant-loop-note l = (k : ℕ) → k < length l.initial.closings →
    option_copied (get_or l.closings k None) ≡ option_or (option_copied (get_or l.initial.closings k None)) (closing_of (k + 1) (take l.note-index l.notes))
