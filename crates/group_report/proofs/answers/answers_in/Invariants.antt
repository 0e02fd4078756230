use Rattle.std.proofs.Common.{take}
use Rattle.group_report.specs.Answers.{HasAnswers}
use Rattle.group_report.proofs.answers.answers_in.Given as goal

-- the answers in the notes so far
abbrev pub invariant-loop-note : goal.invariant-loop-note
invariant-loop-note l = HasAnswers l.count l.answers.items (take l.note-index l.notes)
