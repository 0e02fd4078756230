use Rattle.std.proofs.Common.{◌≡◌, ◌++◌, take}
use Rattle.delivery_report.specs.Answers.{names_of}
use Rattle.delivery_report.proofs.names.Names.write_all.Given as goal

-- the names so far are written
abbrev pub invariant-loop-id : goal.invariant-loop-id
invariant-loop-id l = l.text ≡ l.initial.text ++ names_of l.self (take l.id-index l.ids)
