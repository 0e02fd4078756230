use Rattle.step_facts.specs.Setting.{setting}
use Rattle.trace_check.proofs.Reaching.{IsReached}
use Rattle.trace_check.proofs.checking.check_entries.Given as goal

-- the entries so far are legal and replayed
abbrev pub invariant-loop-place : goal.invariant-loop-place
invariant-loop-place l = IsReached (setting l.nodes l.fn.founder) l.entries l.place l.replay l.sent
