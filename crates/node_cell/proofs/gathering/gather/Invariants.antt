use Rattle.node_cell.proofs.Gathered.{Gathering}
use Rattle.node_cell.proofs.gathering.gather.Given as goal

abbrev pub invariant-loop-place : goal.invariant-loop-place
invariant-loop-place g l = record { passes : Gathering l.post l.place l.fn.own l.initial.cells l.cells l.all }
