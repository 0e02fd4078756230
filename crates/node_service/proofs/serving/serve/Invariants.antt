use Rattle.std.proofs.Common.{◌≤◌}
use Rattle.node_service.proofs.Ways.{IsOnItsWay}
use Rattle.node_service.proofs.serving.serve.Given as goal

abbrev pub invariant-loop : goal.invariant-loop
invariant-loop g l = record {
  way : IsOnItsWay g.S.Source.gives g.S.Source.left g.K.Sink.takes g.K.Sink.taken l.fn.source l.fn.sink l.session l.source l.sink;
  reads : g.S.Source.faults l.fn.source ≤ g.S.Source.faults l.source;
  writes : g.K.Sink.faults l.fn.sink ≤ g.K.Sink.faults l.sink;
}
