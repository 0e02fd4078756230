use Rattle.std.proofs.Common.{◌≡◌, ◌∙◌, [], None, Result, Err, take, ap, arith, subst, sym}
use Rattle.std.proofs.lemmas.Result.{err_from_is_err_and}
use Rattle.node_service.specs.declared.fault.ServiceFault.{ServiceFault}
use Rattle.node_service.specs.declared.fault.ServiceFault.TheVariants as fault
use Rattle.node_service.specs.Serves.{Serves}
use Rattle.node_service.specs.Steps.{FailsAtLast, FailsAtPiece}
use Rattle.node_service.proofs.Ways.{at_end_by, came_by, no_fault_of_reading, way_broken, way_ended, way_on, way_short, way_unread}
use Rattle.node_service.proofs.serving.serve.Goals as goal

pub loop-preserved : goal.loop-preserved
loop-preserved g c =
    let came =
    came_by g.S.Source.gives g.S.Source.left c.loop.source c.read_some.new.self c.loop.buf c.read_some.new.buf c.in-Got.count (omega arith) (omega arith)
    c.in-Got.ensures.size c.in-Got.ensures.step c.in-Got.ensures.bytes in
    record {
      way = way_on g.S.Source.gives g.S.Source.left g.K.Sink.takes g.K.Sink.taken c.args.source.now c.args.sink.now c.loop.session c.serve_piece.new.session
          c.loop.source c.read_some.new.self c.loop.sink c.serve_piece.new.sink (take c.in-Got.count c.read_some.new.buf) c.loop.invariant.way came
          c.in_ok-serve_piece-in-Got.ensures.ok;
      reads = omega (arith, c.in-Got.ensures.count, c.loop.invariant.reads);
      writes = omega (arith, c.in_ok-serve_piece-in-Got.ensures.writes, c.loop.invariant.writes);
    }

pub returns-in_err-serve_piece-in-Got-clause-calls : goal.returns-in_err-serve_piece-in-Got-clause-calls
returns-in_err-serve_piece-in-Got-clause-calls g c =
    let came =
    came_by g.S.Source.gives g.S.Source.left c.loop.source c.read_some.new.self c.loop.buf c.read_some.new.buf c.in-Got.count (omega arith) (omega arith)
    c.in-Got.ensures.size c.in-Got.ensures.step c.in-Got.ensures.bytes in
    let p = err_from_is_err_and c.from_residual.result c.from_residual.ensures.1 in
    let is : c.from_residual.result ≡ Err c.in_err-serve_piece-in-Got.field-0.0 = p.1 ∙ ap (λ (f : ServiceFault). Err f) p.2 in
    subst
    (λ (r : Result Unit ServiceFault). Serves g.S.Source.gives g.S.Source.left g.K.Sink.takes g.K.Sink.taken [] None c.args.source.now c.args.sink.now r
    c.read_some.new.self c.serve_piece.new.sink) (sym is)
    (way_broken g.S.Source.gives g.S.Source.left g.K.Sink.takes g.K.Sink.taken c.args.source.now c.args.sink.now c.loop.session c.loop.source
    c.read_some.new.self c.loop.sink c.serve_piece.new.sink (take c.in-Got.count c.read_some.new.buf) c.in_err-serve_piece-in-Got.field-0.0
    c.loop.invariant.way came c.in_err-serve_piece-in-Got.ensures.err)

pub returns-in_err-serve_piece-in-Got-clause-unread : goal.returns-in_err-serve_piece-in-Got-clause-unread
returns-in_err-serve_piece-in-Got-clause-unread g c read =
    let way = c.loop.invariant.way in
    let p = err_from_is_err_and c.from_residual.result c.from_residual.ensures.1 in
    let is : Err c.in_err-serve_piece-in-Got.field-0.0 ≡ Err fault.Read = sym (p.1 ∙ ap (λ (f : ServiceFault). Err f) p.2) ∙ read in
    absurd (no_fault_of_reading (Err c.in_err-serve_piece-in-Got.field-0.0)
    (FailsAtPiece g.K.Sink.takes g.K.Sink.taken way.line way.talk (take c.in-Got.count c.read_some.new.buf) c.loop.sink c.serve_piece.new.sink)
    (c.in_err-serve_piece-in-Got.ensures.err way.line way.talk way.far) (λ none. none) is)

pub returns-in-End-clause-calls : goal.returns-in-End-clause-calls
returns-in-End-clause-calls g c =
    way_ended g.S.Source.gives g.S.Source.left g.K.Sink.takes g.K.Sink.taken c.args.source.now c.args.sink.now c.loop.session c.loop.source c.read_some.new.self
    c.loop.sink c.serve_last.new.sink c.serve_last.result c.loop.invariant.way
    (at_end_by g.S.Source.gives g.S.Source.left c.loop.source c.read_some.new.self c.loop.buf c.read_some.new.buf (omega arith) c.in-End.ensures.step
    c.in-End.ensures.bytes) c.serve_last.ensures.ok c.serve_last.ensures.err

pub returns-in-End-clause-unread : goal.returns-in-End-clause-unread
returns-in-End-clause-unread g c is =
    let way = c.loop.invariant.way in
    absurd (no_fault_of_reading c.serve_last.result (FailsAtLast g.K.Sink.takes g.K.Sink.taken way.line way.talk c.loop.sink c.serve_last.new.sink)
    (c.serve_last.ensures.err way.line way.talk way.far) (λ none. none) is)

pub returns-in-Failed-clause-calls : goal.returns-in-Failed-clause-calls
returns-in-Failed-clause-calls g c =
    way_unread g.S.Source.gives g.S.Source.left g.K.Sink.takes g.K.Sink.taken c.args.source.now c.args.sink.now c.loop.session c.loop.source
    c.read_some.new.self c.loop.sink c.loop.buf c.loop.invariant.way (omega arith) c.in-Failed.ensures.step

pub returns-clause-calls : goal.returns-clause-calls
returns-clause-calls g c =
    way_short g.S.Source.gives g.S.Source.left g.K.Sink.takes g.K.Sink.taken c.args.source.now c.args.sink.now c.loop.session c.loop.source c.loop.sink
    c.loop.invariant.way
