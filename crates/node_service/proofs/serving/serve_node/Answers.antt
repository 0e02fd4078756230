use Rattle.node_service.proofs.Ways.{served_in_part, served_whole}
use Rattle.node_service.proofs.serving.serve_node.Goals as goal

pub returns-clause-whole : goal.returns-clause-whole
returns-clause-whole g c =
    served_whole g.S.Source.gives g.S.Source.left g.K.Sink.takes g.K.Sink.taken c.args.source.now c.args.sink.now c.serve.result c.serve.new.source
    c.serve.new.sink c.serve.ensures.calls

pub returns-clause-part : goal.returns-clause-part
returns-clause-part g c =
    served_in_part g.S.Source.gives g.S.Source.left g.K.Sink.takes g.K.Sink.taken c.args.source.now c.args.sink.now c.serve.result c.serve.new.source
    c.serve.new.sink c.serve.ensures.calls
