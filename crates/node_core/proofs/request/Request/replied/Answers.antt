use Rattle.node_parts.specs.Change.{waited}
use Rattle.node_core.proofs.request.Request.replied.Goals as goal

pub returns : goal.returns
returns c = λ s. c.replied.ensures s (waited c.args.self.now.wait s) (c.waits-change.ensures s)
