use Rattle.node_parts.specs.Change.{waited}
use Rattle.node_core.proofs.request.Request.passed_on.Goals as goal

pub returns : goal.returns
returns c = λ s. c.sending.ensures s (waited c.args.self.now.wait s) (c.waits.ensures s)
