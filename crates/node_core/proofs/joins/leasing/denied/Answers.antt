use Rattle.overlay_rules.specs.State.{State}
use Rattle.node_parts.specs.Seen.{seen}
use Rattle.overlay_rules.specs.Gatekeeper.{cleared}
use Rattle.node_core.proofs.joins.leasing.denied.Goals as goal

pub returns : goal.returns
returns c = λ known.
    let s : State = seen c.args.node.now known in
    c.sending.ensures s (cleared s c.args.gate.now.joiner c.args.gate.now.attempt) (c.in_ok-change.ensures known)
