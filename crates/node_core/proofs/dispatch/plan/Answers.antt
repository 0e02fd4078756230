use Rattle.node_parts.specs.Seen.{seen}
use Rattle.node_parts.proofs.Making.{prepares, all-prepared}
use Rattle.node_core.proofs.dispatch.plan.Goals as goal

pub returns-in-Command : goal.returns-in-Command
returns-in-Command c = λ known h. rw c.in-Command.is (all-prepared (seen c.args.node.now known) c.on_command.result _ (c.on_command.ensures known h))

pub returns-in-Message : goal.returns-in-Message
returns-in-Message c = λ known h. rw c.in-Message.is (c.on_message.ensures known h)

pub returns-in-Noise : goal.returns-in-Noise
returns-in-Noise c = λ known h.
    rw c.in-Noise.is (prepares (seen c.args.node.now known) c.quiet.result _ (c.quiet.ensures _ _ (c.nothing.ensures (seen c.args.node.now known))))
