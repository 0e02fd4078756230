use Rattle.std.proofs.Common.{ap, ◌∙◌}
use Rattle.overlay_rules.specs.State.{State}
use Rattle.node_parts.specs.Seen.{seen}
use Rattle.coverage.specs.GapFiles.{Lists}
use Rattle.overlay_rules.specs.Gatekeeper.{granted}
use Rattle.node_core.proofs.joins.leasing.granted_again.Goals as goal

pub returns : goal.returns
returns c = λ known.
    let s : State = seen c.args.node.now known in
    record {
      state = c.nothing.ensures s;
      messages = c.in_ok-messages.ensures ∙ ap (λ (l : Lists). granted c.args.gate.now.joiner c.args.gate.now.attempt l s.files) c.in_ok-lists.ensures;
      notes = c.new.ensures;
    }
