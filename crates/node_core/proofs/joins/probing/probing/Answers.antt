use Rattle.std.proofs.Common.{ap, ◌∙◌}
use Rattle.wire_msg.specs.Words.{Probe}
use Rattle.overlay_rules.specs.Outcome.{to_each}
use Rattle.node_core.proofs.joins.probing.probing.Goals as goal

pub returns : goal.returns
returns c = λ s.
    record {
      state = c.in_ok-change.ensures s;
      messages = c.in_ok-messages.ensures ∙ ap (λ a. to_each c.args.probes.now (Probe a)) c.attempt.ensures;
      notes = c.new.ensures;
    }
