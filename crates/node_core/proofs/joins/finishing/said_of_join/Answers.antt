use Rattle.std.proofs.Common.{ℕ, ◌++◌, List, ap, ◌∙◌}
use Rattle.overlay_rules.specs.Outcome.{Sent, to_both, to_each}
use Rattle.wire_msg.specs.Words.{Announce, Confirm}
use Rattle.node_core.proofs.joins.finishing.said_of_join.Goals as goal

pub returns : goal.returns
returns c = λ known h.
    c.in_ok-send_to_each.ensures
    ∙ ap (λ (ms : List Sent). ms ++ to_each c.as_slice.result.now Announce) c.in_ok-messages.ensures
    ∙ ap (λ (ys : List ℕ). to_both c.args.left c.args.right (Confirm c.args.attempt) ++ to_each ys Announce)
    (c.as_slice.ensures.value ∙ c.in_ok-leaves.ensures known h)
