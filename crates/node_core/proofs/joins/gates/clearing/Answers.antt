use Rattle.std.proofs.Common.{◌≡◌, Option, IfOk, ap, subst, ◌∙◌}
use Rattle.overlay_rules.specs.State.{State}
use Rattle.node_parts.specs.Seen.{seen}
use Rattle.overlay_rules.specs.State.{Lease}
use Rattle.overlay_rules.specs.Gates.{is_older}
use Rattle.overlay_rules.specs.Gatekeeper.{unless_lease}
use Rattle.node_parts.specs.Change.{changed, gate_after}
use Rattle.node_core.proofs.joins.gates.clearing.Goals as goal

pub returns : goal.returns
returns c = λ known.
    let s : State = seen c.args.node.now known in
    subst (λ (t : State). IfOk c.gates.result (λ change. changed change s ≡ t))
    (ap (λ (g : Option Lease). record s { left_gate = g; right_gate = gate_after c.without_older-2.result s.right_gate }) c.without_older.ensures
    ∙ ap (λ (g : Option Lease). record s { left_gate = unless_lease (is_older c.args.joiner c.args.attempt) s.left_gate; right_gate = g })
    c.without_older-2.ensures)
    (c.gates.ensures s)
