use Rattle.std.proofs.Common.{Option, ap, ◌∙◌}
use Rattle.overlay_rules.specs.State.{State}
use Rattle.node_parts.specs.Seen.{seen}
use Rattle.overlay_rules.specs.State.{Lease}
use Rattle.overlay_rules.specs.Gates.{is_of}
use Rattle.overlay_rules.specs.Gatekeeper.{unless_lease}
use Rattle.node_parts.specs.Change.{gate_after}
use Rattle.node_core.proofs.joins.gates.on_release.Goals as goal

pub returns : goal.returns
returns c = λ known.
    let s : State = seen c.args.node.now known in
    c.quiet.ensures s _
    (c.in_ok-change.ensures s
    ∙ ap (λ (g : Option Lease). record s { left_gate = g; right_gate = gate_after c.without-2.result s.right_gate }) c.without.ensures
    ∙ ap (λ (g : Option Lease). record s { left_gate = unless_lease (is_of c.args.from c.args.attempt) s.left_gate; right_gate = g }) c.without-2.ensures)
