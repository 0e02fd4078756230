use Rattle.std.proofs.Common.{◌≡◌, Bool, Option, ◌==◌, IfOk, ap, ◌∙◌, subst}
use Rattle.coverage.specs.declared.Reach.{Reach}
use Rattle.overlay_rules.specs.declared.gate.Gate.{Gate}
use Rattle.overlay_rules.specs.State.{State, Lease}
use Rattle.overlay_rules.specs.Gates.{gate_on, is_older}
use Rattle.overlay_rules.specs.Gatekeeper.{unless_lease}
use Rattle.node_parts.specs.Seen.{seen}
use Rattle.node_parts.specs.Change.{changed, gate_after}
use Rattle.node_core.proofs.Gates.{opened_state}
use Rattle.node_core.proofs.joins.granting.gates_set.Goals as goal

pub returns : goal.returns
returns c = λ known.
    let s : State = seen c.args.node.now known in
    let g : Gate = c.args.gate.now in
    let lease : Lease = record { gate = g; lists = c.args.lists.now } in
    subst (λ (after : State). IfOk c.of.result (λ change. changed change s ≡ after))
    (ap (λ (x : Reach). opened_state s (gate_after c.in_ok-left_gate.left_gate s.left_gate)
    (gate_after c.in_ok-right_gate.right_gate s.right_gate) x g.joiner) c.in_ok-gap.ensures.ok
    ∙ ap (λ (x : Option Lease). opened_state s x (gate_after c.in_ok-right_gate.right_gate s.right_gate) c.args.reach.now g.joiner)
    (c.in_ok-left_gate.ensures ∙ ap (λ (b : Bool). gate_on b lease (unless_lease (is_older g.joiner g.attempt) s.left_gate)) c.eq-on_left.ensures)
    ∙ ap (λ (x : Option Lease).
    opened_state s (gate_on (s.me == g.right) lease (unless_lease (is_older g.joiner g.attempt) s.left_gate)) x c.args.reach.now g.joiner)
    (c.in_ok-right_gate.ensures ∙ ap (λ (b : Bool). gate_on b lease (unless_lease (is_older g.joiner g.attempt) s.right_gate)) c.eq-on_right.ensures))
    (c.of.ensures s)
