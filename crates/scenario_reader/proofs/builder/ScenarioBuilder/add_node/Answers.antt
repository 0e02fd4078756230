use Rattle.std.proofs.Common.{◌≡◌, arith, length}
use Rattle.scenario_reader.specs.Plain.{Draft}
use Rattle.scenario_reader.specs.Rules.{MayDeclareNode}
use Rattle.scenario_reader.specs.declared.node.NodeLine.{NodeLine}
use Rattle.scenario_reader.proofs.Marked.{marks_by-push}
use Rattle.scenario_reader.proofs.Growth.{DraftKeepsRules-node}
use Rattle.scenario_reader.proofs.builder.ScenarioBuilder.add_node.Goals as goal

pub invariant_of-self-2 : goal.invariant_of-self-2
invariant_of-self-2 c =
    let fields = c.self.inside in
    let draft : Draft = record { nodes = fields.nodes.items; founder = fields.founder; files = fields.files.items; actions = fields.actions.items } in
    let may : MayDeclareNode draft c.args.name.now c.args.id = rw c.self.view_is c.requires in
    let place : c.len.result ≡ length fields.nodes.items = omega (arith, c.len.ensures, fields.nodes.ok) in
    rw (c.in_ok-push.ensures.items, c.spelled-name.ensures, place, c.mark_of.ensures) (
      DraftKeepsRules-node draft (record { name = c.args.name.now; id = c.args.id; line = c.args.line }) c.self.invariant.0 may (omega arith),
      c.self.invariant.1,
      marks_by-push (λ (node : NodeLine). node.name) fields.nodes.items _ fields.node_marks (omega arith) c.self.invariant.2,
      c.self.invariant.3,
    )
