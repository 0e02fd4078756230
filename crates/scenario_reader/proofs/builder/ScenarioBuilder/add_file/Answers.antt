use Rattle.scenario_reader.specs.Plain.{Draft}
use Rattle.scenario_reader.specs.Rules.{MayDeclareFile}
use Rattle.std.proofs.Common.{◌≡◌, arith, length}
use Rattle.scenario_reader.specs.declared.node.FileLine.{FileLine}
use Rattle.scenario_reader.proofs.Marked.{marks_by-push}
use Rattle.scenario_reader.proofs.Growth.{DraftKeepsRules-file}
use Rattle.scenario_reader.proofs.builder.ScenarioBuilder.add_file.Goals as goal

pub invariant_of-self-2 : goal.invariant_of-self-2
invariant_of-self-2 c =
    let fields = c.self.inside in
    let draft : Draft = record { nodes = fields.nodes.items; founder = fields.founder; files = fields.files.items; actions = fields.actions.items } in
    let may : MayDeclareFile draft c.args.name.now = rw c.self.view_is c.requires in
    let place : c.len.result ≡ length fields.files.items = omega (arith, c.len.ensures, fields.files.ok) in
    rw (c.in_ok-push.ensures.items, c.spelled-name.ensures, place, c.mark_of.ensures) (
      DraftKeepsRules-file draft (record { name = c.args.name.now; file = c.args.file; bytes = c.args.bytes; line = c.args.line }) c.self.invariant.0 may,
      c.self.invariant.1,
      c.self.invariant.2,
      marks_by-push (λ (file : FileLine). file.name) fields.files.items _ fields.file_marks (omega arith) c.self.invariant.3,
    )
