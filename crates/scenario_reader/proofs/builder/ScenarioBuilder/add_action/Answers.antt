use Rattle.std.proofs.Common.{arith, sym, ◌∙◌, ap}
use Rattle.scenario_reader.specs.Plain.{Draft}
use Rattle.scenario_reader.specs.Rules.{MayAct}
use Rattle.scenario_reader.specs.Tallies.{tallied}
use Rattle.scenario_reader.specs.declared.tally.Tally.{Tally}
use Rattle.scenario_reader.proofs.Growth.{DraftKeepsRules-action, tally_of-more, tally_of-commands}
use Rattle.scenario_reader.proofs.builder.ScenarioBuilder.add_action.Goals as goal

pub after-tally-requires-clause-commands : goal.after-tally-requires-clause-commands
after-tally-requires-clause-commands c =
    let counted = ap (λ (t : Tally). t.commands) c.self.invariant.1 in
    omega (arith, counted, tally_of-commands c.self.inside.actions.items, c.self.inside.actions.ok, c.self.inside.actions.small)

pub invariant_of-self-2 : goal.invariant_of-self-2
invariant_of-self-2 c =
    let fields = c.self.inside in
    let draft : Draft = record { nodes = fields.nodes.items; founder = fields.founder; files = fields.files.items; actions = fields.actions.items } in
    let may : MayAct draft c.args.action.what = rw c.self.view_is c.requires in
    let counted = c.after-tally.ensures ∙ ap (λ (t : Tally). tallied t c.args.action.what) c.self.invariant.1 in
    rw c.in_ok-push.ensures.items (
      DraftKeepsRules-action draft c.args.action c.self.invariant.0 may,
      counted ∙ sym (tally_of-more fields.actions.items c.args.action),
      c.self.invariant.2,
      c.self.invariant.3,
    )
