use Rattle.std.proofs.Common.{◌≤◌, arith, ap, subst}
use Rattle.scenario_reader.specs.declared.tally.Tally.{Tally}
use Rattle.scenario_reader.specs.Plain.{Draft}
use Rattle.scenario_reader.specs.Tallies.{tally_of}
use Rattle.scenario_reader.proofs.Growth.{tally_of-commands, tally_of-deliveries}
use Rattle.scenario_reader.proofs.builder.ScenarioBuilder.next_number.Goals as goal

pub overflow_add-result : goal.overflow_add-result
overflow_add-result c =
    let counted = ap (λ (t : Tally). t.commands) c.self.invariant.1 in
    omega (arith, counted, tally_of-commands c.self.inside.actions.items, c.self.inside.actions.ok, c.self.inside.actions.small)

pub returns-clause-limit : goal.returns-clause-limit
returns-clause-limit c =
    let within : Draft → Type 0 = λ draft. (tally_of draft.actions).deliveries ≤ 1000000 in
    subst within c.self.view_is (tally_of-deliveries _ c.self.invariant.0)
