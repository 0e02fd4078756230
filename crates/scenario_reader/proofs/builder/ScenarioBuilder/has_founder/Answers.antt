use Rattle.std.proofs.Common.{◌≤◌, subst}
use Rattle.scenario_reader.specs.Plain.{Draft}
use Rattle.scenario_reader.specs.Tallies.{tally_of}
use Rattle.scenario_reader.proofs.Growth.{tally_of-deliveries}
use Rattle.scenario_reader.proofs.builder.ScenarioBuilder.has_founder.Goals as goal

pub returns-clause-deliveries : goal.returns-clause-deliveries
returns-clause-deliveries c =
    let within : Draft → Type 0 = λ draft. (tally_of draft.actions).deliveries ≤ 1000000 in
    subst within c.self.view_is (tally_of-deliveries _ c.self.invariant.0)
