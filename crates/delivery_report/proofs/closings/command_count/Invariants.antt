use Rattle.std.proofs.Common.{◌≡◌, ◌≤◌, take}
use Rattle.scenario_reader.specs.Tallies.{tally_of}
use Rattle.delivery_report.proofs.closings.command_count.Given as goal

abbrev pub invariant-loop-action : goal.invariant-loop-action
invariant-loop-action l = (l.count ≡ (tally_of (take l.action-index l.action-items)).commands) × (l.count ≤ l.action-index)
