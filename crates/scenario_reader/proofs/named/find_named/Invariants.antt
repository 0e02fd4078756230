use Rattle.std.proofs.Common.{◌≡◌, ◌≤◌, ◌-◌, length, drop}
use Rattle.std.specs.Prelude.{find, bytes_eq}
use Rattle.scenario_reader.proofs.named.find_named.Given as goal

-- a search of the rest finds what a search of all finds
abbrev pub invariant-loop-step : goal.invariant-loop-step
invariant-loop-step g l = record {
  within : l.from ≤ length l.items;
  same : find (λ item. bytes_eq (g.T.Named.name_of item) l.name) (drop l.from l.items) ≡ find (λ item. bytes_eq (g.T.Named.name_of item) l.name) l.items;
}

abbrev pub decreases-loop-step : goal.decreases-loop-step
decreases-loop-step g l = length l.items - l.from
