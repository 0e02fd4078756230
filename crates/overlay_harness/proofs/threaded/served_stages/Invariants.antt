use Rattle.std.proofs.Common.{◌≤◌, map, take}
use Rattle.overlay_harness.specs.Driven.{end_budget}
use Rattle.overlay_harness.specs.Shown.{shown}
use Rattle.overlay_harness.specs.Stages.{last_budget}
use Rattle.overlay_harness.proofs.threaded.served_stages.Given as goal

-- the last of so many of the stages so far has a budget, if there is any that has one
abbrev pub invariant-loop-place : goal.invariant-loop-place
invariant-loop-place l = record {
  within : l.count ≤ l.place;
  last : last_budget (map shown (take l.count l.stages)) ≤ end_budget (map shown (take l.count l.stages));
}
