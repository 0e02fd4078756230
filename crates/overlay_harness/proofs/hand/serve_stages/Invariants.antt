use Rattle.std.proofs.Common.{◌≡◌, map, take}
use Rattle.weave.specs.Cells.{histories, nodes}
use Rattle.overlay_harness.specs.Once.{AllTookOnce}
use Rattle.overlay_harness.specs.Served.{IsServedTo}
use Rattle.overlay_harness.specs.Shown.{shown}
use Rattle.overlay_harness.proofs.hand.serve_stages.Given as goal

-- the stages so far are served
abbrev pub invariant-loop-place : goal.invariant-loop-place
invariant-loop-place l = record {
  served : IsServedTo l.scenario (map shown (take l.place l.stages)) l.cells;
  once : AllTookOnce (histories l.fn.cells) → AllTookOnce (histories l.cells);
  nodes_are : nodes l.cells ≡ nodes l.fn.cells;
}
