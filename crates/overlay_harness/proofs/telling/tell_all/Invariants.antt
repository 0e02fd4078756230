use Rattle.std.proofs.Common.{◌≡◌, drop, map, take}
use Rattle.weave.specs.Cells.{nodes}
use Rattle.overlay_harness.specs.Work.{MayBeTold, told}
use Rattle.overlay_harness.proofs.telling.tell_all.Given as goal

-- the actions so far are told, and the others may be
abbrev pub invariant-loop-action : goal.invariant-loop-action
invariant-loop-action l =
    record {
      told : l.cells ≡ map (told (take l.action-index l.actions)) l.fn.cells;
      nodes_are : nodes l.cells ≡ nodes l.fn.cells;
      others : MayBeTold l.cells (drop l.action-index l.actions);
    }
