use Rattle.std.proofs.Common.{◌≡◌, ◌∷◌, [], drop, take}
use Rattle.overlay_harness.specs.Work.{MayBeTold, told}
use Rattle.overlay_harness.proofs.worker.tell_own.Given as goal

-- the actions so far are told, and the others may be
abbrev pub invariant-loop-action : goal.invariant-loop-action
invariant-loop-action l = record {
  told : l.cell ≡ told (take l.action-index l.actions) l.fn.cell;
  others : MayBeTold (l.cell ∷ []) (drop l.action-index l.actions);
}
