use Rattle.std.proofs.Common.{◌≡◌, ◌++◌, drop}
use Rattle.overlay_rules.specs.Gatekeeper.{handovers}
use Rattle.node_core.proofs.joins.granting.hand_over.Given as goal

abbrev pub invariant-loop-file : goal.invariant-loop-file
invariant-loop-file l = l.messages ++ handovers l.to l.store.files (drop l.file-index l.manifest) ≡ l.initial.messages
    ++ handovers l.to l.store.files l.manifest
