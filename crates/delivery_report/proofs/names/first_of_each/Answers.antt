use Rattle.std.proofs.Common.{◌∙◌, sym, ap}
use Rattle.scenario_reader.specs.declared.node.NodeLine.{NodeLine}
use Rattle.overlay_rules.proofs.Prefixes.{take-next}
use Rattle.delivery_report.proofs.Found.{FindsAll-kept, FindsAll-added, FindsAll-same}
use Rattle.delivery_report.proofs.names.first_of_each.Goals as goal
use Rattle.delivery_report.proofs.names.first_of_each.Goals.{then-not-contains_key+in_ok-insert, else-not-contains_key}

pub loop-node-preserved : goal.loop-node-preserved
loop-node-preserved c =
    let key = ap (λ (node : NodeLine). node.id) c.node.view_is in
    let next = sym (take-next c.args.nodes.now c.loop-node.node-index c.node-item.result c.loop-node-test.true c.node-item.is) in
    elim c.if-not-contains_key.branch [
      | then-not-contains_key+in_ok-insert w ↦ FindsAll-same
          (FindsAll-added c.loop-node.invariant _ _ key (sym c.contains_key.ensures ∙ w.if-not-contains_key.true) w.in_ok-insert.ensures.updates.0)
          (sym w.by_id-is) next
      | else-not-contains_key w ↦ FindsAll-same
          (FindsAll-kept c.loop-node.invariant c.node-item.result _ key (sym c.contains_key.ensures ∙ w.if-not-contains_key.false))
          (sym w.by_id-is) next
    ]
