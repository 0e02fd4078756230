use Rattle.std.proofs.Common.{◌∙◌, ◌++◌, ◌∷◌, [], List, take, sym, ap, arith}
use Rattle.std.proofs.lemmas.List.{map_more, take_all}
use Rattle.ring_math.specs.Names.{Id}
use Rattle.scenario_reader.specs.declared.node.NodeLine.{NodeLine}
use Rattle.scenario_reader.specs.Plain.{ids}
use Rattle.overlay_harness.proofs.threaded.ids_of.Goals as goal

pub loop-node-preserved : goal.loop-node-preserved
loop-node-preserved c =
    let i = c.loop-node.node-index in
    let nodes : List NodeLine = c.args.nodes.now in
    let so_far : List Id = ids (take i nodes) in
    c.in_ok-push.ensures.items
    ∙ ap (λ (xs : List Id). xs ++ c.node-item.result.id ∷ []) c.loop-node.invariant
    ∙ ap (λ (n : NodeLine). so_far ++ n.id ∷ []) c.node-item.is
    ∙ sym (map_more (λ (n : NodeLine). n.id) nodes i c.node-item.result c.loop-node-test.true)

pub returns : goal.returns
returns c = c.loop-node.invariant ∙ ap ids (take_all c.loop-node.node-index c.args.nodes.now (omega arith))
