use Rattle.std.proofs.Common.{◌∙◌, ◌++◌, ◌∷◌, ◌==◌, [], List, take, sym, ap, arith}
use Rattle.std.proofs.lemmas.List.{map_more, take_all}
use Rattle.ring_math.specs.Names.{Id}
use Rattle.scenario_reader.specs.declared.node.NodeLine.{NodeLine}
use Rattle.node_cell.specs.Cell.{Cell, empty_cell}
use Rattle.overlay_harness.proofs.Made.{fresh}
use Rattle.overlay_harness.proofs.cells.new_cells.Goals as goal

pub loop-node-preserved : goal.loop-node-preserved
loop-node-preserved c =
    let i = c.loop-node.node-index in
    let nodes : List NodeLine = c.nodes-nodes.result.now in
    let founder : Id = c.founder-founder.result in
    let one : NodeLine = c.node-item.result in
    let so_far : List Cell = fresh founder (take i nodes) in
    c.in_ok-push.ensures.items
    ∙ ap (λ (ds : List Cell). ds ++ c.in_ok-cell.cell ∷ []) c.loop-node.invariant
    ∙ ap (λ (d : Cell). so_far ++ d ∷ []) (c.in_ok-cell.ensures ∙ ap (empty_cell one.id) c.eq.ensures)
    ∙ ap (λ (n : NodeLine). so_far ++ empty_cell n.id (n.id == founder) ∷ []) c.node-item.is
    ∙ sym (map_more (λ (n : NodeLine). empty_cell n.id (n.id == founder)) nodes i one c.loop-node-test.true)

pub returns : goal.returns
returns c =
    c.loop-node.invariant
    ∙ ap (fresh c.founder-founder.result) (take_all c.loop-node.node-index c.nodes-nodes.result.now (omega arith) ∙ c.nodes-nodes.ensures.value)
    ∙ ap (λ (x : Id). fresh x c.args.scenario.now.nodes) c.founder-founder.ensures.value
