use Rattle.std.proofs.Common.{◌≡◌, ◌∙◌, ◌==◌, ◌++◌, ◌∷◌, ◌+◌, [], List, take, ap, sym, subst}
use Rattle.std.proofs.lemmas.List.{take_more}
use Rattle.ring_math.specs.Names.{Id}
use Rattle.step_facts.specs.Setting.{setting}
use Rattle.node_cell.specs.Cell.{Cell, empty_cell}
use Rattle.weave.specs.Relayed.{Hold}
use Rattle.weave.proofs.Relaying.{hold-push}
use Rattle.weave.proofs.relay.Relay.new.Goals as goal

pub loop-node-preserved : goal.loop-node-preserved
loop-node-preserved c =
    let i = c.loop-node.node-index in
    let x : Id = c.node-item.result in
    let founder : Id = c.args.founder in
    let next : take (i + 1) c.args.nodes.now ≡ take i c.args.nodes.now ++ x ∷ [] =
    take_more c.args.nodes.now i x c.loop-node-test.true ∙ ap (λ (y : Id). take i c.args.nodes.now ++ y ∷ []) (sym c.node-item.is) in
    let made : c.in_ok-new.field-0 ≡ empty_cell x (x == founder) = c.in_ok-new.ensures ∙ ap (empty_cell x) c.eq.ensures in
    subst (λ (xs : List Id). Hold (setting xs founder) [] c.push.new.self.items) (sym next)
    (subst (Hold (setting (take i c.args.nodes.now ++ x ∷ []) founder) [])
    (sym (c.in_ok-push.ensures.items ∙ ap (λ (b : Cell). c.loop-node.cells.items ++ b ∷ []) made))
    (hold-push (take i c.args.nodes.now) founder x c.loop-node.cells.items c.loop-node.invariant))
