use Rattle.std.proofs.Common.{◌≡◌, ◌∙◌, ◌++◌, ◌∷◌, [], ◌==◌, ℕ, List, take, sym, ap, subst}
use Rattle.std.proofs.lemmas.List.{take_more}
use Rattle.overlay_rules.specs.State.{start}
use Rattle.overlay_rules.specs.Record.{world_at_start}
use Rattle.node_parts.specs.declared.node.Node.{Node}
use Rattle.node_parts.specs.Seen.{Stands}
use Rattle.world_model.specs.Cells.{ids_of, AllStand}
use Rattle.world_model.proofs.OneNode.{ids-push, all-push}
use Rattle.world_model.proofs.cells.nodes_of.Goals as goal

pub loop-id-preserved : goal.loop-id-preserved
loop-id-preserved c =
    let node : Node = c.in_ok-node_of.field-0 in
    let items : c.push.new.self.items ≡ c.loop-id.nodes.items ++ node ∷ [] = c.in_ok-push.ensures.items in
    let me : node.me ≡ c.id-item.result = c.in_ok-node_of.ensures.me in
    let stands : Stands node (start c.id-item.result (c.id-item.result == c.args.founder)) = c.in_ok-node_of.ensures.stands in
    let states = (world_at_start (record { nodes = c.args.ids.now; founder = c.args.founder })).states in
    record {
      ids = ap ids_of items ∙ ids-push c.loop-id.nodes.items node ∙ ap (λ ids. ids ++ node.me ∷ []) c.loop-id.invariant.ids
          ∙ ap (λ (x : ℕ). take c.loop-id.id-index c.args.ids.now ++ x ∷ []) (me ∙ c.id-item.is)
          ∙ sym (take_more c.args.ids.now c.loop-id.id-index c.id-item.result c.loop-id-test.true);
      stand = subst (λ (ns : List Node). AllStand ns states) (sym items)
          (all-push c.loop-id.nodes.items states node c.loop-id.invariant.stand
          (subst (λ (x : ℕ). Stands node (start x (x == c.args.founder))) (sym me) stands));
    }
