use Rattle.world_model.proofs.Happening.{IsWorld-start}
use Rattle.world_model.proofs.world.World.new.Goals as goal

pub invariant_of-result : goal.invariant_of-result
invariant_of-result c =
    IsWorld-start c.in_ok-cells.cells c.new-2.result c.args.nodes.now c.args.founder c.in_ok-entries.entries c.requires c.in_ok-cells.ensures.ids
    c.in_ok-entries.ensures c.in_ok-cells.ensures.stand c.new-2.ensures
