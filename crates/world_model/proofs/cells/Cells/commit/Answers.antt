use Rattle.std.proofs.Common.{◌≡◌, List, length, ap, arith}
use Rattle.node_parts.specs.declared.node.Node.{Node}
use Rattle.world_model.proofs.OneNode.{ids-length}
use Rattle.world_model.proofs.Finding.{Finds-different}
use Rattle.world_model.proofs.cells.Cells.commit.Goals as goal

pub commit_at-requires-clause-within : goal.commit_at-requires-clause-within
commit_at-requires-clause-within c =
    let same : length c.self.inside.nodes.items ≡ length c.args.self.now = ap (λ (ns : List Node). length ns) c.self.view_is in
    let long = ids-length c.args.self.now in
    omega (arith, c.self.inside.nodes.ok.0, c.requires.within)

pub commit_at-requires-clause-different : goal.commit_at-requires-clause-different
commit_at-requires-clause-different c = Finds-different c.self.inside.places c.self.inside.nodes.items c.self.invariant
