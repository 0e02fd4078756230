use Rattle.std.proofs.Common.{◌≡◌}
use Rattle.std.specs.Prelude.{Contains}
use Rattle.node_cell.specs.Equipped.{HasPassesOf}
use Rattle.cell_trials.proofs.mailboxes.exchange.Given as goal

abbrev pub invariant-loop : goal.invariant-loop
invariant-loop g l = record {
  of : HasPassesOf l.post l.one × HasPassesOf l.post l.two;
  nodes : Contains l.post.nodes l.one.node × Contains l.post.nodes l.two.node;
  same : (l.one.node ≡ l.initial.one.node) × (l.two.node ≡ l.initial.two.node);
}
