use Rattle.std.proofs.Common.{◌∙◌}
use Rattle.std.proofs.lemmas.List.{length-set}
use Rattle.std.proofs.lemmas.List.Elements.{All-set}
use Rattle.delivery_report.specs.Names.{IsRight}
use Rattle.delivery_report.proofs.Found.{found-right}
use Rattle.delivery_report.proofs.names.guesses_of.Goals as goal

pub loop-node-preserved : goal.loop-node-preserved
loop-node-preserved c = record {
  right = All-set (IsRight c.args.nodes.now) c.loop-node.guesses.items c.guess_of.result c.copied.result
      (found-right c.requires _ c.copied.result (c.copied.ensures ∙ c.get.ensures.value)) c.loop-node.invariant.right;
  size = length-set c.loop-node.guesses.items c.guess_of.result c.copied.result ∙ c.loop-node.invariant.size;
}
