use Rattle.std.proofs.lemmas.Bool.Decides.{Decides-at}
use Rattle.std.specs.Cmp.{unsigned_Decides}
use Rattle.std.specs.Cmp.Lexicographic.{pointwise_decides}
use Rattle.wire_compare.proofs.lists.are_same_ids.Goals as goal

pub returns : goal.returns
returns c = Decides-at c.eq.result _ c.eq.ensures (pointwise_decides unsigned_Decides c.args.one.now c.args.other.now)
