use Rattle.std.proofs.Common.{ap, ◌∙◌}
use Rattle.coverage.specs.NextHop.{to_better}
use Rattle.lookup_core.proofs.hop.to_any.Goals as goal

pub returns-in-Some : goal.returns-in-Some
returns-in-Some c = λ list st others. ap (to_better c.args.known.now.leafs.me list c.args.key) (c.in-Some.ensures list st others)

pub returns-in-None : goal.returns-in-None
returns-in-None c = λ list st others.
    c.to_leaf.ensures list st others ∙ ap (to_better c.args.known.now.leafs.me list c.args.key) (c.in-None.ensures list st others)
