use Rattle.std.proofs.Common.{None, ◌∙◌, sym, ap, arith}
use Rattle.coverage.specs.NextHop.{onward}
use Rattle.lookup_core.proofs.Hops.{others_of, covers-me, hop-here, hop-gap, hop-nearer}
use Rattle.lookup_core.proofs.hop.next_hop.Goals as goal

pub returns-then-covers-clause-hop : goal.returns-then-covers-clause-hop
returns-then-covers-clause-hop c = λ list st k. hop-here c.args.reach.now list c.args.key (sym c.covers.ensures ∙ c.if-covers.true)

pub returns-then-covers-clause-nearer : goal.returns-then-covers-clause-nearer
returns-then-covers-clause-nearer c = λ list y st k e. cc

pub onward-requires : goal.onward-requires
onward-requires c = λ e. covers-me c.args.reach.now c.args.key (sym c.covers.ensures ∙ c.if-covers.false) (e ∙ c.requires)

pub returns-in-Some-clause-hop : goal.returns-in-Some-clause-hop
returns-in-Some-clause-hop c = λ list st k.
    hop-gap c.args.reach.now list c.args.key _ (sym c.covers.ensures ∙ c.if-covers.false) c.in-Some.ensures

pub returns-in-Some-clause-nearer : goal.returns-in-Some-clause-nearer
returns-in-Some-clause-nearer c = λ list y st k e. cc

pub returns-in-None-clause-hop : goal.returns-in-None-clause-hop
returns-in-None-clause-hop c = λ list st k.
    c.onward.ensures list st (others_of c.args.reach.now list c.args.known.now.leafs.me c.requires k)
    ∙ ap (λ m. onward m list c.args.key) c.requires
    ∙ hop-gap c.args.reach.now list c.args.key None (sym c.covers.ensures ∙ c.if-covers.false) c.in-None.ensures

pub returns-in-None-clause-nearer : goal.returns-in-None-clause-nearer
returns-in-None-clause-nearer c = λ list y st k e.
    hop-nearer c.args.reach.now list c.args.key y c.onward.result k (omega arith)
    (c.onward.ensures list st (others_of c.args.reach.now list c.args.known.now.leafs.me c.requires k)
    ∙ ap (λ m. onward m list c.args.key) c.requires
    ∙ hop-gap c.args.reach.now list c.args.key None (sym c.covers.ensures ∙ c.if-covers.false) c.in-None.ensures) e
