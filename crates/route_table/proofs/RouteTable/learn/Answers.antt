use Rattle.std.proofs.Common.{◌≡◌, true, false, ◌==◌, sym, ◌∙◌, subst}
use Rattle.std.proofs.lemmas.Bool.{eq-eqb}
use Rattle.ring_math.specs.Ring.{shared_of}
use Rattle.route_table.proofs.Learning.{stands-learnt}
use Rattle.route_table.proofs.RouteTable.learn.Goals as goal

pub returns-clause-stands : goal.returns-clause-stands
returns-clause-stands c = λ known st.
    let fewer = c.shared-row.ensures.fewer (λ same. let equal : c.eq.result ≡ true = c.eq.ensures ∙ eq-eqb c.args.id c.me-node.result (sym same) in cc) in
    stands-learnt c.args.self.now c.fill.new.self known c.args.id c.shared-row.result c.digit.result c.fill.result st
    (subst (λ m. (c.args.id == m) ≡ false) c.me-node.ensures (sym c.eq.ensures ∙ c.if-eq.false))
    (subst (λ m. c.shared-row.result ≡ shared_of m c.args.id) c.me-node.ensures c.shared-row.ensures.value)
    c.digit.ensures fewer c.fill.ensures.answer c.fill.ensures.filled c.fill.ensures.same
