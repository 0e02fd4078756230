use Rattle.std.proofs.Common.{◌≡◌, true, false, Some, sym, ap, ◌∙◌, subst, arith}
use Rattle.std.specs.Prelude.{is_none}
use Rattle.std.proofs.lemmas.Bool.{eq-eqb}
use Rattle.ring_math.specs.Ring.{shared_of}
use Rattle.route_table.specs.Entries.{entry_in}
use Rattle.route_table.proofs.Learning.{is-there, is-some, learnt-before, stands-elsewhere}
use Rattle.route_table.proofs.RouteTable.standing.Goals as goal

pub returns-then-is_there-clause-same : goal.returns-then-is_there-clause-same
returns-then-is_there-clause-same c = λ _ known st.
    let fewer = c.shared-row.ensures.fewer (λ same. let equal : c.eq.result ≡ true = c.eq.ensures ∙ eq-eqb c.args.id c.me-me.result (sym same) in cc) in
    stands-elsewhere c.args.self.now known c.args.id c.shared-row.result c.digit.result st
    (subst (λ m. c.shared-row.result ≡ shared_of m c.args.id) c.me-me.ensures c.shared-row.ensures.value)
    c.digit.ensures fewer (omega (arith, c.digit.ensures))
    (ap is_none (sym c.entry-there.ensures) ∙ is-some c.args.id c.entry-there.result (sym c.is_there.ensures ∙ c.if-is_there.true))

pub returns-then-is_some-clause-same : goal.returns-then-is_some-clause-same
returns-then-is_some-clause-same c = λ _ known st.
    let fewer = c.shared-row.ensures.fewer (λ same. let equal : c.eq.result ≡ true = c.eq.ensures ∙ eq-eqb c.args.id c.me-me.result (sym same) in cc) in
    let some : is_none (entry_in c.args.self.now c.shared-row.result c.digit.result) ≡ false =
    grind (arith, c.entry-there.ensures, c.is_some.ensures, c.if-is_some.true) in
    stands-elsewhere c.args.self.now known c.args.id c.shared-row.result c.digit.result st
    (subst (λ m. c.shared-row.result ≡ shared_of m c.args.id) c.me-me.ensures c.shared-row.ensures.value)
    c.digit.ensures fewer (omega (arith, c.digit.ensures)) some

pub returns-then-is_there-clause-learnt : goal.returns-then-is_there-clause-learnt
returns-then-is_there-clause-learnt c = λ _ known st.
    let fewer = c.shared-row.ensures.fewer (λ same. let equal : c.eq.result ≡ true = c.eq.ensures ∙ eq-eqb c.args.id c.me-me.result (sym same) in cc) in
    let some : entry_in c.args.self.now c.shared-row.result c.digit.result ≡ Some c.args.id =
    sym c.entry-there.ensures ∙ is-there c.args.id c.entry-there.result (sym c.is_there.ensures ∙ c.if-is_there.true) in
    learnt-before c.args.self.now known c.args.id c.shared-row.result c.digit.result st fewer (omega (arith, c.digit.ensures)) some
