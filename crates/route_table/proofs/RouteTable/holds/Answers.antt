use Rattle.std.proofs.Common.{◌≡◌, true, Some, sym, ◌∙◌, arith}
use Rattle.std.proofs.lemmas.Bool.{eq-eqb}
use Rattle.route_table.specs.Entries.{entry_in}
use Rattle.route_table.proofs.Learning.{is-there, learnt-before}
use Rattle.route_table.proofs.RouteTable.holds.Goals as goal

pub returns-clause-learnt : goal.returns-clause-learnt
returns-clause-learnt c = λ yes known st.
    let fewer = c.shared-row.ensures.fewer (λ same. let equal : c.eq.result ≡ true = c.eq.ensures ∙ eq-eqb c.args.id c.me-me.result (sym same) in cc) in
    let some : entry_in c.args.self.now c.shared-row.result c.digit.result ≡ Some c.args.id =
    sym c.entry.ensures ∙ is-there c.args.id c.entry.result (sym c.is_there.ensures ∙ yes) in
    learnt-before c.args.self.now known c.args.id c.shared-row.result c.digit.result st fewer (omega (arith, c.digit.ensures)) some
