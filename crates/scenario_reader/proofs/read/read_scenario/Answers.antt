use Rattle.std.proofs.Common.{length, arith, sym, ◌∙◌, inr}
use Rattle.std.proofs.lemmas.Bool.{eqb-false}
use Rattle.scenario_reader.proofs.TooMany.{read_from-limit}
use Rattle.scenario_reader.proofs.read.read_scenario.Goals as goal

pub returns-then-line-gt-MOST_LINES-clause-refused : goal.returns-then-line-gt-MOST_LINES-clause-refused
returns-then-line-gt-MOST_LINES-clause-refused c =
    let rest = c.loop-rest.rest.now in
    let more = eqb-false (length rest) 0 (sym c.is_empty.ensures ∙ c.loop-rest-test.true) in
    inr (sym c.loop-rest.invariant.whole ∙ read_from-limit c.loop-rest.draft c.loop-rest.line rest c.if-line-gt-MOST_LINES.true (omega arith))
