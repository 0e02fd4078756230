use Rattle.std.proofs.Common.{◌∙◌, arith, inr, length, sym}
use Rattle.std.proofs.lemmas.Bool.{eqb-false}
use Rattle.group_reader.proofs.Cutting.{too_many}
use Rattle.group_reader.proofs.read.read_behind.Goals as goal

pub returns-then-count-gt-MOST_LINES-clause-refused : goal.returns-then-count-gt-MOST_LINES-clause-refused
returns-then-count-gt-MOST_LINES-clause-refused c =
    let rest = c.loop-rest.rest.now in
    let more = eqb-false (length rest) 0 (sym c.is_empty.ensures ∙ c.loop-rest-test.true) in
    inr (sym c.loop-rest.invariant.whole
    ∙ too_many c.loop-rest.draft c.loop-rest.line c.loop-rest.count rest (omega arith) c.if-count-gt-MOST_LINES.true)
