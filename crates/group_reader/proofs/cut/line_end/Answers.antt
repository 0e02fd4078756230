use Rattle.std.proofs.Common.{◌+◌, add-one, arith, length}
use Rattle.std.proofs.lemmas.List.{drop_all, take_all}
use Rattle.scenario_reader.proofs.Cuts.{NoneBelow-from_search, lines_of-cut, lines_of-last}
use Rattle.group_reader.proofs.Cutting.{line_alone, line_closed}
use Rattle.group_reader.proofs.cut.line_end.Goals as goal

pub returns-in-Some-clause-lines : goal.returns-in-Some-clause-lines
returns-in-Some-clause-lines c =
    let first = c.in-Some.ensures.0 in
    rw add-one (lines_of-cut c.args.text.now c.in-Some.end first.high (NoneBelow-from_search 10 c.args.text.now c.in-Some.end first.before) c.in-Some.ensures.1)

pub returns-in-Some-clause-alone : goal.returns-in-Some-clause-alone
returns-in-Some-clause-alone c =
    let first = c.in-Some.ensures.0 in
    rw add-one (line_alone c.args.text.now c.in-Some.end first.high (NoneBelow-from_search 10 c.args.text.now c.in-Some.end first.before) c.in-Some.ensures.1)

pub returns-in-Some-clause-closed : goal.returns-in-Some-clause-closed
returns-in-Some-clause-closed c = λ lt. rw add-one (line_closed c.args.text.now c.in-Some.end lt c.in-Some.ensures.1)

pub returns-in-None-clause-lines : goal.returns-in-None-clause-lines
returns-in-None-clause-lines c =
    let text = c.args.text.now in
    rw (take_all (length text) text (omega arith), drop_all (length text + 1) text (omega arith))
    (lines_of-last text c.requires (NoneBelow-from_search 10 text (length text) c.in-None.ensures))

pub returns-in-None-clause-alone : goal.returns-in-None-clause-alone
returns-in-None-clause-alone c =
    let text = c.args.text.now in
    rw (take_all (length text) text (omega arith), take_all (length text + 1) text (omega arith))
    (lines_of-last text c.requires (NoneBelow-from_search 10 text (length text) c.in-None.ensures))
