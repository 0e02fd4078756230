use Rattle.std.proofs.Common.{◌+◌, add-one, arith, length}
use Rattle.std.proofs.lemmas.List.{take_rest, drop_all}
use Rattle.scenario_reader.proofs.Cuts.{NoneBelow-from_search, lines_of-cut, lines_of-last}
use Rattle.scenario_reader.proofs.lines.split_line.Goals as goal

pub returns-in-Some-clause-lines : goal.returns-in-Some-clause-lines
returns-in-Some-clause-lines c =
    let text = c.args.text.now in
    let end = c.in-Some.end in
    let first = c.in-Some.ensures.0 in
    rw (take_rest text (end + 1), add-one) (lines_of-cut text end first.high (NoneBelow-from_search 10 text end first.before) c.in-Some.ensures.1)

pub returns-in-None-clause-lines : goal.returns-in-None-clause-lines
returns-in-None-clause-lines c =
    let text = c.args.text.now in
    rw (take_rest text (length text), drop_all (length text) text (omega arith))
    (lines_of-last text c.requires (NoneBelow-from_search 10 text (length text) c.in-None.ensures))
