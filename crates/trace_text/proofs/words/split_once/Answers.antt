use Rattle.std.proofs.Common.{◌+◌, add-one, arith}
use Rattle.std.proofs.lemmas.List.{take_rest}
use Rattle.scenario_reader.proofs.Cuts.{NoneBelow-from_search}
use Rattle.trace_text.proofs.Cuts.{lacks-below, lacks-all, cut_at}
use Rattle.trace_text.proofs.words.split_once.Goals as goal

pub returns-in-Some : goal.returns-in-Some
returns-in-Some c =
    let text = c.args.text.now in
    let end = c.in-Some.end in
    let first = c.in-Some.ensures.0 in
    rw (take_rest text (end + 1), add-one) (
      cut_at c.args.byte text end first.high c.in-Some.ensures.1,
      lacks-below c.args.byte text end (NoneBelow-from_search c.args.byte text end first.before) (omega (arith, first.high)),
    )

pub returns-in-None : goal.returns-in-None
returns-in-None c =
    lacks-all c.args.byte c.args.text.now (NoneBelow-from_search c.args.byte c.args.text.now _ c.in-None.ensures)
