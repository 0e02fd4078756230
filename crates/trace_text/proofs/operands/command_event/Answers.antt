use Rattle.std.proofs.lemmas.Result.{err_from_is_err_and}
use Rattle.trace_text.proofs.Refused.{are_words, no_second, node_fails, number_fails, command_fails}
use Rattle.trace_text.proofs.operands.command_event.Goals as goal

pub returns-in_default-split_once : goal.returns-in_default-split_once
returns-in_default-split_once c = λ l ops.
    no_second c.args.text.now c.in-Some.node.now c.in-Some.rest.now l c.in-Some.ensures.0 c.in-Some.ensures.1 c.in_default-split_once.ensures ops

pub returns-in_err-node : goal.returns-in_err-node
returns-in_err-node c =
    let p = err_from_is_err_and c.from_residual.result c.from_residual.ensures.1 in
    let words = are_words c.args.text.now c.in-Some.node.now c.in-Some.rest.now c.in-Some-split_once.number.now c.in-Some-split_once.command.now
    c.in-Some.ensures.0 c.in-Some.ensures.1 c.in-Some-split_once.ensures.0 c.in-Some-split_once.ensures.1 in
    rw (p.1, p.2) (node_fails c.args.text.now _ _ _ _ words c.in_err-node.ensures)

pub returns-in_err-number : goal.returns-in_err-number
returns-in_err-number c =
    let p = err_from_is_err_and c.from_residual-in_err-number.result c.from_residual-in_err-number.ensures.1 in
    let words = are_words c.args.text.now c.in-Some.node.now c.in-Some.rest.now c.in-Some-split_once.number.now c.in-Some-split_once.command.now
    c.in-Some.ensures.0 c.in-Some.ensures.1 c.in-Some-split_once.ensures.0 c.in-Some-split_once.ensures.1 in
    rw (p.1, p.2) (number_fails c.args.text.now _ _ _ _ words c.in_err-number.ensures)

pub returns-in_err-command : goal.returns-in_err-command
returns-in_err-command c =
    let p = err_from_is_err_and c.from_residual-in_err-command.result c.from_residual-in_err-command.ensures.1 in
    let words = are_words c.args.text.now c.in-Some.node.now c.in-Some.rest.now c.in-Some-split_once.number.now c.in-Some-split_once.command.now
    c.in-Some.ensures.0 c.in-Some.ensures.1 c.in-Some-split_once.ensures.0 c.in-Some-split_once.ensures.1 in
    rw (p.1, p.2) (command_fails c.args.text.now _ _ _ _ words c.in_err-command.ensures)
