use Rattle.std.proofs.Common.{◌++◌, append_assoc, codes, sym}
use Rattle.delivery_report.specs.Answers.{name_of}
use Rattle.message_table.specs.Messages.{attempt_text, hops_text}
use Rattle.message_table.proofs.Pieces.{three_written}
use Rattle.message_table.proofs.messages.join_request.Goals as goal

pub returns : goal.returns
returns c =
    let front = codes "JoinRequest of " ++ name_of c.args.labels.now.nodes c.args.joiner in
    let attempt = attempt_text c.args.attempt in
    let hops = hops_text c.args.hops in
    three_written c.put_hops.result c.args.text.now _ _ _ front attempt hops (front ++ attempt ++ hops) c.in_ok-put_node.ensures
    c.in_ok-put_attempt.ensures (sym (append_assoc front attempt hops)) c.put_hops.ensures
