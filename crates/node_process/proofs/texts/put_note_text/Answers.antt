use Rattle.std.proofs.Common.{◌∙◌, ◌++◌, ap}
use Rattle.std.proofs.lemmas.Result.{on_ok_weaker}
use Rattle.delivery_report.specs.Answers.{reply_text}
use Rattle.node_process.proofs.Writing.{three_parts}
use Rattle.node_process.proofs.texts.put_note_text.Goals as goal

pub returns-in_ok-put-in-Answered : goal.returns-in_ok-put-in-Answered
returns-in_ok-put-in-Answered c = rw c.in-Answered.is (on_ok_weaker c.put_reply.result
    (λ written. three_parts c.args.text.now _ _ _ _ _ _ c.in_ok-put_numbered-in-Answered.ensures c.in_ok-put-in-Answered.ensures
    (written ∙ ap (λ names. c.put.new.self ++ reply_text names c.in-Answered.reply) c.requires)) c.put_reply.ensures)
