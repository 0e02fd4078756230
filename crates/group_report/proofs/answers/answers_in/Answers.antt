use Rattle.std.proofs.Common.{◌∙◌, None, ap, arith, sym}
use Rattle.group_report.specs.Answers.{answer_by, answer_in, or_later}
use Rattle.group_report.proofs.Answering.{answer_to-more}
use Rattle.group_report.proofs.answers.answers_in.Goals as goal

pub loop-note-preserved : goal.loop-note-preserved
loop-note-preserved c =
    let before = c.loop-note.invariant in
    record {
      count = c.add_answer.ensures.count ∙ before.count;
      each = λ n l.
          c.add_answer.ensures.answers n (let long = before.count in omega (arith, long, l))
          ∙ ap (λ o. or_later o (answer_by n (answer_in c.note-item.result) None)) (before.each n l)
          ∙ sym (answer_to-more n c.args.notes.now c.loop-note.note-index c.note-item.result c.loop-note-test.true c.note-item.is);
    }
