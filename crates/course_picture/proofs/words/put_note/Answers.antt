use Rattle.std.proofs.Common.{◌++◌, rules, sym, append_assoc}
use Rattle.std.specs.Prelude.{codes, decimal}
use Rattle.std.proofs.lemmas.Result.{IfOk-equal}
use Rattle.delivery_report.specs.Answers.{name_of}
use Rattle.course_picture.proofs.Pieces.{two_written}
use Rattle.course_picture.proofs.words.put_note.Goals as goal

pub returns-in_ok-put_short-in-Delivered : goal.returns-in_ok-put_short-in-Delivered
returns-in_ok-put_short-in-Delivered c = rw c.in-Delivered.is (search (rules, IfOk-equal, append_assoc))

pub returns-in_ok-write_after-in-Answered : goal.returns-in_ok-write_after-in-Answered
returns-in_ok-write_after-in-Answered c =
    let first = codes "answered of " ++ name_of c.args.names.now c.in-Answered.origin in
    let number = decimal c.in-Answered.number in
    rw c.in-Answered.is (two_written c.number_after-in-Answered.result c.args.text.now _ _ first (codes " " ++ number) (first ++ codes " " ++ number)
    c.in_ok-write_after-in-Answered.ensures (sym (append_assoc first (codes " ") number)) c.number_after-in-Answered.ensures)
