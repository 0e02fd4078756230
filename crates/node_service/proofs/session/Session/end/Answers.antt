use Rattle.std.proofs.Common.{◌≡◌, ◌∙◌, vec_len, sym, arith}
use Rattle.std.proofs.lemmas.Bool.{eqb-false, eqb-true}
use Rattle.std.proofs.lemmas.Result.{on_ok_weaker}
use Rattle.node_service.proofs.Sessions.{ended_none, ended_one}
use Rattle.node_service.proofs.session.Session.end.Goals as goal

pub returns-then-is_empty : goal.returns-then-is_empty
returns-then-is_empty c line p far =
    let none : vec_len c.args.self.now.line ≡ 0 = eqb-true (vec_len c.args.self.now.line) 0 (sym c.is_empty.ensures ∙ c.if-is_empty.true) in
    ended_none line p c.args.self.now c.args.text.now far (omega (arith, c.args.self.now.line.ok.0, none))

pub returns : goal.returns
returns c line p far =
    let some = eqb-false (vec_len c.args.self.now.line) 0 (sym c.is_empty.ensures ∙ c.if-is_empty.false) in
    on_ok_weaker c.answer_line.result
    (λ answered. ended_one line p c.args.self.now c.answer_line.new.process c.as_slice.result.now c.args.text.now c.answer_line.new.text far
    c.as_slice.ensures.value (omega (arith, c.args.self.now.line.ok.0, some)) answered)
    (c.answer_line.ensures p far.process)
