use Rattle.std.proofs.Common.{Option, subst}
use Rattle.node_process.specs.Talk.{Process}
use Rattle.node_service.specs.Session.{IsProcessOf}
use Rattle.node_service.proofs.Sessions.{answered_by}
use Rattle.node_service.proofs.session.answer_line.Goals as goal

pub returns-in-Some : goal.returns-in-Some
returns-in-Some c p far =
    answered_by c.answer.result p c.in-Some.process c.answer.new.self c.args.line.now c.args.text.now c.answer.new.text
    (subst (λ (process : Option Process). IsProcessOf process p) c.in-Some.is far) c.answer.ensures
