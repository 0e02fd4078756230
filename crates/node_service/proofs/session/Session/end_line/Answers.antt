use Rattle.node_service.proofs.Sessions.{taken_end}
use Rattle.node_service.proofs.session.Session.end_line.Goals as goal

pub returns : goal.returns
returns c line p far =
    taken_end line p c.args.self.now (record { line = c.clear.new.self; process = c.answer_line.new.process }) c.as_slice.result.now c.args.text.now
    c.answer_line.new.text far c.as_slice.ensures.value c.clear.ensures.items (c.in_ok-answer_line.ensures p far.process)
