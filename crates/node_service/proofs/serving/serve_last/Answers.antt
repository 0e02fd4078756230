use Rattle.std.proofs.Common.{◌≡◌, ◌∙◌, ◌++◌, List, ℕ, ap, subst, sym}
use Rattle.std.proofs.lemmas.Result.{IfErr-weaker, on_ok_weaker}
use Rattle.scenario_reader.specs.Lines.{lines_of}
use Rattle.node_service.specs.Conversation.{AreLinesAnswered}
use Rattle.node_service.specs.Steps.{FailsAtLast}
use Rattle.node_service.proofs.serving.serve_last.Goals as goal

pub returns-clause-ok : goal.returns-clause-ok
returns-clause-ok g c line p far =
    let ended = c.in_ok-end.ensures line p far in
    let is : c.end.new.text ≡ ended.answer = ended.added ∙ ap (λ t. t ++ ended.answer) c.new-text.ensures in
    on_ok_weaker c.hand_over.result
    (λ written. record {
      text = c.end.new.text;
      later = ended.later;
      answer = subst (λ (text : List ℕ). AreLinesAnswered p (lines_of line) text ended.later) (sym is) ended.answered;
      written = written;
    }) c.hand_over.ensures.ok

pub returns-clause-err : goal.returns-clause-err
returns-clause-err g c line p far =
    let ended = c.in_ok-end.ensures line p far in
    let is : c.end.new.text ≡ ended.answer = ended.added ∙ ap (λ t. t ++ ended.answer) c.new-text.ensures in
    IfErr-weaker c.hand_over.result _ (FailsAtLast g.K.Sink.takes g.K.Sink.taken line p c.args.sink.now c.hand_over.new.sink)
    (λ fault broken. subst (λ f. FailsAtLast g.K.Sink.takes g.K.Sink.taken line p c.args.sink.now c.hand_over.new.sink f) (sym broken.0) (record {
      text = c.end.new.text;
      later = ended.later;
      answer = subst (λ (text : List ℕ). AreLinesAnswered p (lines_of line) text ended.later) (sym is) ended.answered;
      broken = broken.1;
    })) c.hand_over.ensures.err
