use Rattle.std.proofs.Common.{◌≡◌, ◌∙◌, ◌++◌, List, ℕ, ap, subst, sym}
use Rattle.std.proofs.lemmas.Result.{IfErr-weaker, on_ok_weaker}
use Rattle.node_service.specs.Conversation.{AreLinesAnswered}
use Rattle.node_service.specs.Steps.{FailsAtPiece}
use Rattle.node_service.proofs.serving.serve_piece.Goals as goal

pub returns-clause-ok : goal.returns-clause-ok
returns-clause-ok g c line p far =
    let answered = c.in_ok-take_piece.ensures line p far in
    let is : c.take_piece.new.text ≡ answered.answers = answered.added ∙ ap (λ t. t ++ answered.answers) c.new-text.ensures in
    on_ok_weaker c.hand_over.result
    (λ written. record {
      rest = answered.rest;
      text = c.take_piece.new.text;
      later = answered.later;
      answer = record {
        lines = answered.lines;
        cut = answered.cut;
        answered = subst (λ (text : List ℕ). AreLinesAnswered p answered.lines text answered.later) (sym is) answered.answered;
      };
      written = written;
      far = answered.far;
    }) c.hand_over.ensures.ok

pub returns-clause-err : goal.returns-clause-err
returns-clause-err g c line p far =
    let answered = c.in_ok-take_piece.ensures line p far in
    let is : c.take_piece.new.text ≡ answered.answers = answered.added ∙ ap (λ t. t ++ answered.answers) c.new-text.ensures in
    IfErr-weaker c.hand_over.result _ (FailsAtPiece g.K.Sink.takes g.K.Sink.taken line p c.args.piece.now c.args.sink.now c.hand_over.new.sink)
    (λ fault broken. subst (λ f. FailsAtPiece g.K.Sink.takes g.K.Sink.taken line p c.args.piece.now c.args.sink.now c.hand_over.new.sink f) (sym broken.0)
    (record {
      rest = answered.rest;
      text = c.take_piece.new.text;
      later = answered.later;
      answer = record {
        lines = answered.lines;
        cut = answered.cut;
        answered = subst (λ (text : List ℕ). AreLinesAnswered p answered.lines text answered.later) (sym is) answered.answered;
      };
      broken = broken.1;
    })) c.hand_over.ensures.err
