use Rattle.std.proofs.Common.{◌++◌, ◌∷◌, [], List, ap, ◌∙◌}
use Rattle.overlay_rules.specs.State.{State}
use Rattle.node_parts.specs.Seen.{seen}
use Rattle.wire_msg.specs.declared.note.Note.{Note}
use Rattle.wire_msg.specs.declared.note.Note.TheVariants as note
use Rattle.wire_msg.specs.declared.reply.Answer.TheVariants as answer
use Rattle.wire_msg.specs.declared.reply.Own.TheVariants as own
use Rattle.join_core.specs.declared.joiner.Joiner.{Joiner}
use Rattle.node_parts.specs.Seats.{phase_to}
use Rattle.node_core.proofs.joins.ending.given_up.Goals as goal

pub returns : goal.returns
returns c = λ known old e.
    let s : State = seen c.args.node.now known in
    record {
      state = c.in_ok-change.ensures s ∙ ap (λ (j : Joiner). record s { phase = phase_to j s.phase }) e;
      messages = c.in_ok-messages.ensures;
      notes = c.in_ok-push-2.ensures.ok ∙ ap (λ (ns : List Note). ns ++ note.Closed c.args.number answer.GaveUp ∷ [])
          (c.in_ok-push.ensures.ok ∙ ap (λ (ns : List Note). ns ++ note.Closed c.args.halted.now.number (answer.Stopped s.me own.GivenUp) ∷ [])
          c.new-notes.ensures);
    }
