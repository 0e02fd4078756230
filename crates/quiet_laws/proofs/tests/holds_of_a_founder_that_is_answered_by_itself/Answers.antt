use Rattle.std.proofs.Common.{◌∙◌, ap, List, ◌++◌, ◌∷◌, []}
use Rattle.wire_msg.specs.declared.command.Command.TheVariants as command
use Rattle.wire_msg.specs.declared.note.Note.{Note}
use Rattle.wire_msg.specs.declared.note.Note.TheVariants as note
use Rattle.wire_msg.specs.declared.reply.Answer.TheVariants as answer
use Rattle.wire_msg.specs.declared.reply.Reply.TheVariants as reply
use Rattle.wire_msg.specs.Words.{Envelope}
use Rattle.overlay_rules.specs.declared.entry.Event.TheVariants as event
use Rattle.overlay_rules.specs.declared.entry.Entry.{Entry}
use Rattle.quiet_laws.proofs.FirstAnswer.{fives, reply_sent, founder_takes}
use Rattle.quiet_laws.proofs.tests.holds_of_a_founder_that_is_answered_by_itself.Goals as goal

pub quiet_law-requires-clause-legal : goal.quiet_law-requires-clause-legal
quiet_law-requires-clause-legal c =
    founder_takes _ c.push.new.self c.new.result c.push-2.new.self c.push-3.new.self
    (c.in_ok-push.ensures.ok ∙ ap (λ (ms : List Envelope). ms ++ reply_sent ∷ []) c.new-messages.ensures)
    (c.in_ok-push-2.ensures.ok ∙ ap (λ (ns : List Note). ns ++ note.Answered 9 0 (reply.NotFound 9) ∷ []) c.new-asked.ensures)
    c.new.ensures
    (c.in_ok-push-3.ensures.ok ∙ ap (λ (ns : List Note). ns ++ note.Closed 0 (answer.Reply (reply.NotFound 9)) ∷ []) c.new-closed.ensures)
    (c.in_ok-push-5.ensures.ok
    ∙ ap (λ (es : List Entry). es ++ record { event = event.Deliver 0; messages = c.new.result; notes = c.push-3.new.self } ∷ [])
    (c.in_ok-push-4.ensures.ok
    ∙ ap (λ (es : List Entry). es ++ record { event = event.Command 9 0 (command.Fetch fives); messages = c.push.new.self; notes = c.push-2.new.self } ∷ [])
    c.new-entries.ensures))
