use Rattle.std.proofs.Common.{◌∙◌, ap, List, ◌++◌, ◌∷◌, []}
use Rattle.wire_msg.specs.declared.command.Command.TheVariants as command
use Rattle.wire_msg.specs.declared.note.Note.{Note}
use Rattle.wire_msg.specs.declared.note.Note.TheVariants as note
use Rattle.wire_msg.specs.declared.reply.Answer.TheVariants as answer
use Rattle.wire_msg.specs.declared.reply.Own.TheVariants as own
use Rattle.overlay_rules.specs.declared.entry.Event.TheVariants as event
use Rattle.overlay_rules.specs.declared.entry.Entry.{Entry}
use Rattle.ring_laws.proofs.FirstEntry.{two_nodes, founder_is_told}
use Rattle.ring_laws.proofs.tests.holds_of_a_founder_that_is_to_join.Goals as goal

pub ring_law-requires-clause-setting : goal.ring_law-requires-clause-setting
ring_law-requires-clause-setting c = two_nodes

pub ring_law-requires-clause-legal : goal.ring_law-requires-clause-legal
ring_law-requires-clause-legal c =
    founder_is_told _ c.new.result c.push.new.self c.new.ensures
    (c.in_ok-push.ensures.ok ∙ ap (λ (ns : List Note). ns ++ note.Closed 0 (answer.Stopped 9 own.Already) ∷ []) c.new-notes.ensures)
    (c.in_ok-push-2.ensures.ok
    ∙ ap (λ (es : List Entry). es ++ record { event = event.Command 9 0 (command.Join 7); messages = c.new.result; notes = c.push.new.self } ∷ [])
    c.new-entries.ensures)
