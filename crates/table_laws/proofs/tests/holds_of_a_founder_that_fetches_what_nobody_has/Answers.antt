use Rattle.std.proofs.Common.{◌∙◌, ap, List, ◌++◌, ◌∷◌, []}
use Rattle.wire_msg.specs.declared.command.Command.TheVariants as command
use Rattle.wire_msg.specs.declared.note.Note.{Note}
use Rattle.wire_msg.specs.declared.note.Note.TheVariants as note
use Rattle.wire_msg.specs.declared.reply.Reply.TheVariants as reply
use Rattle.wire_msg.specs.Words.{Envelope}
use Rattle.overlay_rules.specs.declared.entry.Event.TheVariants as event
use Rattle.overlay_rules.specs.declared.entry.Entry.{Entry}
use Rattle.ring_laws.proofs.FirstEntry.{two_nodes}
use Rattle.table_laws.proofs.FirstFetch.{fives, answer, founder_fetches}
use Rattle.table_laws.proofs.tests.holds_of_a_founder_that_fetches_what_nobody_has.Goals as goal

pub table_law-requires-clause-setting : goal.table_law-requires-clause-setting
table_law-requires-clause-setting c = two_nodes

pub table_law-requires-clause-legal : goal.table_law-requires-clause-legal
table_law-requires-clause-legal c =
    founder_fetches _ c.push.new.self c.push-2.new.self
    (c.in_ok-push.ensures.ok ∙ ap (λ (ms : List Envelope). ms ++ answer ∷ []) c.new-messages.ensures)
    (c.in_ok-push-2.ensures.ok ∙ ap (λ (ns : List Note). ns ++ note.Answered 9 0 (reply.NotFound 9) ∷ []) c.new-notes.ensures)
    (c.in_ok-push-3.ensures.ok
    ∙ ap (λ (es : List Entry). es ++ record { event = event.Command 9 0 (command.Fetch fives); messages = c.push.new.self; notes = c.push-2.new.self } ∷ [])
    c.new-entries.ensures)
