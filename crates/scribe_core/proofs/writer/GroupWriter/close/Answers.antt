use Rattle.std.proofs.Common.{◌∙◌, ◌++◌, ◌∷◌, [], ap, refl}
use Rattle.scribe_core.specs.Entry.{Written}
use Rattle.scribe_core.specs.declared.entry.GroupEvent.{GroupEvent}
use Rattle.scribe_core.specs.declared.flat.Lists.{Lists}
use Rattle.scribe_core.specs.Flat.{event_kept}
use Rattle.scribe_core.proofs.Cut.{closes-by, entries-close, entry_of_parts, order-closes}
use Rattle.scribe_core.proofs.writer.GroupWriter.close.Goals as goal

pub invariant_of-self-2 : goal.invariant_of-self-2
invariant_of-self-2 c =
    let b : Lists = record { entries = c.add.new.list; sent = c.self.inside.lists.sent; notes = c.self.inside.lists.notes } in
    order-closes c.self.inside.lists b c.in_ok-event.event c.self.invariant
    (closes-by _ _ c.in_ok-event.event _ _ c.in_ok-add.ensures.added (c.len.ensures ∙ c.self.inside.lists.sent.ok.0)
    (c.len-2.ensures ∙ c.self.inside.lists.notes.ok.0) refl refl)

pub returns-clause-entries : goal.returns-clause-entries
returns-clause-entries c =
    let b : Lists = record { entries = c.add.new.list; sent = c.self.inside.lists.sent; notes = c.self.inside.lists.notes } in
    entries-close c.self.inside.lists b c.in_ok-event.event c.self.invariant
    (closes-by _ _ c.in_ok-event.event _ _ c.in_ok-add.ensures.added (c.len.ensures ∙ c.self.inside.lists.sent.ok.0)
    (c.len-2.ensures ∙ c.self.inside.lists.notes.ok.0) refl refl)
    ∙ ap (λ (w : Written). w.entries ++ entry_of_parts (event_kept c.in_ok-event.event) w.messages w.notes ∷ []) c.self.view_is
    ∙ ap (λ (v : GroupEvent). c.args.self.now.entries ++ entry_of_parts v c.args.self.now.messages c.args.self.now.notes ∷ []) c.in_ok-event.ensures
