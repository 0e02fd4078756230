use Rattle.std.proofs.Common.{◌∙◌, ◌++◌, ◌∷◌, [], ap, refl}
use Rattle.scribe_core.specs.Entry.{Written}
use Rattle.scribe_core.specs.declared.flat.Lists.{Lists}
use Rattle.scribe_core.proofs.Cut.{entries-extend, notes-extend, one_noted, order-extends}
use Rattle.scribe_core.proofs.writer.GroupWriter.note.Goals as goal

pub invariant_of-self-2 : goal.invariant_of-self-2
invariant_of-self-2 c =
    let b : Lists = record { entries = c.self.inside.lists.entries; sent = c.self.inside.lists.sent; notes = c.add.new.list } in
    order-extends c.self.inside.lists b [] (c.args.note ∷ []) c.self.invariant (one_noted _ _ c.args.note refl refl c.in_ok-add.ensures.added)

pub returns-clause-entries : goal.returns-clause-entries
returns-clause-entries c =
    let b : Lists = record { entries = c.self.inside.lists.entries; sent = c.self.inside.lists.sent; notes = c.add.new.list } in
    entries-extend c.self.inside.lists b [] (c.args.note ∷ []) c.self.invariant (one_noted _ _ c.args.note refl refl c.in_ok-add.ensures.added)
    ∙ ap (λ (w : Written). w.entries) c.self.view_is

pub returns-clause-notes : goal.returns-clause-notes
returns-clause-notes c =
    let b : Lists = record { entries = c.self.inside.lists.entries; sent = c.self.inside.lists.sent; notes = c.add.new.list } in
    notes-extend c.self.inside.lists b [] (c.args.note ∷ []) c.self.invariant (one_noted _ _ c.args.note refl refl c.in_ok-add.ensures.added)
    ∙ ap (λ (w : Written). w.notes ++ c.args.note ∷ []) c.self.view_is
