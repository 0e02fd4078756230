use Rattle.std.proofs.Common.{◌∙◌, ◌++◌, ◌∷◌, [], ap, refl}
use Rattle.scribe_core.specs.Entry.{Written}
use Rattle.scribe_core.specs.declared.flat.Lists.{Lists}
use Rattle.scribe_core.proofs.Cut.{entries-extend, messages-extend, one_sent, order-extends}
use Rattle.scribe_core.proofs.writer.GroupWriter.send.Goals as goal

pub invariant_of-self-2 : goal.invariant_of-self-2
invariant_of-self-2 c =
    let b : Lists = record { entries = c.self.inside.lists.entries; sent = c.add.new.list; notes = c.self.inside.lists.notes } in
    order-extends c.self.inside.lists b (c.args.message ∷ []) [] c.self.invariant (one_sent _ _ c.args.message refl c.in_ok-add.ensures.added refl)

pub returns-clause-entries : goal.returns-clause-entries
returns-clause-entries c =
    let b : Lists = record { entries = c.self.inside.lists.entries; sent = c.add.new.list; notes = c.self.inside.lists.notes } in
    entries-extend c.self.inside.lists b (c.args.message ∷ []) [] c.self.invariant (one_sent _ _ c.args.message refl c.in_ok-add.ensures.added refl)
    ∙ ap (λ (w : Written). w.entries) c.self.view_is

pub returns-clause-messages : goal.returns-clause-messages
returns-clause-messages c =
    let b : Lists = record { entries = c.self.inside.lists.entries; sent = c.add.new.list; notes = c.self.inside.lists.notes } in
    messages-extend c.self.inside.lists b (c.args.message ∷ []) [] c.self.invariant (one_sent _ _ c.args.message refl c.in_ok-add.ensures.added refl)
    ∙ ap (λ (w : Written). w.messages ++ c.args.message ∷ []) c.self.view_is
