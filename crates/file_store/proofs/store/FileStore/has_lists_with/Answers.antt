use Rattle.std.proofs.Common.{sym, ◌∙◌}
use Rattle.file_store.proofs.Slots.{entries-with, tombs-with}
use Rattle.file_store.proofs.store.FileStore.has_lists_with.Goals as goal

pub returns-then-have_entries_with : goal.returns-then-have_entries_with
returns-then-have_entries_with c = λ bytes.
    let entries = sym (entries-with c.args.self.now.files c.args.file.now bytes c.args.manifest.now) ∙ sym c.have_entries_with.ensures
    ∙ c.if-have_entries_with.true in
    rw entries (c.are_gone_with.ensures ∙ tombs-with c.args.self.now.files c.args.file.now bytes c.args.tombs.now)

pub returns-else-have_entries_with : goal.returns-else-have_entries_with
returns-else-have_entries_with c = λ bytes.
    let entries = sym (entries-with c.args.self.now.files c.args.file.now bytes c.args.manifest.now) ∙ sym c.have_entries_with.ensures
    ∙ c.if-have_entries_with.false in
    rw entries c.if-have_entries_with.false
