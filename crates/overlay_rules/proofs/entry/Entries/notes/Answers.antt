use Rattle.std.proofs.Common.{◌∙◌, sym, ap}
use Rattle.overlay_rules.specs.Table.{notes_in}
use Rattle.overlay_rules.proofs.Cut.{cut-all-notes}
use Rattle.overlay_rules.proofs.entry.Entries.notes.Goals as goal

pub returns : goal.returns
returns c = c.deref.ensures.value ∙ sym (cut-all-notes c.self.inside.lists c.self.invariant) ∙ ap notes_in c.self.view_is
