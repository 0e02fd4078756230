use Rattle.std.proofs.Common.{◌∙◌, List, sym, ap, length}
use Rattle.overlay_rules.specs.declared.entry.Entry.{Entry}
use Rattle.overlay_rules.proofs.Cut.{cut-length}
use Rattle.overlay_rules.proofs.entry.Entries.len.Goals as goal

pub returns : goal.returns
returns c =
    c.len.ensures ∙ c.self.inside.lists.entries.ok.0 ∙ sym (cut-length 0 0 c.self.inside.lists.entries.items _ _)
    ∙ ap (λ (es : List Entry). length es) c.self.view_is
