use Rattle.std.proofs.Common.{◌<◌, ◌∙◌, List, sym, ap, subst, length}
use Rattle.overlay_rules.specs.declared.entry.Entry.{Entry}
use Rattle.overlay_rules.proofs.Cut.{cut-length}
use Rattle.overlay_rules.proofs.entry.Entries.at.Goals as goal

pub at-requires-clause-within : goal.at-requires-clause-within
at-requires-clause-within c =
    subst (λ k. c.args.place < k)
    (sym (ap (λ (es : List Entry). length es) c.self.view_is) ∙ cut-length 0 0 c.self.inside.lists.entries.items _ _) c.requires
