use Rattle.std.proofs.Common.{◌∙◌, ap, map, sym, subst}
use Rattle.weave.specs.Cells.{AreKept, kept_history}
use Rattle.weave.proofs.Strands.{all_kept}
use Rattle.weave.proofs.untaken.unread.Goals as goal

pub first_unread-requires-clause-kept : goal.first_unread-requires-clause-kept
first_unread-requires-clause-kept c =
    subst AreKept (sym (ap (map (λ d. kept_history d.now)) c.deref_mut.ensures.value ∙ c.in_ok-strands.ensures.history))
    (all_kept c.args.cells.now c.in_ok-strands.ensures.lawful)
