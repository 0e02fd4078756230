use Rattle.std.proofs.Common.{◌≡◌, List, None, IfOk, sym, ap, subst, ◌∙◌}
use Rattle.ring_math.specs.declared.file.Held.{Held}
use Rattle.overlay_rules.specs.Roots.{emptied}
use Rattle.past_core.specs.Reclaims.{after_reclaim}
use Rattle.overlay_rules.specs.State.{State}
use Rattle.node_parts.specs.Change.{changed, waited}
use Rattle.node_core.proofs.Storing.{set-entry}
use Rattle.node_core.proofs.files.reclaim.change_of.Goals as goal

pub returns-in-Reclaimed : goal.returns-in-Reclaimed
returns-in-Reclaimed c = λ s has.
    subst (λ (t : State). IfOk c.files.result (λ change. changed change s ≡ t))
    (ap (λ (hs : List Held). record (emptied (waited c.args.wait s) c.args.file.now) { files = hs })
    (set-entry s.files c.args.file.now None (has c.in-Reclaimed.is))
    ∙ ap (after_reclaim (waited c.args.wait s) c.args.file.now) (sym c.in-Reclaimed.is))
    (c.files.ensures s)
