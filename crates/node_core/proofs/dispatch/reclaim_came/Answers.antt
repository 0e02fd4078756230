use Rattle.std.proofs.Common.{subst}
use Rattle.overlay_rules.specs.Roots.{on_reclaim}
use Rattle.node_core.specs.declared.request.Request.{Request}
use Rattle.node_core.specs.Rows.{IsRow}
use Rattle.node_core.proofs.dispatch.reclaim_came.Goals as goal

pub returns : goal.returns
returns c =
    subst (λ (r : Request). IsRow c.args.node.now r.wait (λ s. on_reclaim s r.origin r.number c.args.hops c.args.file.now) c.on_reclaim.result)
    c.on_its_way-request.ensures
    c.on_reclaim.ensures
