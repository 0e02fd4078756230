use Rattle.std.proofs.Common.{subst}
use Rattle.overlay_rules.specs.Routed.{on_lookup}
use Rattle.node_core.specs.declared.request.Request.{Request}
use Rattle.node_core.specs.Rows.{IsRow}
use Rattle.node_core.proofs.dispatch.lookup_came.Goals as goal

pub returns : goal.returns
returns c =
    subst (λ (r : Request). IsRow c.args.node.now r.wait (λ s. on_lookup s r.origin r.number c.args.key c.args.hops) c.on_lookup.result)
    c.on_its_way-request.ensures
    c.on_lookup.ensures
