use Rattle.std.proofs.Common.{subst}
use Rattle.overlay_rules.specs.Roots.{on_insert}
use Rattle.node_core.specs.declared.request.Request.{Request}
use Rattle.node_core.specs.Rows.{IsRow}
use Rattle.node_core.proofs.dispatch.insert_came.Goals as goal

pub returns : goal.returns
returns c =
    subst (λ (r : Request). IsRow c.args.node.now r.wait
    (λ s. on_insert s r.origin r.number c.args.hops c.args.file.now c.args.copies c.args.bytes.now) c.on_insert.result)
    c.on_its_way-request.ensures
    c.on_insert.ensures
