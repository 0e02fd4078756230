use Rattle.std.proofs.Common.{IfOk, sym, ◌∙◌, subst}
use Rattle.file_store.specs.declared.answer.Put.TheVariants as put
use Rattle.overlay_rules.specs.State.{State}
use Rattle.overlay_rules.specs.Outcome.{Outcome}
use Rattle.node_parts.specs.Seen.{seen}
use Rattle.node_parts.specs.Plans.{Plans}
use Rattle.node_core.proofs.Storing.{room-new}
use Rattle.node_core.proofs.Replicas.{handover-at, handed-other}
use Rattle.node_core.proofs.files.handover.on_handover.Goals as goal

pub ready_with_file-requires : goal.ready_with_file-requires
ready_with_file-requires c =
    room-new c.args.node.now.store.files c.args.file.now c.args.bytes.now (sym c.would_put-put.ensures ∙ c.if-is_new.ensures.new)

pub returns-then-is_new : goal.returns-then-is_new
returns-then-is_new c = λ known h.
    let s : State = seen c.args.node.now known in
    handover-at (λ (o : Outcome). IfOk c.ready_with_file.result (λ p. Plans s p o)) s c.args.file.now c.args.bytes.now put.New
    (sym c.if-is_new.ensures.new ∙ c.would_put-put.ensures) (c.ready_with_file.ensures known h)

pub returns-else-is_new : goal.returns-else-is_new
returns-else-is_new c = λ known h.
    let s : State = seen c.args.node.now known in
    handover-at (λ (o : Outcome). Plans s c.quiet.result o) s c.args.file.now c.args.bytes.now c.would_put-put.result
    c.would_put-put.ensures
    (subst (λ (o : Outcome). Plans s c.quiet.result o)
    (handed-other s c.args.file.now c.args.bytes.now c.would_put-put.result c.if-is_new.ensures.other)
    (c.quiet.ensures s s (c.nothing.ensures s)))
