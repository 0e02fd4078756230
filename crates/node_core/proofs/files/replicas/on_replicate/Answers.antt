use Rattle.std.proofs.Common.{◌≡◌, ℕ, List, Some, IfOk, sym, ap, ◌∙◌, subst}
use Rattle.ring_math.specs.declared.file.Held.{Held}
use Rattle.ring_math.specs.Files.{with_slot}
use Rattle.file_store.specs.declared.answer.Put.TheVariants as put
use Rattle.overlay_rules.specs.State.{State}
use Rattle.overlay_rules.specs.Outcome.{Outcome}
use Rattle.node_parts.specs.Change.{set_in}
use Rattle.node_parts.specs.Seen.{seen}
use Rattle.node_parts.specs.Plans.{Plans}
use Rattle.node_core.proofs.Storing.{room-new, set-room}
use Rattle.node_core.proofs.Replicas.{replicate-at, replica-other}
use Rattle.node_core.proofs.files.replicas.on_replicate.Goals as goal

pub returns-in_ok-change-in-New : goal.returns-in_ok-change-in-New
returns-in_ok-change-in-New c = λ known h.
    let s : State = seen c.args.node.now known in
    let files : List Held = c.args.node.now.store.files in
    let put_in : set_in files c.args.file.now (Some c.in_ok-copy-in-New.field-0) ≡ with_slot files c.args.file.now (Some c.args.bytes.now) =
    ap (λ (b : List ℕ). set_in files c.args.file.now (Some b)) c.in_ok-copy-in-New.ensures
    ∙ set-room files c.args.file.now (Some c.args.bytes.now) (room-new files c.args.file.now c.args.bytes.now (sym c.in-New.ensures)) in
    replicate-at (λ (o : Outcome). IfOk c.acknowledged.result (λ p. Plans s p o)) s c.args.from c.args.origin c.args.number c.args.file.now c.args.bytes.now
    put.New
    c.in-New.ensures
    (c.acknowledged.ensures s _ (c.in_ok-change-in-New.ensures s ∙ ap (λ (hs : List Held). record s { files = hs }) put_in))

pub returns-in-Same : goal.returns-in-Same
returns-in-Same c = λ known h.
    let s : State = seen c.args.node.now known in
    replicate-at (λ (o : Outcome). IfOk c.acknowledged-in-Same.result (λ p. Plans s p o)) s c.args.from c.args.origin c.args.number c.args.file.now
    c.args.bytes.now put.Same
    c.in-Same.ensures (c.acknowledged-in-Same.ensures s s (c.nothing.ensures s))

pub returns-in_default : goal.returns-in_default
returns-in_default c = λ known h.
    let s : State = seen c.args.node.now known in
    replicate-at (λ (o : Outcome). Plans s c.quiet.result o) s c.args.from c.args.origin c.args.number c.args.file.now c.args.bytes.now c.would_put.result
    c.would_put.ensures
    (subst (λ (o : Outcome). Plans s c.quiet.result o)
    (replica-other s c.args.from c.args.origin c.args.number c.args.file.now c.args.bytes.now c.would_put.result c.in_default.not-New c.in_default.not-Same)
    (c.quiet.ensures s s (c.nothing-in_default.ensures s)))
