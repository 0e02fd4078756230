use Rattle.std.proofs.Common.{◌≡◌, List, [], Option, None, IfOk, ap, ◌∙◌, subst}
use Rattle.overlay_rules.specs.declared.request.Asked.TheVariants as asked
use Rattle.overlay_rules.specs.declared.request.Pending.{Pending}
use Rattle.overlay_rules.specs.State.{State}
use Rattle.overlay_rules.specs.Outcome.{Outcome, Sent, before, replied}
use Rattle.past_core.specs.Inserts.{said, with_added}
use Rattle.node_parts.specs.Change.{waited, files_after}
use Rattle.node_parts.specs.Plans.{Plans}
use Rattle.node_core.proofs.Answered.{said-reply, none-pending}
use Rattle.node_core.proofs.files.insert.answered.Goals as goal

pub returns-in_ok-files-in-Ok : goal.returns-in_ok-files-in-Ok
returns-in_ok-files-in-Ok c = λ s m.
    let t : Option Pending → State =
    λ x. record (waited c.args.request.now.wait s) { files = files_after c.args.kept.store s.files; pending = with_added s.pending x } in
    let said_in : State → Outcome =
    λ u. before [] c.args.kept.notes (said u c.args.request.now.origin c.args.request.now.number c.args.file.now c.args.bytes.now c.args.what) in
    let at_once : replied (t None) asked.Insert c.args.request.now.origin c.args.request.now.number c.in-Ok.reply ≡ said
    (t None) c.args.request.now.origin c.args.request.now.number c.args.file.now c.args.bytes.now c.args.what =
    said-reply (t None) c.args.me c.args.request.now.origin c.args.request.now.number c.args.file.now c.args.bytes.now c.args.what c.in-Ok.reply m
    c.in-Ok.ensures.reply in
    subst (λ (o : Outcome). IfOk c.and_replied.result (λ p. Plans s p o))
    (ap (λ (ms : List Sent). before ms c.args.kept.notes (replied (t None) asked.Insert c.args.request.now.origin c.args.request.now.number c.in-Ok.reply))
    c.new.ensures
    ∙ ap (before [] c.args.kept.notes) at_once
    ∙ ap (λ (x : Option Pending). said_in (t x))
    (none-pending c.args.me c.args.request.now.origin c.args.request.now.number c.args.file.now c.args.what c.in-Ok.reply c.in-Ok.ensures.reply))
    (c.and_replied.ensures s _ (c.in_ok-files-in-Ok.ensures s))
