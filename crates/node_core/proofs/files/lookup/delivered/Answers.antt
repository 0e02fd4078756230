use Rattle.std.proofs.Common.{◌≡◌, List, [], ◌∷◌, ◌++◌, IfOk, ap, ◌∙◌, subst}
use Rattle.wire_msg.specs.declared.note.Note.{Note}
use Rattle.wire_msg.specs.declared.note.Note.TheVariants as note
use Rattle.wire_msg.specs.declared.reply.Reply.TheVariants as reply
use Rattle.overlay_rules.specs.declared.request.Asked.TheVariants as asked
use Rattle.overlay_rules.specs.Outcome.{Outcome, Sent, before, replied}
use Rattle.node_parts.specs.Change.{waited}
use Rattle.node_parts.specs.Plans.{Plans}
use Rattle.node_core.specs.declared.request.Request.{Request}
use Rattle.node_core.proofs.files.lookup.delivered.Goals as goal

pub returns : goal.returns
returns c = λ s.
    let r : Request = c.args.request.now in
    let here : Outcome = replied (waited r.wait s) asked.Lookup r.origin r.number (reply.Delivered c.args.node c.args.hops) in
    let first : Note = note.Delivered r.origin r.number c.args.key c.args.hops in
    let notes : c.push.new.self ≡ first ∷ [] = c.in_ok-push.ensures.ok ∙ ap (λ (ns : List Note). ns ++ first ∷ []) c.new-notes.ensures in
    subst (λ (o : Outcome). IfOk c.and_replied.result (λ p. Plans s p o))
    (ap (λ (ms : List Sent). before ms c.push.new.self here) c.new.ensures ∙ ap (λ (ns : List Note). before [] ns here) notes)
    (c.and_replied.ensures s (waited r.wait s) (c.waits.ensures s))
