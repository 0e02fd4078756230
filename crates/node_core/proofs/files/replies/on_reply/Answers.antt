use Rattle.std.proofs.Common.{◌≡◌, ℕ, true, false, not, ◌==◌, List, [], ◌∷◌, filter, IfOk, sym, ap, ◌∙◌, subst}
use Rattle.ring_math.specs.Sides.{is_in}
use Rattle.wire_msg.specs.declared.note.Note.TheVariants as note
use Rattle.wire_msg.specs.declared.reply.Answer.TheVariants as answer
use Rattle.wire_msg.specs.declared.reply.Reply.{Reply}
use Rattle.overlay_rules.specs.State.{State}
use Rattle.overlay_rules.specs.Outcome.{Outcome, Sent, becomes}
use Rattle.node_parts.specs.Seen.{seen}
use Rattle.node_parts.specs.Plans.{Plans}
use Rattle.node_core.proofs.Replies.{reply-waits, reply-late}
use Rattle.node_core.proofs.files.replies.on_reply.Goals as goal

pub returns-in_ok-copy : goal.returns-in_ok-copy
returns-in_ok-copy c = λ known h.
    let s : State = seen c.args.node.now known in
    let t : State = record s { waiting = filter (λ m. not (m == c.args.number)) s.waiting } in
    let waits : is_in c.args.node.now.waiting.items c.args.number ≡ true =
    ap (λ (xs : List ℕ). is_in xs c.args.number) (sym c.deref.ensures.value) ∙ sym c.is_waiting.ensures ∙ c.if-is_waiting.true in
    reply-waits (λ (o : Outcome). IfOk c.closing.result (λ p. Plans s p o)) s c.args.number c.args.reply.now waits
    (subst (λ (ms : List Sent). IfOk c.closing.result (λ p. Plans s p (becomes t ms (note.Closed c.args.number (answer.Reply c.args.reply.now) ∷ []))))
    c.new.ensures
    (subst (λ (r : Reply). IfOk c.closing.result (λ p. Plans s p (becomes t c.new.result (note.Closed c.args.number (answer.Reply r) ∷ []))))
    c.in_ok-copy.ensures
    (c.closing.ensures s t (c.waits.ensures s))))

pub returns-else-is_waiting : goal.returns-else-is_waiting
returns-else-is_waiting c = λ known h.
    let s : State = seen c.args.node.now known in
    let late : is_in c.args.node.now.waiting.items c.args.number ≡ false =
    ap (λ (xs : List ℕ). is_in xs c.args.number) (sym c.deref.ensures.value) ∙ sym c.is_waiting.ensures ∙ c.if-is_waiting.false in
    reply-late (λ (o : Outcome). Plans s c.quiet.result o) s c.args.number c.args.reply.now late (c.quiet.ensures s s (c.nothing.ensures s))
