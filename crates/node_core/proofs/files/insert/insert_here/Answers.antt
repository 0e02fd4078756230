use Rattle.std.proofs.Common.{◌≡◌, List, [], IfOk, sym, ap, ◌∙◌, subst, refl}
use Rattle.ring_math.specs.declared.file.Held.{Held}
use Rattle.wire_msg.specs.declared.note.Note.{Note}
use Rattle.leaf_set.specs.Leaves.{Leaves, StandsFor}
use Rattle.overlay_rules.specs.State.{State}
use Rattle.overlay_rules.specs.Outcome.{Outcome, before}
use Rattle.past_core.specs.Inserts.{said, files_where, with_added, pending_of}
use Rattle.node_parts.specs.Change.{waited}
use Rattle.node_parts.specs.Seen.{seen}
use Rattle.node_parts.specs.Plans.{Plans}
use Rattle.node_core.proofs.files.insert.insert_here.Goals as goal

pub returns : goal.returns
returns c = λ known h.
    let s : State = seen c.args.node.now known in
    let now : State = waited c.args.request.now.wait s in
    let step = c.in_ok-step.step in
    let me : now.me ≡ c.leafs.result.now.me = sym (ap (λ (l : Leaves). l.me) c.leafs.ensures ∙ c.args.node.now.same_me) in
    let leafs : StandsFor c.leafs.result.now known = subst (λ (l : Leaves). StandsFor l known) (sym c.leafs.ensures) h.keeps.leafs in
    let told : List Note → List Held → Outcome =
    λ ns hs. before [] ns (said (record now {
      files = hs;
      pending = with_added now.pending (pending_of c.args.request.now.origin c.args.request.now.number c.args.file.now step.what);
    }) c.args.request.now.origin
    c.args.request.now.number c.args.file.now c.args.bytes.now step.what) in
    subst (λ (o : Outcome). IfOk c.answered.result (λ p. Plans s p o))
    (sym (c.in_ok-step.ensures.row now c.args.request.now.origin c.args.request.now.number me leafs))
    (subst (λ (ns : List Note). IfOk c.answered.result (λ p. Plans s p (told ns (files_where step.accepted s.files c.args.file.now c.args.bytes.now))))
    c.in_ok-notes.ensures
    (subst (λ (hs : List Held). IfOk c.answered.result (λ p. Plans s p (told c.in_ok-notes.notes hs)))
    (c.in_ok-store.ensures s.files c.in_ok-step.ensures.accepted)
    (c.answered.ensures s refl)))
