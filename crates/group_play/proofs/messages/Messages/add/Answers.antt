use Rattle.std.proofs.Common.{◌≡◌, ◌<◌, ◌≤◌, ◌+◌, ◌++◌, ◌∙◌, ℕ, Option, List, Bool, true, false, arith, length, length-append, ap, subst, get_or}
use Rattle.std.proofs.Common.{replicate}
use Rattle.scribe_core.specs.declared.message.GroupSent.{GroupSent}
use Rattle.scribe_core.specs.Record.{sent_in}
use Rattle.scribe_core.proofs.Holding.{sent_in-push}
use Rattle.world_model.specs.Index.{IsBelow, marked}
use Rattle.group_play.specs.Messages.{delivered_by}
use Rattle.group_play.proofs.Listing.{grown, marked-length, messages_more}
use Rattle.group_play.proofs.messages.Messages.add.Goals as goal

pub returns : goal.returns
returns c = λ es e h d n.
    let old : List Bool = c.args.self.now.delivered.items in
    let marks : c.mark.new.marks.items ≡ marked (delivered_by e.event) old = c.mark.ensures ∙ ap (λ (o : Option ℕ). marked o old) d in
    let long : length c.mark.new.marks.items ≡ length (sent_in es) =
    ap (λ (ms : List Bool). length ms) marks ∙ marked-length (delivered_by e.event) old ∙ h.marks.count in
    let count : c.args.count ≡ length (sent_in es) + length e.messages =
    n ∙ ap (λ (ss : List GroupSent). length ss) (sent_in-push es e) ∙ length-append (sent_in es) e.messages in
    let seen = c.deref.ensures.value in
    messages_more c.args.self.now (record { delivered = c.resize.new.self; oldest = c.first_unmarked-self.result }) es e h
    (subst (λ (o : Option ℕ). IsBelow (length old) o) d (subst (λ m. IsBelow m c.args.delivered) c.args.self.now.delivered.ok.0 c.requires))
    (grown c.mark.new.marks.items c.resize.new.self.items _ c.args.count (length e.messages) false c.in_ok-resize.ensures.items
    c.mark.new.marks.ok.0 (let a = long in let b = count in omega arith)
    ∙ ap (λ (ms : List Bool). ms ++ replicate (length e.messages) false) marks)
    (subst (λ (ms : List Bool). c.first_unmarked-self.result ≤ length ms) seen c.first_unmarked-self.ensures.within)
    (subst (λ (ms : List Bool). (m : ℕ) → c.args.self.now.oldest ≤ m → m < c.first_unmarked-self.result → get_or ms m false ≡ true) seen
    c.first_unmarked-self.ensures.before)
    (subst (λ (ms : List Bool). get_or ms c.first_unmarked-self.result false ≡ false) seen c.first_unmarked-self.ensures.here)
