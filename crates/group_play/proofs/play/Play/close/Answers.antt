use Rattle.std.proofs.Common.{◌∙◌, List, ap, length, subst, sym}
use Rattle.scribe_core.specs.Entry.{GroupEntry}
use Rattle.scribe_core.specs.declared.message.GroupSent.{GroupSent}
use Rattle.scribe_core.proofs.Holding.{sent_in-push}
use Rattle.group_play.specs.Messages.{ListsMessages}
use Rattle.group_play.proofs.Happening.{entry_said}
use Rattle.group_play.proofs.play.Play.close.Goals as goal

pub returns-clause-messages : goal.returns-clause-messages
returns-clause-messages c =
    let w = c.args.self.now.writer in
    let e : GroupEntry = entry_said c.args.event w in
    subst (λ (es : List GroupEntry). ListsMessages c.add.new.self es) (sym c.in_ok-close.ensures.entries)
    (c.in_ok-add.ensures w.entries e c.requires.messages c.requires.delivered
    (ap (λ (ms : List GroupSent). length ms) (c.sent.ensures ∙ sym (sent_in-push w.entries e))))
