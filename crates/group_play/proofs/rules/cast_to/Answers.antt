use Rattle.std.proofs.Common.{◌∙◌, ◌++◌, ◌∷◌, [], ap, List}
use Rattle.scribe_core.specs.declared.message.GroupMessage.TheVariants as message
use Rattle.scribe_core.specs.declared.message.GroupSent.{GroupSent}
use Rattle.scribe_core.specs.Parts.{to}
use Rattle.scribe_core.specs.Record.{sent_from}
use Rattle.group_play.proofs.Parts.{cast_next}
use Rattle.group_play.proofs.rules.cast_to.Goals as goal

pub loop-child-preserved : goal.loop-child-preserved
loop-child-preserved c =
    let sent = rw c.in_ok-copy.ensures at c.in_ok-send.ensures.messages in
    record {
      entries = c.send.ensures.entries ∙ c.loop-child.invariant.entries;
      messages =
          sent
          ∙ ap (λ (ms : List GroupSent).
          ms ++ sent_from c.args.at.now.node c.args.at.now.group.now (to c.child-item.result (message.Cast c.args.number c.args.bytes.now)) ∷ [])
          c.loop-child.invariant.messages
          ∙ cast_next c.args.at.now.node c.args.at.now.group.now (message.Cast c.args.number c.args.bytes.now) c.args.writer.now.messages c.args.children.now
          c.loop-child.child-index c.child-item.result c.loop-child-test.true c.child-item.is;
      notes = c.send.ensures.notes ∙ c.loop-child.invariant.notes;
    }
