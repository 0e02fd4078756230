use Rattle.std.proofs.Common.{◌≡◌, ◌++◌, drop}
use Rattle.overlay_rules.specs.State.{State}
use Rattle.past_core.specs.Replied.{replied_asks}
use Rattle.node_core.proofs.files.ended.reply_each.Given as goal

abbrev pub invariant-loop-ask : goal.invariant-loop-ask
invariant-loop-ask l = record {
  messages : (s : State) → l.messages ++ (replied_asks s l.reply (drop l.ask-index l.ask-items)).sends ≡ l.initial.messages
      ++ (replied_asks s l.reply l.ask-items).sends;
  notes : (s : State) → l.notes ++ (replied_asks s l.reply (drop l.ask-index l.ask-items)).notes ≡ l.initial.notes
      ++ (replied_asks s l.reply l.ask-items).notes;
}
