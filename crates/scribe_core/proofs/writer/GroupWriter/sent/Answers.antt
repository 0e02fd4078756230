use Rattle.std.proofs.Common.{◌∙◌, ◌++◌, ap}
use Rattle.scribe_core.specs.Entry.{Written}
use Rattle.scribe_core.specs.Record.{sent_in}
use Rattle.scribe_core.proofs.Cut.{cut-all_sent}
use Rattle.scribe_core.proofs.writer.GroupWriter.sent.Goals as goal

pub returns : goal.returns
returns c =
    c.deref.ensures.value ∙ cut-all_sent c.self.inside.lists c.self.invariant ∙ ap (λ (w : Written). sent_in w.entries ++ w.messages) c.self.view_is
