use Rattle.std.proofs.Common.{◌∙◌, ap}
use Rattle.scribe_core.specs.Record.{sent_in}
use Rattle.scribe_core.proofs.Cut.{closed-sent}
use Rattle.scribe_core.proofs.group_record.GroupRecord.sent.Goals as goal

pub returns : goal.returns
returns c = c.deref.ensures.value ∙ closed-sent c.self.inside.lists c.self.invariant ∙ ap sent_in c.self.view_is
