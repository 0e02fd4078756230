use Rattle.std.proofs.Common.{◌∙◌, ap}
use Rattle.scribe_core.specs.Record.{notes_in}
use Rattle.scribe_core.proofs.Cut.{closed-notes}
use Rattle.scribe_core.proofs.group_record.GroupRecord.notes.Goals as goal

pub returns : goal.returns
returns c = c.deref.ensures.value ∙ closed-notes c.self.inside.lists c.self.invariant ∙ ap notes_in c.self.view_is
