use Rattle.std.proofs.Common.{◌∙◌, ap}
use Rattle.scribe_core.specs.Entry.{Written}
use Rattle.scribe_core.proofs.Cut.{closed-by}
use Rattle.scribe_core.proofs.writer.GroupWriter.finish.Goals as goal

pub invariant_of-result : goal.invariant_of-result
invariant_of-result c =
    closed-by c.self.inside.lists c.self.invariant (ap (λ (w : Written). w.messages) c.self.view_is ∙ c.requires.messages)
    (ap (λ (w : Written). w.notes) c.self.view_is ∙ c.requires.notes)
