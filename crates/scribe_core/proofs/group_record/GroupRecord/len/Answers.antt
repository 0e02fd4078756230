use Rattle.std.proofs.Common.{◌∙◌, List, sym, ap, length}
use Rattle.scribe_core.specs.Entry.{GroupEntry}
use Rattle.scribe_core.proofs.Cut.{cut-length}
use Rattle.scribe_core.proofs.group_record.GroupRecord.len.Goals as goal

pub returns : goal.returns
returns c =
    c.len.ensures ∙ c.self.inside.lists.entries.ok.0 ∙ sym (cut-length 0 0 c.self.inside.lists.entries.items _ _)
    ∙ ap (λ (es : List GroupEntry). length es) c.self.view_is
