use Rattle.std.proofs.Common.{◌∙◌, sym, ap, map}
use Rattle.wire_msg.specs.Words.{plain_envelope}
use Rattle.overlay_rules.specs.Record.{sent_in}
use Rattle.overlay_rules.proofs.Cut.{cut-all-sent}
use Rattle.overlay_rules.proofs.entry.Entries.sent.Goals as goal

pub returns : goal.returns
returns c = ap (map plain_envelope) c.deref.ensures.value ∙ sym (cut-all-sent c.self.inside.lists c.self.invariant) ∙ ap sent_in c.self.view_is
