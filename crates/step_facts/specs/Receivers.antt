-- Whom messages go to: where each Join goes by way of a node, each receiver is a node.
use Rattle.std.specs.Prelude.{List, All, Contains}
use Rattle.wire_msg.specs.declared.command.Command.TheVariants as command
use Rattle.overlay_rules.specs.declared.entry.Event.{Event}
use Rattle.overlay_rules.specs.declared.entry.Event.TheVariants as event
use Rattle.overlay_rules.specs.declared.entry.Entry.{Entry}
use Rattle.overlay_rules.specs.Record.{Setting, sent_in}

-- of a Join: its via is a node of the setting
abbrev pub ViaIs : Setting → Event → Type 0
ViaIs g (event.Command x n (command.Join via)) = Contains g.nodes via
ViaIs g (event.Command x n (command.Lookup key)) = Unit {0}
ViaIs g (event.Command x n (command.Insert file copies bytes)) = Unit {0}
ViaIs g (event.Command x n (command.Fetch file)) = Unit {0}
ViaIs g (event.Command x n command.GiveUp) = Unit {0}
ViaIs g (event.Command x n (command.Reclaim file)) = Unit {0}
ViaIs g (event.Deliver m) = Unit {0}
ViaIs g (event.Noise x) = Unit {0}

abbrev pub ViasAre : Setting → List Entry → Type 0
ViasAre g es = All (λ e. ViaIs g e.event) es

-- each message that was sent goes to a node of the setting
abbrev pub ReceiversAre : Setting → List Entry → Type 0
ReceiversAre g es = All (λ v. Contains g.nodes v.receiver) (sent_in es)
