-- How many hops a delivery may have taken: fewer than there are ready nodes.
use Rattle.std.specs.Prelude.{◌<◌, List}
use Rattle.wire_msg.specs.declared.note.Note.{Note}
use Rattle.wire_msg.specs.declared.note.Note.TheVariants as note
use Rattle.overlay_rules.specs.declared.entry.Entry.{Entry}
use Rattle.overlay_rules.specs.Record.{Setting}
use Rattle.overlay_rules.specs.Moments.{Moment, EachNote}
use Rattle.step_facts.specs.ReadyCount.{ready_count}

-- of a delivery: its hops are fewer than the ready nodes
abbrev pub FewerHops : Setting → Moment → Note → Type 0
FewerHops g m (note.Delivered o n key hops) = hops < ready_count g m.world
FewerHops g m (note.Answered o n r) = Unit {0}
FewerHops g m (note.Closed n a) = Unit {0}
FewerHops g m (note.Accepted f b) = Unit {0}
FewerHops g m (note.Reclaimed f) = Unit {0}

abbrev pub HopsAreFew : Setting → List Entry → Type 0
HopsAreFew g es = EachNote g (FewerHops g) es
