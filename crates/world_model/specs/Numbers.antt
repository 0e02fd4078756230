-- The numbers of commands.
use Rattle.std.specs.Prelude.{◌<◌, List, All}
use Rattle.ring_math.specs.Names.{Number}
use Rattle.overlay_rules.specs.declared.entry.Event.{Event}
use Rattle.overlay_rules.specs.declared.entry.Event.TheVariants as event
use Rattle.overlay_rules.specs.declared.entry.Entry.{Entry}

abbrev pub IsNumberedBelow : Number → Event → Type 0
IsNumberedBelow n (event.Command x m c) = m < n
IsNumberedBelow n (event.Deliver m) = Unit {0}
IsNumberedBelow n (event.Noise x) = Unit {0}

-- the number is greater than that of each command so far
abbrev pub IsNewest : Number → List Entry → Type 0
IsNewest n past = All (λ e. IsNumberedBelow n e.event) past
