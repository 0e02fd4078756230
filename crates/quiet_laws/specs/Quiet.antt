-- A quiet record: nothing is on its way any more.
use Rattle.std.specs.Prelude.{◌≡◌, ◌<◌, ℕ, List, length, Contains}
use Rattle.overlay_rules.specs.declared.entry.Event.TheVariants as event
use Rattle.overlay_rules.specs.declared.entry.Entry.{Entry}
use Rattle.overlay_rules.specs.Record.{sent_in}

-- an entry delivers message m
abbrev pub WasDelivered : List Entry → ℕ → Type 0
WasDelivered es m = (e : Entry) × Contains es e × (e.event ≡ event.Deliver m)

-- each message that was sent was delivered at least once
abbrev pub IsQuiet : List Entry → Type 0
IsQuiet es = (m : ℕ) → m < length (sent_in es) → WasDelivered es m
