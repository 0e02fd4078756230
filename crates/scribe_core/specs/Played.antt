-- The one group record that actions give over an overlay.
use Rattle.std.specs.Prelude.{ℕ, zero, suc, nat_lt, Bool, false, ◌==◌, if◌then◌else◌, Option, Some, None, List, [], ◌∷◌, ◌++◌, length, map}
use Rattle.std.specs.List.{list_any}
use Rattle.overlay_rules.specs.Record.{World}
use Rattle.scribe_core.specs.declared.action.GroupAction.{GroupAction}
use Rattle.scribe_core.specs.declared.action.GroupWhat.{GroupWhat}
use Rattle.scribe_core.specs.declared.action.GroupWhat.TheVariants as what
use Rattle.scribe_core.specs.Entry.{GroupEntry}
use Rattle.scribe_core.specs.declared.entry.GroupEvent.{GroupEvent}
use Rattle.scribe_core.specs.declared.entry.GroupEvent.TheVariants as event
use Rattle.scribe_core.specs.Laws.{groups_in}
use Rattle.scribe_core.specs.Parts.{Outcome}
use Rattle.scribe_core.specs.Record.{Visit, sent_from, sent_in, step_at, visit}

-- the entry of an event, of which the step at a visit gives this
abbrev pub entry_by : GroupEvent → Visit → Outcome → GroupEntry
entry_by v at o = record { event = v; messages = map (sent_from at.node at.group) o.sends; notes = o.notes }

abbrev pub entry_at : World → List GroupEntry → GroupEvent → Option Visit → GroupEntry
entry_at overlay es v None = record { event = v; messages = []; notes = [] }
entry_at overlay es v (Some at) = entry_by v at (step_at overlay (groups_in overlay es) at)

-- the event happens, after these entries
abbrev pub happened : World → List GroupEntry → GroupEvent → List GroupEntry
happened overlay es v = es ++ entry_at overlay es v (visit (sent_in es) v) ∷ []

abbrev pub is_delivery_of : ℕ → GroupEvent → Bool
is_delivery_of m (event.Command x n name c) = false
is_delivery_of m (event.Deliver n) = n == m

abbrev pub was_delivered : List GroupEntry → ℕ → Bool
was_delivered es m = list_any (λ e. is_delivery_of m e.event) es

-- of the next n messages from m on, the first that was never delivered
abbrev pub undelivered_from : List GroupEntry → ℕ → ℕ → Option ℕ
undelivered_from es m zero = None
undelivered_from es m (suc n) = if was_delivered es m then undelivered_from es (suc m) n else Some m

abbrev pub oldest_undelivered : List GroupEntry → Option ℕ
oldest_undelivered es = undelivered_from es 0 (length (sent_in es))

abbrev pub delivered_oldest : World → Option ℕ → List GroupEntry → List GroupEntry
delivered_oldest overlay None es = es
delivered_oldest overlay (Some m) es = happened overlay es (event.Deliver m)

-- so many times, the oldest undelivered message is delivered
abbrev pub settled : World → ℕ → List GroupEntry → List GroupEntry
settled overlay zero es = es
settled overlay (suc n) es = settled overlay n (delivered_oldest overlay (oldest_undelivered es) es)

-- a message that was sent is delivered
abbrev pub delivered_once : World → ℕ → List GroupEntry → List GroupEntry
delivered_once overlay m es = if nat_lt m (length (sent_in es)) then happened overlay es (event.Deliver m) else es

abbrev pub acted : World → GroupWhat → List GroupEntry → List GroupEntry
acted overlay (what.Command number node name command) es = happened overlay es (event.Command node number name command)
acted overlay (what.Settle n) es = settled overlay n es
acted overlay (what.Deliver m) es = delivered_once overlay m es

abbrev pub acted_all : World → List GroupAction → List GroupEntry → List GroupEntry
acted_all overlay [] es = es
acted_all overlay (a ∷ others) es = acted_all overlay others (acted overlay a.what es)

-- the record of actions, from the start
abbrev pub played : World → List GroupAction → List GroupEntry
played overlay actions = acted_all overlay actions []
