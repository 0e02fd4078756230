-- Entries as they are read out of a record.
use Rattle.std.specs.Prelude.{map}
use Rattle.wire_msg.specs.Words.{plain_envelope}
use Rattle.overlay_rules.specs.declared.entry.Event.{Event}
use Rattle.overlay_rules.specs.declared.entry.Event.TheVariants as event
use Rattle.overlay_rules.specs.declared.entry.Entry.{Entry}
use Rattle.overlay_rules.specs.declared.entry.EventRef.{EventRef}
use Rattle.overlay_rules.specs.declared.entry.EventRef.TheVariants as seen
use Rattle.overlay_rules.specs.declared.entry.EntryRef.{EntryRef}

abbrev pub event_seen : EventRef → Event
event_seen (seen.Command x n c) = event.Command x n c.now
event_seen (seen.Deliver m) = event.Deliver m
event_seen (seen.Noise x) = event.Noise x

abbrev pub entry_seen : EntryRef → Entry
entry_seen e = record { event = event_seen e.event; messages = map plain_envelope e.messages.now; notes = e.notes.now }
