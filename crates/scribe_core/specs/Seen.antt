-- Entries as they are read out of a record.
use Rattle.scribe_core.specs.declared.entry.GroupEvent.{GroupEvent}
use Rattle.scribe_core.specs.declared.entry.GroupEvent.TheVariants as event
use Rattle.scribe_core.specs.declared.entry.GroupEventRef.{GroupEventRef}
use Rattle.scribe_core.specs.declared.entry.GroupEventRef.TheVariants as seen
use Rattle.scribe_core.specs.declared.entry.GroupEntryRef.{GroupEntryRef}
use Rattle.scribe_core.specs.Entry.{GroupEntry}

abbrev pub event_seen : GroupEventRef → GroupEvent
event_seen (seen.Command x n name c) = event.Command x n name.now c.now
event_seen (seen.Deliver m) = event.Deliver m

abbrev pub entry_seen : GroupEntryRef → GroupEntry
entry_seen e = record { event = event_seen e.event; messages = e.messages.now; notes = e.notes.now }
