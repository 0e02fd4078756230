-- An entry of a group record, and a record that is being written.
use Rattle.std.specs.Prelude.{List, []}
use Rattle.scribe_core.specs.declared.entry.GroupEvent.{GroupEvent}
use Rattle.scribe_core.specs.declared.message.GroupSent.{GroupSent}
use Rattle.scribe_core.specs.declared.note.GroupNote.{GroupNote}

-- an event, and what its node's step sent and noted
pub record GroupEntry : Type 0 where
  pub event : GroupEvent
  pub messages : List GroupSent
  pub notes : List GroupNote

-- the entries, and what the next one sends and notes so far
pub record Written : Type 0 where
  pub entries : List GroupEntry
  pub messages : List GroupSent
  pub notes : List GroupNote

abbrev pub nothing_written : Written
nothing_written = record { entries = []; messages = []; notes = [] }
