-- Which messages of a record were delivered.
use Rattle.std.specs.Prelude.{◌≡◌, ℕ, Bool, false, Option, Some, None, List, length, nat_lt, if◌then◌else◌, slice_index_or}
use Rattle.scribe_core.specs.Entry.{GroupEntry}
use Rattle.scribe_core.specs.declared.entry.GroupEvent.{GroupEvent}
use Rattle.scribe_core.specs.declared.entry.GroupEvent.TheVariants as event
use Rattle.scribe_core.specs.Played.{was_delivered}
use Rattle.scribe_core.specs.Record.{sent_in}
use Rattle.world_model.specs.Index.{IsFirstUnmarked}
use Rattle.group_play.specs.declared.messages.Messages.{Messages}

-- each message has its mark: whether it was delivered
pub record HasMarks (marks : List Bool) (es : List GroupEntry) : Type 0 where
  pub count : length marks ≡ length (sent_in es)
  pub each : (m : ℕ) → was_delivered es m ≡ slice_index_or marks m false

-- the messages of a record
pub record ListsMessages (a : Messages) (es : List GroupEntry) : Type 0 where
  pub marks : HasMarks a.delivered.items es
  pub oldest : IsFirstUnmarked a.delivered.items a.oldest

-- the message that an event delivers
abbrev pub delivered_by : GroupEvent → Option ℕ
delivered_by (event.Deliver m) = Some m
delivered_by (event.Command x n name c) = None

-- the first message that was not delivered
abbrev pub oldest_of : Messages → Option ℕ
oldest_of a = if nat_lt a.oldest (length a.delivered.items) then Some a.oldest else None
