-- Which messages of a record were delivered.
use Rattle.std.specs.Prelude.{◌≡◌, ◌<◌, ◌≤◌, ◌+◌, ℕ, Bool, true, false, Option, Some, None, List, length, slice_index_or}
use Rattle.std.specs.Prelude.{slice_set, vec_len, vec_capacity, if◌then◌else◌, nat_lt}
use Rattle.std.specs.List.{list_any}
use Rattle.overlay_rules.specs.declared.entry.Event.{Event}
use Rattle.overlay_rules.specs.declared.entry.Event.TheVariants as event
use Rattle.overlay_rules.specs.declared.entry.Entry.{Entry}
use Rattle.overlay_rules.specs.Record.{sent_in}
use Rattle.overlay_rules.specs.Played.{is_delivery_of}
use Rattle.world_model.specs.declared.index.Messages.{Messages}

-- message m was delivered by one of the entries
abbrev pub is_delivered : List Entry → ℕ → Bool
is_delivered es m = list_any (λ e. is_delivery_of m e.event) es

-- each message has its mark: whether it was delivered
pub record HasMarks (marks : List Bool) (es : List Entry) : Type 0 where
  pub count : length marks ≡ length (sent_in es)
  pub each : (m : ℕ) → is_delivered es m ≡ slice_index_or marks m false

-- the first place that is not marked, or the end
pub record IsFirstUnmarked (marks : List Bool) (place : ℕ) : Type 0 where
  pub within : place ≤ length marks
  pub before : (m : ℕ) → m < place → slice_index_or marks m false ≡ true
  pub here : slice_index_or marks place false ≡ false

-- the messages of a record
pub record ListsMessages (a : Messages) (es : List Entry) : Type 0 where
  pub marks : HasMarks a.delivered.items es
  pub oldest : IsFirstUnmarked a.delivered.items a.oldest

-- there is room for so many more
pub record HasRoom (a : Messages) (count : ℕ) : Type 0 where
  pub marks : vec_len a.delivered + count ≤ vec_capacity a.delivered

-- the message that an event delivers
abbrev pub delivered_by : Event → Option ℕ
delivered_by (event.Deliver m) = Some m
delivered_by (event.Command x n c) = None
delivered_by (event.Noise x) = None

-- it is one of the first n, if it is one
abbrev pub IsBelow : ℕ → Option ℕ → Type 0
IsBelow n (Some m) = m < n
IsBelow n None = Unit {0}

-- the message that is delivered is marked
abbrev pub marked : Option ℕ → List Bool → List Bool
marked (Some m) marks = slice_set marks m true
marked None marks = marks

-- the first message that was not delivered
abbrev pub oldest_of : Messages → Option ℕ
oldest_of a = if nat_lt a.oldest (length a.delivered.items) then Some a.oldest else None
