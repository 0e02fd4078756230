-- What the hits of access points give: bytes that were found before at the same node, and that were the first to be accepted.
use Rattle.std.specs.Prelude.{◌≡◌, ◌<◌, ℕ, ◌+◌, Option, Some, List, All, Contains, slice_get, take}
use Rattle.fetch_cache.specs.declared.hit.Hit.{Hit}
use Rattle.fetch_cache.specs.Turns.{fetched_by, fetches_of}
use Rattle.overlay_rules.specs.declared.entry.Entry.{Entry}
use Rattle.overlay_rules.specs.declared.entry.Event.{Event}
use Rattle.overlay_rules.specs.declared.entry.Event.TheVariants as event
use Rattle.overlay_rules.specs.Played.{Command}
use Rattle.overlay_rules.specs.Record.{Visit, sent_in, visit}
use Rattle.overlay_rules.specs.Table.{accepted_in, notes_in}
use Rattle.ring_math.specs.Names.{Id, Number, FileId, Content}
use Rattle.scenario_reader.specs.Plain.{PlainScenario}
use Rattle.schedule.specs.Schedule.{acts_of}
use Rattle.wire_msg.specs.declared.command.Command.TheVariants as command
use Rattle.wire_msg.specs.declared.note.Note.TheVariants as note
use Rattle.wire_msg.specs.declared.reply.Answer.TheVariants as answer
use Rattle.wire_msg.specs.declared.reply.Reply.TheVariants as reply

-- entry `place`, counted from 0, is at this node, and closes a fetch of the file with these bytes
pub record FindsAt (fetches : List (Option FileId)) (es : List Entry) (place : ℕ) (x : Id) (file : FileId) (bytes : Content) : Type 0 where
  pub entry : Entry
  pub there : slice_get es place ≡ Some entry
  pub at : Visit
  pub visited : visit (sent_in (take place es)) entry.event ≡ Some at
  pub here : at.node ≡ x
  pub number : Number
  pub finder : Id
  pub closed : Contains entry.notes (note.Closed number (answer.Reply (reply.Found finder bytes)))
  pub fetched : fetched_by fetches number ≡ Some file

-- if it is a command, its number is smaller
abbrev pub IsBefore : Number → Event → Type 0
IsBefore n (event.Command x m c) = m < n
IsBefore n (event.Deliver m) = Unit {0}
IsBefore n (event.Noise x) = Unit {0}

-- A hit is a fetch that the scenario has at a node. Its bytes were found there by an entry, up to which no command came that is not
-- before the fetch; and they are those of the first note Accepted of its file.
pub record IsRight (s : PlainScenario) (es : List Entry) (hit : Hit) : Type 0 where
  pub node : Id
  pub file : FileId
  pub fetch : Contains (acts_of s.actions) (Command node hit.number (command.Fetch file))
  pub place : ℕ
  pub found : FindsAt (fetches_of s.actions) es place node file hit.bytes
  pub before : All (λ (e : Entry). IsBefore hit.number e.event) (take (place + 1) es)
  pub accepted : accepted_in file (notes_in es) ≡ Some hit.bytes

abbrev pub AreRightHits : PlainScenario → List Entry → List Hit → Type 0
AreRightHits s es hits = All (IsRight s es) hits
