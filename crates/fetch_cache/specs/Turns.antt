-- One turn of a schedule that is played with access points.
use Rattle.std.specs.Prelude.{zero, suc, Option, Some, None, List, [], ◌∷◌, ◌++◌, slice_get, option_map, option_and_then}
use Rattle.ring_math.specs.Names.{Id, Number, FileId, Content}
use Rattle.wire_msg.specs.declared.command.Command.{Command}
use Rattle.wire_msg.specs.declared.command.Command.TheVariants as command
use Rattle.wire_msg.specs.declared.note.Note.{Note}
use Rattle.wire_msg.specs.declared.note.Note.TheVariants as note
use Rattle.overlay_rules.specs.declared.entry.Event.{Event}
use Rattle.overlay_rules.specs.declared.entry.Event.TheVariants as event
use Rattle.overlay_rules.specs.declared.entry.Entry.{Entry}
use Rattle.overlay_rules.specs.Record.{World, Visit, visit, sent_in}
use Rattle.overlay_rules.specs.Played.{Play, entry_of}
use Rattle.scenario_reader.specs.declared.action.Action.{Action}
use Rattle.scenario_reader.specs.declared.action.What.{What}
use Rattle.scenario_reader.specs.declared.action.What.TheVariants as what
use Rattle.schedule.specs.Cursors.{event_of}
use Rattle.schedule.specs.Turns.{Step, Happens, Skips, Ends, Turned, play_after}
use Rattle.delivery_report.specs.Answers.{found_in}
use Rattle.fetch_cache.specs.declared.fetch.Fetch.{Fetch}
use Rattle.fetch_cache.specs.declared.hit.Hit.{Hit}
use Rattle.fetch_cache.specs.Points.{Point, remembered, changed_at, asked, told}

-- the file that a command fetches
abbrev pub fetched : Command → Option FileId
fetched (command.Fetch file) = Some file
fetched (command.Join via) = None
fetched (command.Lookup key) = None
fetched (command.Insert file copies bytes) = None
fetched command.GiveUp = None
fetched (command.Reclaim file) = None

-- what an action fetches, where it is a command
abbrev pub fetches_in : What → List (Option FileId)
fetches_in (what.Command number node c) = fetched c ∷ []
fetches_in (what.Settle n) = []
fetches_in (what.Deliver m) = []
fetches_in (what.Shuffle seed count) = []
fetches_in (what.Dup n) = []
fetches_in (what.Noise node bytes) = []

-- the files that commands fetch, in the order of their numbers; None for a command that fetches none
abbrev pub fetches_of : List Action → List (Option FileId)
fetches_of [] = []
fetches_of (action ∷ actions) = fetches_in action.what ++ fetches_of actions

-- commands are counted from 1
abbrev pub fetched_by : List (Option FileId) → Number → Option FileId
fetched_by fetches zero = None
fetched_by fetches (suc n) = option_and_then (λ file. file) (slice_get fetches n)

-- ---- points are told what was found

abbrev pub told_found : Id → Option FileId → Option Content → List Point → List Point
told_found x (Some file) (Some bytes) points = changed_at x (told file bytes) points
told_found x (Some file) None points = points
told_found x None found points = points

-- what the point of a node is told by a note there
abbrev pub told_by : List (Option FileId) → Id → Note → List Point → List Point
told_by fetches x (note.Closed n answer) points = told_found x (fetched_by fetches n) (found_in answer) points
told_by fetches x (note.Accepted file bytes) points = points
told_by fetches x (note.Delivered origin n key hops) points = points
told_by fetches x (note.Answered origin n reply) points = points
told_by fetches x (note.Reclaimed file) points = points

abbrev pub told_by_all : List (Option FileId) → Id → List Note → List Point → List Point
told_by_all fetches x [] points = points
told_by_all fetches x (n ∷ notes) points = told_by_all fetches x notes (told_by fetches x n points)

-- by an entry, at the node of its event
abbrev pub told_at : List (Option FileId) → Option Visit → List Note → List Point → List Point
told_at fetches None notes points = points
told_at fetches (Some at) notes points = told_by_all fetches at.node notes points

abbrev pub told_entry : List (Option FileId) → World → Entry → List Point → List Point
told_entry fetches w e points = told_at fetches (visit (sent_in w.past) e.event) e.notes points

abbrev pub told_step : List (Option FileId) → World → Step → List Point → List Point
told_step fetches w (Happens v) points = told_entry fetches w (entry_of w v) points
told_step fetches w Skips points = points
told_step fetches w Ends points = points

-- ---- a turn

-- a play, its access points, and the fetches that hit
pub record PointPlay : Type 0 where
  pub play : Play
  pub points : List Point
  pub hits : List Hit

abbrev pub fetch_of : Event → Option Fetch
fetch_of (event.Command x n c) = option_map (λ file. record { node = x; number = n; file = file }) (fetched c)
fetch_of (event.Deliver m) = None
fetch_of (event.Noise x) = None

abbrev pub fetch_in : Step → Option Fetch
fetch_in (Happens v) = fetch_of v
fetch_in Skips = None
fetch_in Ends = None

-- the fetch that an action is
abbrev pub fetch_by : What → Option Fetch
fetch_by w = option_and_then fetch_of (event_of w)

-- a turn that is made as in any play
abbrev pub made_turn : List (Option FileId) → Turned → PointPlay → PointPlay
made_turn fetches t p =
    record { play = play_after t p.play; points = told_step fetches p.play.world t.step p.points; hits = p.hits }

-- a fetch of bytes that are remembered: nothing happens
abbrev pub hit_turn : Turned → Fetch → Content → PointPlay → PointPlay
hit_turn t fetch bytes p =
    record {
      play = record p.play { copies = t.copies };
      points = changed_at fetch.node (asked fetch.file) p.points;
      hits = p.hits ++ record { number = fetch.number; bytes = bytes } ∷ [];
    }

abbrev pub answered_turn : List (Option FileId) → Turned → Fetch → Option Content → PointPlay → PointPlay
answered_turn fetches t fetch None p = made_turn fetches t p
answered_turn fetches t fetch (Some bytes) p = hit_turn t fetch bytes p

abbrev pub turn_by : List (Option FileId) → Turned → Option Fetch → PointPlay → PointPlay
turn_by fetches t None p = made_turn fetches t p
turn_by fetches t (Some fetch) p = answered_turn fetches t fetch (remembered fetch.node fetch.file p.points) p

abbrev pub point_turn : List (Option FileId) → Turned → PointPlay → PointPlay
point_turn fetches t p = turn_by fetches t (fetch_in t.step) p
