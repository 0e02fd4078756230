-- A play over a world: what it keeps, and which numbers commands may have.
use Rattle.std.specs.Prelude.{◌≡◌, ◌<◌, List, [], All, Contains}
use Rattle.ring_math.specs.Names.{Id, Number}
use Rattle.scribe_core.specs.declared.action.GroupWhat.{GroupWhat}
use Rattle.scribe_core.specs.declared.action.GroupWhat.TheVariants as what
use Rattle.scribe_core.specs.Entry.{GroupEntry}
use Rattle.scribe_core.specs.declared.entry.GroupEvent.{GroupEvent}
use Rattle.scribe_core.specs.declared.entry.GroupEvent.TheVariants as event
use Rattle.scribe_core.specs.Laws.{groups_in}
use Rattle.scribe_core.specs.Record.{IsGroupRecord}
use Rattle.world_model.specs.Recorded.{Recorded, setting_of, world_of}
use Rattle.group_play.specs.declared.play.Play.{Play}
use Rattle.group_play.specs.Messages.{ListsMessages}
use Rattle.group_play.specs.Seats.{AreSeats, ShowParts}

-- the record is legal, its messages are listed, the seats show the parts after it, and the next entry has not begun
pub record IsPlay (r : Recorded) (a : Play) : Type 0 where
  pub seats : AreSeats a.seats
  pub parts : ShowParts a.seats (groups_in (world_of r) a.writer.entries).parts
  pub messages : ListsMessages a.messages a.writer.entries
  pub legal : IsGroupRecord (setting_of r) (world_of r) a.writer.entries
  pub nothing_sent : a.writer.messages ≡ []
  pub nothing_noted : a.writer.notes ≡ []

-- the number is greater than that of each command so far
abbrev pub IsNumberedBelow : Number → GroupEvent → Type 0
IsNumberedBelow n (event.Command x m name c) = m < n
IsNumberedBelow n (event.Deliver m) = Unit {0}

abbrev pub IsNewest : Number → List GroupEntry → Type 0
IsNewest n past = All (λ (e : GroupEntry). IsNumberedBelow n e.event) past

-- after these entries this may be done
abbrev pub CanAct : List Id → List GroupEntry → GroupWhat → Type 0
CanAct nodes es (what.Command number node name command) = Contains nodes node × IsNewest number es
CanAct nodes es (what.Settle n) = Unit {0}
CanAct nodes es (what.Deliver m) = Unit {0}
