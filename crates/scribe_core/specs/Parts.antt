-- A node's part in a group, what comes to it there, and what its step gives.
use Rattle.std.specs.Prelude.{Bool, false, ℕ, List, [], ◌∷◌}
use Rattle.ring_math.specs.Names.{Id, Number}
use Rattle.scribe_core.specs.declared.message.GroupCommand.{GroupCommand}
use Rattle.scribe_core.specs.declared.message.GroupMessage.{GroupMessage}
use Rattle.scribe_core.specs.declared.note.GroupNote.{GroupNote}

-- the name of a group
abbrev pub GroupName : Type 0
GroupName = List ℕ

-- where a node stands in the tree of a group: in none, at its top, under a parent, or at the top of a tree that has no way to the key
pub data Place : Type 0 where
  Loose : Place
  Root : Place
  Under : (parent : Id) → Place
  Orphan : Place

-- its place, its children in order, whether it is a member, and which publications it saw
pub record Part : Type 0 where
  pub place : Place
  pub children : List Id
  pub is_member : Bool
  pub seen : List Number

-- each node's at first
abbrev pub no_part : Part
no_part = record { place = Loose; children = []; is_member = false; seen = [] }

pub data Input : Type 0 where
  Command : (number : Number) (command : GroupCommand) → Input
  Comes : (sender : Id) (message : GroupMessage) → Input

pub record Addressed : Type 0 where
  pub receiver : Id
  pub message : GroupMessage

pub record Outcome : Type 0 where
  pub part : Part
  pub sends : List Addressed
  pub notes : List GroupNote

abbrev pub becomes : Part → List Addressed → List GroupNote → Outcome
becomes p sends notes = record { part = p; sends = sends; notes = notes }

-- nothing changes, nothing is sent or noted
abbrev pub nothing : Part → Outcome
nothing p = becomes p [] []

abbrev pub to : Id → GroupMessage → Addressed
to y message = record { receiver = y; message = message }

abbrev pub to_each : List Id → GroupMessage → List Addressed
to_each [] message = []
to_each (y ∷ ys) message = to y message ∷ to_each ys message

-- this note first
abbrev pub noting : GroupNote → Outcome → Outcome
noting note o = becomes o.part o.sends (note ∷ o.notes)
