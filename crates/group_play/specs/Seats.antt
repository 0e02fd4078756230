-- The seats of nodes in groups: how one is found, and what the parts that are kept there stand for.
use Rattle.std.specs.Prelude.{◌≡◌, ◌≢◌, ◌<◌, ◌≤◌, ℕ, Option, Some, None, List, ◌++◌, length, map, nat_eq, slice_index_or}
use Rattle.std.specs.HashMap.{HashMap, get}
use Rattle.overlay_rules.specs.Record.{World}
use Rattle.ring_math.specs.Keys.{id_of}
use Rattle.ring_math.specs.Names.{Id}
use Rattle.ring_math.specs.Ring.{cw_of}
use Rattle.scribe_core.specs.Entry.{Written}
use Rattle.scribe_core.specs.Parts.{GroupName, Outcome, Part, no_part}
use Rattle.scribe_core.specs.Record.{Visit, part_at, sent_from, way_in}
use Rattle.scribe_core.specs.Step.{group_step}
use Rattle.group_play.specs.declared.part.Part.{Part as KeptPart}
use Rattle.group_play.specs.declared.seats.Seat.{Seat}
use Rattle.group_play.specs.declared.seats.Seats.{Seats}
use Rattle.group_play.specs.Shown.{Stands}

-- the number that a seat is looked up by: the way from its node to its group's key
abbrev pub slot_of : Seat → ℕ
slot_of s = cw_of s.node (id_of s.group)

-- the seat of a node in a group
abbrev pub IsSeatOf : Seat → Id → GroupName → Type 0
IsSeatOf s x name = (s.node ≡ x) × (s.group ≡ name)

-- this is the last of the first n seats that is looked up by this number; or none is
abbrev pub IsLastOf : List Seat → ℕ → ℕ → Option ℕ → Type 0
IsLastOf seats n slot None = (j : ℕ) (d : Seat) → j < n → slot_of (slice_index_or seats j d) ≢ slot
IsLastOf seats n slot (Some k) =
    (k < n) × ((d : Seat) → slot_of (slice_index_or seats k d) ≡ slot) × ((j : ℕ) (d : Seat) → k < j → j < n → slot_of (slice_index_or seats j d) ≢ slot)

-- the last seat of each number is known, and each seat knows the last one before it of its own
pub record AreLinked {S : Type 0} (seats : List Seat) (lasts : HashMap ℕ ℕ S) : Type 0 where
  pub last : (slot : ℕ) → IsLastOf seats (length seats) slot (get nat_eq lasts slot)
  pub before : (k : ℕ) (d : Seat) → k < length seats → IsLastOf seats k (slot_of (slice_index_or seats k d)) (slice_index_or seats k d).before

-- no node has two seats in a group
pub record AreSingle (seats : List Seat) : Type 0 where
  pub each : (j k : ℕ) (d : Seat) → j < length seats → k < length seats →
      IsSeatOf (slice_index_or seats j d) (slice_index_or seats k d).node (slice_index_or seats k d).group → j ≡ k

-- no seat from place n on is this node's in this group
abbrev pub NoneFrom : List Seat → ℕ → Id → GroupName → Type 0
NoneFrom seats n x name = (j : ℕ) (d : Seat) → n ≤ j → j < length seats → IsSeatOf (slice_index_or seats j d) x name → ⊥

-- the seats can be looked up, and each has a part
pub record AreSeats (a : Seats) : Type 0 where
  pub linked : AreLinked a.items.items a.last
  pub single : AreSingle a.items.items
  pub count : length a.parts.items ≡ length a.items.items

-- the place of a node's seat in a group
pub record IsPlaceOf (a : Seats) (x : Id) (name : GroupName) (place : ℕ) : Type 0 where
  pub within : place < length a.items.items
  pub is : (d : Seat) → IsSeatOf (slice_index_or a.items.items place d) x name

-- the part kept at each seat is that of its node in its group, and who has no seat has no part yet
pub record ShowParts (a : Seats) (parts : Id → GroupName → Part) : Type 0 where
  pub each : (k : ℕ) (d : Seat) (e : KeptPart) → k < length a.items.items →
      Stands (slice_index_or a.parts.items k e) (parts (slice_index_or a.items.items k d).node (slice_index_or a.items.items k d).group)
  pub others : (x : Id) (name : GroupName) → NoneFrom a.items.items 0 x name → parts x name ≡ no_part

-- the step of a visit
abbrev pub step_of : World → (Id → GroupName → Part) → Visit → Outcome
step_of overlay parts v = group_step (way_in overlay v.node v.group) v.group (parts v.node v.group) v.input

-- the seats show the parts after the visit, and the next entry sends and notes what its step does
pub record StepsTo (overlay : World) (a : Seats) (parts : Id → GroupName → Part) (v : Visit) (old new : Written) : Type 0 where
  pub shown : ShowParts a (part_at parts v.node v.group (step_of overlay parts v).part)
  pub entries : new.entries ≡ old.entries
  pub messages : new.messages ≡ old.messages ++ map (sent_from v.node v.group) (step_of overlay parts v).sends
  pub notes : new.notes ≡ old.notes ++ (step_of overlay parts v).notes
