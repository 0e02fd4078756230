-- What every group record keeps.
use Rattle.std.specs.Prelude.{◌≡◌, ◌<◌, ◌≤◌, ◌+◌, ℕ, zero, suc, Bool, true, false, ◌==◌, ◌&&◌, Some, List, slice_get, take, count_by, Contains}
use Rattle.ring_math.specs.Names.{Id, Number, Content}
use Rattle.ring_math.specs.Ring.{is_nearer}
use Rattle.ring_math.specs.Keys.{id_of}
use Rattle.overlay_rules.specs.declared.request.Way.{Way}
use Rattle.overlay_rules.specs.declared.request.Way.TheVariants as way
use Rattle.overlay_rules.specs.declared.entry.Entry.{Entry}
use Rattle.overlay_rules.specs.Record.{Setting, World, world_at_start}
use Rattle.overlay_rules.specs.Record.{run as run_overlay}
use Rattle.overlay_rules.specs.Ready.{IsReadyIn}
use Rattle.step_facts.specs.ReadyCount.{ready_count}
use Rattle.scribe_core.specs.Entry.{GroupEntry}
use Rattle.scribe_core.specs.declared.entry.GroupEvent.TheVariants as event
use Rattle.scribe_core.specs.declared.message.GroupCommand.TheVariants as command
use Rattle.scribe_core.specs.declared.message.GroupMessage.{GroupMessage}
use Rattle.scribe_core.specs.declared.message.GroupMessage.TheVariants as message
use Rattle.scribe_core.specs.declared.message.GroupSent.{GroupSent}
use Rattle.scribe_core.specs.declared.note.GroupNote.{GroupNote}
use Rattle.scribe_core.specs.declared.note.GroupNote.TheVariants as note
use Rattle.scribe_core.specs.Parts.{GroupName, Part, Place, Loose, Root, Under, Orphan}
use Rattle.scribe_core.specs.Record.{Groups, Noted, Visit, groups_after, no_groups, run, sent_in, visit, way_in}

-- the overlay that a record has left
abbrev pub overlay_of : Setting → List Entry → World
overlay_of g es = run_overlay (world_at_start g) es

-- all groups after the record
abbrev pub groups_in : World → List GroupEntry → Groups
groups_in overlay es = run overlay no_groups es

-- entry i, counted from 0, notes this, at this visit
pub record Notes (es : List GroupEntry) (i : ℕ) (at : Visit) (n : GroupNote) : Type 0 where
  pub entry : GroupEntry
  pub there : slice_get es i ≡ Some entry
  pub is_at : visit (sent_in (take i es)) entry.event ≡ Some at
  pub noted : Contains entry.notes n

-- ---- heard once

-- a command was to publish these bytes in this group
pub record WasPublished (es : List GroupEntry) (name : GroupName) (n : Number) (bytes : Content) : Type 0 where
  pub node : Id
  pub entry : GroupEntry
  pub among : Contains es entry
  pub is : entry.event ≡ event.Command node n name (command.Publish bytes)

-- what is heard is of a group of which the node is then a member, and an earlier or the same command published it there
abbrev pub MembersHear : World → List GroupEntry → Type 0
MembersHear overlay es =
    (i : ℕ) (at : Visit) (name : GroupName) (n : Number) (bytes : Content) → Notes es i at (note.Heard name n bytes) →
    (name ≡ at.group) × (((groups_after overlay es (i + 1)).parts at.node name).is_member ≡ true) × WasPublished (take (i + 1) es) name n bytes

abbrev pub is_heard : Number → GroupNote → Bool
is_heard n (note.Heard name m bytes) = m == n
is_heard n (note.Subscribed m) = false
is_heard n (note.Left m) = false
is_heard n (note.Published m) = false
is_heard n (note.Refused m) = false

abbrev pub is_heard_at : Id → Number → Noted → Bool
is_heard_at x n r = (r.node == x) && is_heard n r.note

-- no node hears twice what one command published
abbrev pub HeardOnce : World → List GroupEntry → Type 0
HeardOnce overlay es = (x : Id) (n : Number) → count_by (is_heard_at x n) (groups_in overlay es).noted ≤ 1

-- ---- the way up

-- each parent is ready and nearer to the group's key
abbrev pub ParentsAreNearer : Setting → World → List GroupEntry → Type 0
ParentsAreNearer g overlay es =
    (x : Id) (name : GroupName) (y : Id) → ((groups_in overlay es).parts x name).place ≡ Under y →
    IsReadyIn g overlay y × (is_nearer y x (id_of name) ≡ true)

abbrev pub above : Id → Place → Id
above x Loose = x
above x Root = x
above x (Under y) = y
above x Orphan = x

-- so many steps up from a node
abbrev pub climbed : (Id → GroupName → Part) → GroupName → ℕ → Id → Id
climbed parts name zero x = x
climbed parts name (suc n) x = climbed parts name n (above x (parts x name).place)

abbrev pub IsTop : Place → Type 0
IsTop Loose = Unit {0}
IsTop Root = Unit {0}
IsTop (Under y) = ⊥
IsTop Orphan = Unit {0}

-- the way up from each node ends, in fewer steps than there are ready nodes
abbrev pub WaysUpEnd : Setting → World → List GroupEntry → Type 0
WaysUpEnd g overlay es =
    (x : Id) (name : GroupName) →
    (n : ℕ) × (n < ready_count g overlay) × IsTop ((groups_in overlay es).parts (climbed (groups_in overlay es).parts name n x) name).place

-- ---- casts and refusals

abbrev pub sent_to : Id → Id → GroupName → GroupMessage → GroupSent
sent_to x y name m = record { sender = x; receiver = y; group = name; message = m }

-- each Cast goes to a node that sent its sender a Graft before, for this group
abbrev pub CastsFollowGrafts : List GroupEntry → Type 0
CastsFollowGrafts es =
    (i : ℕ) (e : GroupEntry) (x y : Id) (name : GroupName) (n : Number) (bytes : Content) → slice_get es i ≡ Some e →
    Contains e.messages (sent_to x y name (message.Cast n bytes)) → Contains (sent_in (take i es)) (sent_to y x name message.Graft)

-- the node is not ready, or keeps the key for a joiner
abbrev pub IsNoWay : Way → Type 0
IsNoWay way.NotReady = Unit {0}
IsNoWay way.Here = ⊥
IsNoWay (way.Gap j) = Unit {0}
IsNoWay (way.To y) = ⊥

-- a command is refused only there
abbrev pub RefusedOnlyWhere : World → List GroupEntry → Type 0
RefusedOnlyWhere overlay es =
    (i : ℕ) (at : Visit) (n : Number) → Notes es i at (note.Refused n) → IsNoWay (way_in overlay at.node at.group)
