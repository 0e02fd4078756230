-- Histories of groups over an overlay that no longer changes, and which of them can come. The overlay is a setting and a world, as
-- some legal record has left it.
use Rattle.std.specs.Prelude.{◌≡◌, ◌≢◌, ◌<◌, ℕ, ◌==◌, ◌&&◌, if◌then◌else◌}
use Rattle.std.specs.Prelude.{Option, Some, None, List, [], ◌∷◌, ◌++◌, flat_map, map, slice_get, take, All, Contains}
use Rattle.std.specs.Str.{bytes_eq}
use Rattle.ring_math.specs.Names.{Id, Number}
use Rattle.ring_math.specs.Keys.{id_of}
use Rattle.overlay_rules.specs.declared.request.Way.{Way}
use Rattle.overlay_rules.specs.Record.{Setting, World}
use Rattle.overlay_rules.specs.Routed.{way_of}
use Rattle.scribe_core.specs.Entry.{GroupEntry}
use Rattle.scribe_core.specs.declared.entry.GroupEvent.{GroupEvent}
use Rattle.scribe_core.specs.declared.entry.GroupEvent.TheVariants as event
use Rattle.scribe_core.specs.declared.message.GroupSent.{GroupSent}
use Rattle.scribe_core.specs.declared.note.GroupNote.{GroupNote}
use Rattle.scribe_core.specs.Parts.{GroupName, Part, no_part, Input, Command, Comes, Addressed, Outcome}
use Rattle.scribe_core.specs.Step.{group_step}

-- where the key of a group leads from a node
abbrev pub way_in : World → Id → GroupName → Way
way_in overlay x name = way_of (overlay.states x) (id_of name)

-- all that was sent, in order: message n is the n-th, from 0
abbrev pub sent_in : List GroupEntry → List GroupSent
sent_in [] = []
sent_in (e ∷ es) = e.messages ++ sent_in es

-- all that was noted, in order
abbrev pub notes_in : List GroupEntry → List GroupNote
notes_in es = flat_map (λ (e : GroupEntry). e.notes) es

-- the node and the group of an event, and what comes there
pub record Visit : Type 0 where
  pub node : Id
  pub group : GroupName
  pub input : Input

abbrev pub visit_of : Option GroupSent → Option Visit
visit_of None = None
visit_of (Some s) = Some (record { node = s.receiver; group = s.group; input = Comes s.sender s.message })

abbrev pub visit : List GroupSent → GroupEvent → Option Visit
visit sent (event.Command x n name c) = Some (record { node = x; group = name; input = Command n c })
visit sent (event.Deliver m) = visit_of (slice_get sent m)

-- a note, and the node that made it
pub record Noted : Type 0 where
  pub node : Id
  pub note : GroupNote

abbrev pub by : Id → GroupNote → Noted
by x note = record { node = x; note = note }

-- each node's part in each group, the entries so far, and the notes in them
pub record Groups : Type 0 where
  pub parts : Id → GroupName → Part
  pub past : List GroupEntry
  pub noted : List Noted

abbrev pub no_groups : Groups
no_groups = record { parts = λ x name. no_part; past = []; noted = [] }

abbrev pub part_at : (Id → GroupName → Part) → Id → GroupName → Part → Id → GroupName → Part
part_at parts x name p y other = if (y == x) && bytes_eq other name then p else parts y other

-- the step of a node's part
abbrev pub step_at : World → Groups → Visit → Outcome
step_at overlay w v = group_step (way_in overlay v.node v.group) v.group (w.parts v.node v.group) v.input

abbrev pub parts_after : World → Groups → Option Visit → (Id → GroupName → Part)
parts_after overlay w None = w.parts
parts_after overlay w (Some v) = part_at w.parts v.node v.group (step_at overlay w v).part

abbrev pub noted_by : Option Visit → List GroupNote → List Noted
noted_by None notes = []
noted_by (Some v) notes = map (by v.node) notes

abbrev pub after : World → Groups → GroupEntry → Groups
after overlay w e =
    record {
      parts = parts_after overlay w (visit (sent_in w.past) e.event);
      past = w.past ++ e ∷ [];
      noted = w.noted ++ noted_by (visit (sent_in w.past) e.event) e.notes;
    }

abbrev pub run : World → Groups → List GroupEntry → Groups
run overlay w [] = w
run overlay w (e ∷ es) = run overlay (after overlay w e) es

-- what a step sends, from its node and in its group
abbrev pub sent_from : Id → GroupName → Addressed → GroupSent
sent_from x name a = record { sender = x; receiver = a.receiver; group = name; message = a.message }

-- a command's number is greater than each earlier one at its node, and no other command's
abbrev pub IsFreshAfter : Id → Number → GroupEvent → Type 0
IsFreshAfter x n (event.Command y m name c) = (n ≢ m) × (x ≡ y → m < n)
IsFreshAfter x n (event.Deliver m) = Unit {0}

abbrev pub IsFresh : List GroupEntry → GroupEvent → Type 0
IsFresh past (event.Command x n name c) = All (λ e. IsFreshAfter x n e.event) past
IsFresh past (event.Deliver m) = Unit {0}

-- this entry may follow: its messages and notes are those of the step
pub record Follows (g : Setting) (overlay : World) (w : Groups) (e : GroupEntry) : Type 0 where
  pub at : Visit
  pub is_at : visit (sent_in w.past) e.event ≡ Some at
  pub member : Contains g.nodes at.node
  pub fresh : IsFresh w.past e.event
  pub messages : e.messages ≡ map (sent_from at.node at.group) (step_at overlay w at).sends
  pub notes : e.notes ≡ (step_at overlay w at).notes

abbrev pub LegalFrom : Setting → World → Groups → List GroupEntry → Type 0
LegalFrom g overlay w [] = Unit {0}
LegalFrom g overlay w (e ∷ es) = Follows g overlay w e × LegalFrom g overlay (after overlay w e) es

-- a group record
abbrev pub IsGroupRecord : Setting → World → List GroupEntry → Type 0
IsGroupRecord g overlay es = LegalFrom g overlay no_groups es

-- the groups after the first i entries
abbrev pub groups_after : World → List GroupEntry → ℕ → Groups
groups_after overlay es i = run overlay no_groups (take i es)
