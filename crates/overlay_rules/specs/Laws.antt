-- One owner per key and one table: what a legal record keeps, beside the rightness of its notes.
use Rattle.std.specs.Prelude.{◌≡◌, ◌⊎◌, ◌<◌, ◌≤◌, ℕ, ◌+◌, ◌^◌, true, false, Some, None, List, slice_get, Contains, take, count_by}
use Rattle.ring_math.specs.Names.{Id, Key, Attempt, Number, FileId, Content}
use Rattle.ring_math.specs.Ring.{is_nearer}
use Rattle.ring_math.specs.Keys.{key_of}
use Rattle.ring_math.specs.Members.{IsClosest}
use Rattle.ring_math.specs.Files.{slot_of}
use Rattle.coverage.specs.Coverage.{covers_of}
use Rattle.wire_msg.specs.declared.command.Command.{Command as NodeCommand}
use Rattle.wire_msg.specs.declared.command.Command.TheVariants as command
use Rattle.wire_msg.specs.declared.note.Note.TheVariants as note
use Rattle.wire_msg.specs.declared.reply.Reply.{Reply}
use Rattle.wire_msg.specs.declared.reply.Reply.TheVariants as reply
use Rattle.overlay_rules.specs.declared.entry.Event.TheVariants as event
use Rattle.overlay_rules.specs.declared.entry.Entry.{Entry}
use Rattle.overlay_rules.specs.declared.request.Way.TheVariants as way
use Rattle.overlay_rules.specs.State.{State, Ready, is_ready, reach}
use Rattle.overlay_rules.specs.Routed.{way_of}
use Rattle.overlay_rules.specs.Record.{Setting, world_after}
use Rattle.overlay_rules.specs.Ready.{IsReadyIn}
use Rattle.overlay_rules.specs.Rightly.{KeepsFor}
use Rattle.overlay_rules.specs.Table.{table, Keeps, Gone, notes_in, accepted_in, is_acceptance_of, is_reclaim_of}

-- the state of a node after the first i entries
abbrev pub state_after : Setting → List Entry → ℕ → Id → State
state_after g es i x = (world_after g es i).states x

-- x is ready in this state and covers the key
abbrev pub Covers : State → Key → Type 0
Covers s key = (a : Attempt) × ((l : Id) × ((r : Id) × ((s.phase ≡ Ready a l r) × (covers_of (reach s l r) key ≡ true))))

-- no two ready nodes cover one key
abbrev pub OneCovers : Setting → List Entry → Type 0
OneCovers g es =
    (i : ℕ) (key : Key) (x y : Id) → key < 2 ^ 128 → Contains g.nodes x → Contains g.nodes y →
    Covers (state_after g es i x) key → Covers (state_after g es i y) key → x ≡ y

-- the closest ready node covers the key, or has it in its gap of a joiner that is not ready
abbrev pub ClosestCovers : Setting → List Entry → Type 0
ClosestCovers g es =
    (i : ℕ) (key : Key) (x : Id) → key < 2 ^ 128 → IsClosest (IsReadyIn g (world_after g es i)) key x →
    Covers (state_after g es i x) key
    ⊎ ((j : Id) × (KeepsFor (state_after g es i x) j key × (is_ready (state_after g es i j).phase ≡ false)))

-- the next hop of a ready node is ready and nearer
abbrev pub HopsGoNearer : Setting → List Entry → Type 0
HopsGoNearer g es =
    (i : ℕ) (key : Key) (x y : Id) → key < 2 ^ 128 → IsReadyIn g (world_after g es i) x → way_of (state_after g es i x) key ≡ way.To y →
    IsReadyIn g (world_after g es i) y × (is_nearer y x key ≡ true)

-- each file of the table stands at the closest ready node, with its bytes or as a tombstone
abbrev pub OwnerHolds : Setting → List Entry → Type 0
OwnerHolds g es =
    (i : ℕ) (x : Id) (f : FileId) → IsClosest (IsReadyIn g (world_after g es i)) (key_of f) x →
    ((b : Content) → table (take i es) f ≡ Keeps b → slot_of (state_after g es i x).files f ≡ Some (Some b))
    × (table (take i es) f ≡ Gone → slot_of (state_after g es i x).files f ≡ Some None)

-- bytes that any node holds are those of the file's first Accepted note
abbrev pub HeldIsAccepted : Setting → List Entry → Type 0
HeldIsAccepted g es =
    (i : ℕ) (x : Id) (f : FileId) (b : Content) → Contains g.nodes x → slot_of (state_after g es i x).files f ≡ Some (Some b) →
    accepted_in f (notes_in (take i es)) ≡ Some b

-- no file has two Accepted notes, and none has two Reclaimed notes
abbrev pub NotedOnce : List Entry → Type 0
NotedOnce es =
    (f : FileId) → (count_by (is_acceptance_of f) (notes_in es) ≤ 1) × (count_by (is_reclaim_of f) (notes_in es) ≤ 1)

abbrev pub IsOf : FileId → NodeCommand → Type 0
IsOf f (command.Insert g copies b) = f ≡ g
IsOf f (command.Fetch g) = f ≡ g
IsOf f (command.Reclaim g) = f ≡ g
IsOf f (command.Lookup key) = ⊥
IsOf f (command.Join via) = ⊥
IsOf f command.GiveUp = ⊥

-- entry i, counted from 0, has a note Answered with this reply, to a command on this file
abbrev pub AnswersWith : List Entry → ℕ → FileId → NodeCommand → Reply → Type 0
AnswersWith es i f c r =
    (e : Entry) × ((d : Entry) × ((o : Id) × ((n : Number) ×
    ((slice_get es i ≡ Some e) × Contains e.notes (note.Answered o n r) × Contains es d × (d.event ≡ event.Command o n c) × IsOf f c))))

-- entry i or an earlier one has a note Reclaimed for the file
abbrev pub WasReclaimed : List Entry → ℕ → FileId → Type 0
WasReclaimed es i f = Contains (notes_in (take (i + 1) es)) (note.Reclaimed f)

-- where entry i answered Stored with these bytes, no later one answers NotFound, and each later Found gives them
abbrev pub StoredStays : List Entry → Type 0
StoredStays es =
    (i j : ℕ) (f : FileId) (b : Content) (copies : ℕ) (holders : List Id) (c : NodeCommand) →
    AnswersWith es i f (command.Insert f copies b) (reply.Stored holders) → i < j →
    ((y : Id) → AnswersWith es j f c (reply.NotFound y) → ⊥)
    × ((y : Id) (found : Content) → AnswersWith es j f c (reply.Found y found) → found ≡ b)

-- Gone and Reclaimed are answered only where a note Reclaimed is in that entry or before
abbrev pub GoneIsReclaimed : List Entry → Type 0
GoneIsReclaimed es =
    (i : ℕ) (y : Id) (f : FileId) (c : NodeCommand) →
    AnswersWith es i f c (reply.Gone y) ⊎ AnswersWith es i f c (reply.Reclaimed y) → WasReclaimed es i f

-- after a note Reclaimed no entry answers Found or Stored
abbrev pub ReclaimedIsLast : List Entry → Type 0
ReclaimedIsLast es =
    (i j : ℕ) (f : FileId) (c : NodeCommand) → WasReclaimed es i f → i < j →
    ((y : Id) (b : Content) → AnswersWith es j f c (reply.Found y b) → ⊥)
    × ((holders : List Id) → AnswersWith es j f c (reply.Stored holders) → ⊥)
