-- What a delivery, an answer and a closing show of the world in which they are noted.
use Rattle.std.specs.Prelude.{◌≡◌, ◌≢◌, ◌⊎◌, ◌<◌, ◌≤◌, ℕ, ◌+◌, ◌-◌, Bool, true, false, ◌==◌, Some, None, List, length, All, Contains, take, count_by}
use Rattle.ring_math.specs.declared.limits.TheConstants.{MOST_ENTRIES}
use Rattle.ring_math.specs.Names.{Id, Key, Attempt, Number, Hops, FileId, Content}
use Rattle.ring_math.specs.Keys.{key_of}
use Rattle.ring_math.specs.Members.{IsClosest, IsSucc, IsPred}
use Rattle.ring_math.specs.Sides.{leaves}
use Rattle.ring_math.specs.Files.{slot_of}
use Rattle.coverage.specs.Coverage.{in_gap_of}
use Rattle.wire_msg.specs.declared.limits.TheConstants.{LAST_ATTEMPT}
use Rattle.wire_msg.specs.declared.command.Command.{Command as NodeCommand}
use Rattle.wire_msg.specs.declared.command.Command.TheVariants as command
use Rattle.wire_msg.specs.declared.note.Note.{Note}
use Rattle.wire_msg.specs.declared.note.Note.TheVariants as note
use Rattle.wire_msg.specs.declared.reply.Answer.{Answer}
use Rattle.wire_msg.specs.declared.reply.Answer.TheVariants as answer
use Rattle.wire_msg.specs.declared.reply.Own.{Own}
use Rattle.wire_msg.specs.declared.reply.Own.TheVariants as own
use Rattle.wire_msg.specs.declared.reply.Why.{Why}
use Rattle.wire_msg.specs.declared.reply.Why.TheVariants as why
use Rattle.wire_msg.specs.declared.reply.Reply.{Reply}
use Rattle.wire_msg.specs.declared.reply.Reply.TheVariants as reply
use Rattle.overlay_rules.specs.declared.entry.Event.{Event}
use Rattle.overlay_rules.specs.declared.entry.Event.TheVariants as event
use Rattle.overlay_rules.specs.declared.entry.Entry.{Entry}
use Rattle.overlay_rules.specs.State.{State, Phase, Waiting, Ready, is_ready, is_joining, reach, joiner_of}
use Rattle.overlay_rules.specs.Record.{Setting, World, sent_in, world_after, all_differ}
use Rattle.overlay_rules.specs.Moments.{Moment, EachNote}
use Rattle.overlay_rules.specs.Ready.{IsReadyIn, farther}
use Rattle.overlay_rules.specs.Table.{table, Nowhere, Keeps, Gone, notes_in}

-- an entry so far is this command
abbrev pub WasCommanded : World → Id → Number → NodeCommand → Type 0
WasCommanded w x n c = (e : Entry) × Contains w.past e × (e.event ≡ event.Command x n c)

-- x is the closest ready node, the lookup was commanded, and the hops are few
pub record RightlyDelivered (g : Setting) (w : World) (x o : Id) (n : Number) (key : Key) (hops : Hops) : Type 0 where
  pub closest : IsClosest (IsReadyIn g w) key x
  pub commanded : WasCommanded w o n (command.Lookup key)
  pub few : hops ≤ farther g w key x

-- the node is ready, one of its gates is j's, and the key is in its gap of j
abbrev pub KeepsFor : State → Id → Key → Type 0
KeepsFor s j key =
    (a : Attempt) × ((l : Id) × ((r : Id) × ((s.phase ≡ Ready a l r)
    × ((joiner_of s.left_gate ≡ Some j) ⊎ (joiner_of s.right_gate ≡ Some j)) × (in_gap_of (reach s l r) j key ≡ true))))

-- each of these holds the bytes for the file after the first i entries, and after each later one up to which the file is not Gone
abbrev pub HoldOn : Setting → List Entry → ℕ → FileId → Content → List Id → Type 0
HoldOn g es i f b holders =
    (j : ℕ) → i ≤ j → table (take j es) f ≢ Gone → All (λ y. slot_of ((world_after g es j).states y).files f ≡ Some (Some b)) holders

-- the answer Stored to an insert of bytes b for f with so many copies
pub record RightlyStored (g : Setting) (es : List Entry) (w : World) (f : FileId) (copies : ℕ) (b : Content) (holders : List Id) : Type 0 where
  pub kept : table w.past f ≡ Keeps b
  pub number : length holders ≡ copies
  pub differ : all_differ holders ≡ true
  pub ready : All (IsReadyIn g w) holders
  pub hold : HoldOn g es (length w.past) f b holders

-- the store of the root x is full and has no entry for f
pub record RightlyFull (w : World) (x : Id) (f : FileId) : Type 0 where
  pub full : length (w.states x).files ≡ MOST_ENTRIES
  pub none : slot_of (w.states x).files f ≡ None
  pub nowhere : table w.past f ≡ Nowhere

-- the reply to a lookup of the key, command n of o
abbrev pub RightLookupReply : Moment → Id → Number → Key → Reply → Type 0
RightLookupReply m o n key (reply.Delivered y hops) = (y ≡ m.node) × Contains m.entry.notes (note.Delivered o n key hops)
RightLookupReply m o n key (reply.Busy y j) = (y ≡ m.node) × KeepsFor (m.world.states m.node) j key
RightLookupReply m o n key (reply.NotReady y) = (y ≡ m.node) × (is_ready (m.world.states m.node).phase ≡ false)
RightLookupReply m o n key (reply.Stored holders) = ⊥
RightLookupReply m o n key (reply.Found y b) = ⊥
RightLookupReply m o n key (reply.NotFound y) = ⊥
RightLookupReply m o n key (reply.Collision y) = ⊥
RightLookupReply m o n key (reply.TooFew y known) = ⊥
RightLookupReply m o n key (reply.Full y) = ⊥
RightLookupReply m o n key (reply.Gone y) = ⊥
RightLookupReply m o n key (reply.Reclaimed y) = ⊥

-- the reply to an insert of bytes b for f with so many copies; es is the whole record
abbrev pub RightInsertReply : Setting → List Entry → Moment → FileId → ℕ → Content → Reply → Type 0
RightInsertReply g es m f copies b (reply.Stored holders) = RightlyStored g es m.world f copies b holders
RightInsertReply g es m f copies b (reply.Collision y) =
    (y ≡ m.node) × ((held : Content) × ((table m.world.past f ≡ Keeps held) × (held ≢ b)))
RightInsertReply g es m f copies b (reply.Gone y) = (y ≡ m.node) × (table m.world.past f ≡ Gone)
RightInsertReply g es m f copies b (reply.TooFew y known) =
    (y ≡ m.node) × (length (leaves m.node (m.world.states m.node).known) ≡ known) × (known < copies - 1)
RightInsertReply g es m f copies b (reply.Full y) = (y ≡ m.node) × RightlyFull m.world m.node f
RightInsertReply g es m f copies b (reply.Busy y j) = (y ≡ m.node) × KeepsFor (m.world.states m.node) j (key_of f)
RightInsertReply g es m f copies b (reply.NotReady y) = (y ≡ m.node) × (is_ready (m.world.states m.node).phase ≡ false)
RightInsertReply g es m f copies b (reply.Delivered y hops) = ⊥
RightInsertReply g es m f copies b (reply.Found y found) = ⊥
RightInsertReply g es m f copies b (reply.NotFound y) = ⊥
RightInsertReply g es m f copies b (reply.Reclaimed y) = ⊥

-- the reply to a fetch of f
abbrev pub RightFetchReply : Moment → FileId → Reply → Type 0
RightFetchReply m f (reply.Found y b) = (y ≡ m.node) × (table m.world.past f ≡ Keeps b)
RightFetchReply m f (reply.NotFound y) = (y ≡ m.node) × (table m.world.past f ≡ Nowhere)
RightFetchReply m f (reply.Gone y) = (y ≡ m.node) × (table m.world.past f ≡ Gone)
RightFetchReply m f (reply.Busy y j) = (y ≡ m.node) × KeepsFor (m.world.states m.node) j (key_of f)
RightFetchReply m f (reply.NotReady y) = (y ≡ m.node) × (is_ready (m.world.states m.node).phase ≡ false)
RightFetchReply m f (reply.Delivered y hops) = ⊥
RightFetchReply m f (reply.Stored holders) = ⊥
RightFetchReply m f (reply.Collision y) = ⊥
RightFetchReply m f (reply.TooFew y known) = ⊥
RightFetchReply m f (reply.Full y) = ⊥
RightFetchReply m f (reply.Reclaimed y) = ⊥

-- the reply to a reclaim of f
abbrev pub RightReclaimReply : Moment → FileId → Reply → Type 0
RightReclaimReply m f (reply.Reclaimed y) = (y ≡ m.node) × (table m.world.past f ≡ Gone)
RightReclaimReply m f (reply.NotFound y) = (y ≡ m.node) × (table m.world.past f ≡ Nowhere)
RightReclaimReply m f (reply.Busy y j) = (y ≡ m.node) × KeepsFor (m.world.states m.node) j (key_of f)
RightReclaimReply m f (reply.NotReady y) = (y ≡ m.node) × (is_ready (m.world.states m.node).phase ≡ false)
RightReclaimReply m f (reply.Delivered y hops) = ⊥
RightReclaimReply m f (reply.Stored holders) = ⊥
RightReclaimReply m f (reply.Found y b) = ⊥
RightReclaimReply m f (reply.Collision y) = ⊥
RightReclaimReply m f (reply.TooFew y known) = ⊥
RightReclaimReply m f (reply.Full y) = ⊥
RightReclaimReply m f (reply.Gone y) = ⊥

-- the reply to command n of o, by the command
abbrev pub RightReply : Setting → List Entry → Moment → Id → Number → NodeCommand → Reply → Type 0
RightReply g es m o n (command.Lookup key) r = RightLookupReply m o n key r
RightReply g es m o n (command.Insert f copies b) r = RightInsertReply g es m f copies b r
RightReply g es m o n (command.Fetch f) r = RightFetchReply m f r
RightReply g es m o n (command.Reclaim f) r = RightReclaimReply m f r
RightReply g es m o n (command.Join via) r = ⊥
RightReply g es m o n command.GiveUp r = ⊥

-- command n of o so far is a request, and the reply to it is right
abbrev pub RightlyAnswered : Setting → List Entry → Moment → Id → Number → Reply → Type 0
RightlyAnswered g es m o n r = (c : NodeCommand) × (WasCommanded m.world o n c × RightReply g es m o n c r)

-- why a node refuses a joiner, as its state shows
abbrev pub ShowsWhy : State → Why → Type 0
ShowsWhy s (why.Busy j) = (is_ready s.phase ≡ true) × ((joiner_of s.left_gate ≡ Some j) ⊎ (joiner_of s.right_gate ≡ Some j))
ShowsWhy s (why.Moved l r) = (a : Attempt) × (s.phase ≡ Ready a l r)
ShowsWhy s why.NotReady = is_ready s.phase ≡ false

-- entry j, counted from 0, sent message m
abbrev pub SentBy : List Entry → ℕ → ℕ → Type 0
SentBy es m j = (length (sent_in (take j es)) ≤ m) × (m < length (sent_in (take (j + 1) es)))

-- the event delivers a message, and in the world after the entry that sent it y shows why
abbrev pub IsDenial : Setting → List Entry → Event → Id → Why → Type 0
IsDenial g es v y w =
    (m : ℕ) × ((j : ℕ) × ((v ≡ event.Deliver m) × SentBy es m j × ShowsWhy ((world_after g es (j + 1)).states y) w))

-- x stopped its own join by this event, or did not begin it, its phase before being this one
abbrev pub RightlyStopped : Phase → Event → Id → Own → Type 0
RightlyStopped p v x own.GivenUp = ((n : Number) × (v ≡ event.Command x n command.GiveUp)) × (is_joining p ≡ true)
RightlyStopped p v x own.Already = (a : Attempt) → p ≢ Waiting a
RightlyStopped p v x own.Spent = p ≡ Waiting LAST_ATTEMPT

-- command n of x so far is a join
abbrev pub WasJoin : World → Id → Number → Type 0
WasJoin w x n = (via : Id) × WasCommanded w x n (command.Join via)

-- x has become ready between its true neighbours
pub record RightlyJoined (g : Setting) (before w : World) (x l r : Id) : Type 0 where
  pub ready : IsReadyIn g w x
  pub new : is_ready (before.states x).phase ≡ false
  pub left : IsPred (IsReadyIn g w) x l
  pub right : IsSucc (IsReadyIn g w) x r

-- an earlier entry has the reply to command n of x
abbrev pub WasAnswered : World → Id → Number → Reply → Type 0
WasAnswered before x n r = (b : Entry) × (Contains before.past b × Contains b.notes (note.Answered x n r))

-- command n of x was closed with a reply, and an earlier entry has it
abbrev pub RightlyReplied : World → Id → Number → Answer → Type 0
RightlyReplied before x n (answer.Reply r) = WasAnswered before x n r
RightlyReplied before x n (answer.Joined l r) = ⊥
RightlyReplied before x n (answer.Denied y reason) = ⊥
RightlyReplied before x n (answer.Stopped y reason) = ⊥
RightlyReplied before x n answer.GaveUp = ⊥
RightlyReplied before x n answer.NothingToGiveUp = ⊥

-- command n of the node was closed rightly
abbrev pub RightlyClosed : Setting → List Entry → Moment → Number → Answer → Type 0
RightlyClosed g es m n (answer.Reply r) = WasAnswered m.before m.node n r
RightlyClosed g es m n (answer.Joined l r) = WasJoin m.world m.node n × RightlyJoined g m.before m.world m.node l r
RightlyClosed g es m n (answer.Denied y reason) = WasJoin m.world m.node n × IsDenial g es m.entry.event y reason
RightlyClosed g es m n (answer.Stopped y reason) =
    WasJoin m.world m.node n × (y ≡ m.node) × RightlyStopped (m.before.states m.node).phase m.entry.event m.node reason
RightlyClosed g es m n answer.GaveUp =
    (m.entry.event ≡ event.Command m.node n command.GiveUp) × (is_joining (m.before.states m.node).phase ≡ true)
RightlyClosed g es m n answer.NothingToGiveUp =
    (m.entry.event ≡ event.Command m.node n command.GiveUp) × (is_joining (m.before.states m.node).phase ≡ false)

-- a note is right where it stands
abbrev pub RightNote : Setting → List Entry → Moment → Note → Type 0
RightNote g es m (note.Delivered o n key hops) = RightlyDelivered g m.world m.node o n key hops
RightNote g es m (note.Answered o n r) = RightlyAnswered g es m o n r
RightNote g es m (note.Closed n a) = RightlyClosed g es m n a
RightNote g es m (note.Accepted f b) = Unit {0}
RightNote g es m (note.Reclaimed f) = Unit {0}

-- every note is right
abbrev pub NotesAreRight : Setting → List Entry → Type 0
NotesAreRight g es = EachNote g (RightNote g es) es

-- of a delivery, of the reply to a lookup, and of the closing of a lookup: it is right
abbrev pub RightLookupNote : Setting → Moment → Note → Type 0
RightLookupNote g m (note.Delivered o n key hops) = RightlyDelivered g m.world m.node o n key hops
RightLookupNote g m (note.Answered o n r) = (key : Key) → WasCommanded m.world o n (command.Lookup key) → RightLookupReply m o n key r
RightLookupNote g m (note.Closed n a) =
    (key : Key) → WasCommanded m.world m.node n (command.Lookup key) → RightlyReplied m.before m.node n a
RightLookupNote g m (note.Accepted f b) = Unit {0}
RightLookupNote g m (note.Reclaimed f) = Unit {0}

-- every delivery is right, and every answer to a lookup
abbrev pub LookupsAreRight : Setting → List Entry → Type 0
LookupsAreRight g es = EachNote g (RightLookupNote g) es

abbrev pub is_closing_of : Number → Note → Bool
is_closing_of n (note.Closed m a) = m == n
is_closing_of n (note.Accepted f b) = false
is_closing_of n (note.Delivered o m key hops) = false
is_closing_of n (note.Answered o m r) = false
is_closing_of n (note.Reclaimed f) = false

-- no command has two Closed notes: a number is of one command alone
abbrev pub ClosedOnce : List Entry → Type 0
ClosedOnce es = (n : Number) → count_by (is_closing_of n) (notes_in es) ≤ 1
