-- Histories of all nodes together, and which of them can come.
use Rattle.std.specs.Prelude.{◌≡◌, ◌≢◌, ◌<◌, ◌≤◌, ℕ, ◌^◌, Bool, true, not, ◌&&◌, ◌==◌, if◌then◌else◌, Option, Some, None, List, [], ◌∷◌, ◌++◌, map, slice_get}
use Rattle.std.specs.Prelude.{length, All, Contains, take}
use Rattle.ring_math.specs.declared.limits.TheConstants.{MOST_BYTES}
use Rattle.ring_math.specs.Names.{Id, Number, FileId, Content, Stamp}
use Rattle.ring_math.specs.Sides.{is_in}
use Rattle.wire_msg.specs.declared.limits.TheConstants.{MOST_COPIES}
use Rattle.wire_msg.specs.declared.command.Command.{Command as NodeCommand}
use Rattle.wire_msg.specs.declared.command.Command.TheVariants as command
use Rattle.wire_msg.specs.Words.{Envelope, Sent}
use Rattle.overlay_rules.specs.declared.entry.Event.{Event}
use Rattle.overlay_rules.specs.declared.entry.Event.TheVariants as event
use Rattle.overlay_rules.specs.declared.entry.Entry.{Entry}
use Rattle.overlay_rules.specs.State.{State, start}
use Rattle.overlay_rules.specs.Outcome.{Input, Command, Comes, Noise}
use Rattle.overlay_rules.specs.Step.{step}

-- the nodes there are, and the one that is ready from the start
pub record Setting : Type 0 where
  pub nodes : List Id
  pub founder : Id

abbrev pub all_differ : List Id → Bool
all_differ [] = true
all_differ (x ∷ xs) = not (is_in xs x) && all_differ xs

-- different nodes, identifiers all of them, and the founder among them
pub record IsSetting (g : Setting) : Type 0 where
  pub in_ring : All (λ x. x < 2 ^ 128) g.nodes
  pub differ : all_differ g.nodes ≡ true
  pub founder : Contains g.nodes g.founder

-- what is a file or the bytes of one, and what a command can say
abbrev pub IsFile : FileId → Type 0
IsFile f = (length f ≡ 20) × All (λ b. b < 256) f

abbrev pub IsBytes : Content → Type 0
IsBytes b = (length b ≤ MOST_BYTES) × All (λ c. c < 256) b

abbrev pub IsSaid : NodeCommand → Type 0
IsSaid (command.Join via) = via < 2 ^ 128
IsSaid (command.Lookup key) = key < 2 ^ 128
IsSaid (command.Insert f copies b) = IsFile f × (1 ≤ copies) × (copies ≤ MOST_COPIES) × IsBytes b
IsSaid (command.Fetch f) = IsFile f
IsSaid command.GiveUp = Unit {0}
IsSaid (command.Reclaim f) = IsFile f

abbrev pub IsSaidBy : Event → Type 0
IsSaidBy (event.Command x n c) = IsSaid c
IsSaidBy (event.Deliver m) = Unit {0}
IsSaidBy (event.Noise x) = Unit {0}

-- all that was sent, in order: message n is the n-th, from 0
abbrev pub sent_in : List Entry → List Envelope
sent_in [] = []
sent_in (e ∷ es) = e.messages ++ sent_in es

-- the node of an event, and what comes to it
pub record Visit : Type 0 where
  pub node : Id
  pub input : Input

abbrev pub visit_of : Option Envelope → Option Visit
visit_of None = None
visit_of (Some e) = Some (record { node = e.receiver; input = Comes e.sender e.message })

abbrev pub visit : List Envelope → Event → Option Visit
visit sent (event.Command x n c) = Some (record { node = x; input = Command n c })
visit sent (event.Deliver m) = visit_of (slice_get sent m)
visit sent (event.Noise x) = Some (record { node = x; input = Noise })

-- the states of all nodes, and the entries so far
pub record World : Type 0 where
  pub states : Id → State
  pub past : List Entry

abbrev pub world_at_start : Setting → World
world_at_start g = record { states = λ x. start x (x == g.founder); past = [] }

abbrev pub state_at : (Id → State) → Id → State → Id → State
state_at states x s y = if y == x then s else states y

abbrev pub states_after : (Id → State) → Option Visit → (Id → State)
states_after states None = states
states_after states (Some v) = state_at states v.node (step (states v.node) v.input).state

abbrev pub after : World → Entry → World
after w e = record { states = states_after w.states (visit (sent_in w.past) e.event); past = w.past ++ e ∷ [] }

abbrev pub run : World → List Entry → World
run w [] = w
run w (e ∷ es) = run (after w e) es

-- an envelope but for its stamp, which rules do not read
abbrev pub unstamped : Envelope → Envelope
unstamped e = record e { stamp = 0 }

-- what a step sends, from its node
abbrev pub enveloped : Stamp → Id → Sent → Envelope
enveloped stamp x s = record { sender = x; receiver = s.receiver; stamp = stamp; message = s.message }

-- a command's number is greater than each earlier one at its node, and no other command's
abbrev pub IsFreshAfter : Id → Number → Event → Type 0
IsFreshAfter x n (event.Command y m c) = (n ≢ m) × (x ≡ y → m < n)
IsFreshAfter x n (event.Deliver m) = Unit {0}
IsFreshAfter x n (event.Noise y) = Unit {0}

abbrev pub IsFresh : List Entry → Event → Type 0
IsFresh past (event.Command x n c) = All (λ e. IsFreshAfter x n e.event) past
IsFresh past (event.Deliver m) = Unit {0}
IsFresh past (event.Noise x) = Unit {0}

-- this entry may follow in this world: its messages and notes are those of the step, but for stamps
pub record Follows (g : Setting) (w : World) (e : Entry) : Type 0 where
  pub at : Visit
  pub is_at : visit (sent_in w.past) e.event ≡ Some at
  pub member : Contains g.nodes at.node
  pub fresh : IsFresh w.past e.event
  pub messages : map unstamped e.messages ≡ map (enveloped 0 at.node) (step (w.states at.node) at.input).sends
  pub notes : e.notes ≡ (step (w.states at.node) at.input).notes

abbrev pub LegalFrom : Setting → World → List Entry → Type 0
LegalFrom g w [] = Unit {0}
LegalFrom g w (e ∷ es) = Follows g w e × LegalFrom g (after w e) es

abbrev pub Legal : Setting → List Entry → Type 0
Legal g es = LegalFrom g (world_at_start g) es

-- the world after the first i entries
abbrev pub world_after : Setting → List Entry → ℕ → World
world_after g es i = run (world_at_start g) (take i es)

-- a legal record from a setting, of commands as they can be said
pub record IsRecord (g : Setting) (es : List Entry) : Type 0 where
  pub setting : IsSetting g
  pub said : All (λ e. IsSaidBy e.event) es
  pub legal : Legal g es
