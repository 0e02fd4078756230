-- What comes to a node, and what its step gives: the new state, the messages and the notes, each in order.
use Rattle.std.specs.Prelude.{List, [], ◌∷◌, ◌++◌, ◌==◌, if◌then◌else◌}
use Rattle.ring_math.specs.Names.{Id, Number}
use Rattle.wire_msg.specs.declared.command.Command.{Command as NodeCommand}
use Rattle.wire_msg.specs.declared.note.Note.{Note}
use Rattle.wire_msg.specs.declared.note.Note.TheVariants.{Answered}
use Rattle.wire_msg.specs.declared.reply.Reply.{Reply}
use Rattle.wire_msg.specs.Words.{Message, LookupReply, InsertReply, FetchReply, ReclaimReply}
pub use Rattle.wire_msg.specs.Words.{Sent}
use Rattle.overlay_rules.specs.declared.request.Asked.{Asked}
use Rattle.overlay_rules.specs.declared.request.Asked.TheVariants as asked
use Rattle.overlay_rules.specs.State.{State}

pub data Input : Type 0 where
  Command : (number : Number) (command : NodeCommand) → Input
  Comes : (sender : Id) (message : Message) → Input
  Noise : Input

pub record Outcome : Type 0 where
  pub state : State
  pub sends : List Sent
  pub notes : List Note

abbrev pub becomes : State → List Sent → List Note → Outcome
becomes s sends notes = record { state = s; sends = sends; notes = notes }

-- nothing changes, nothing is sent or noted
abbrev pub nothing : State → Outcome
nothing s = becomes s [] []

abbrev pub sent : Id → Message → Sent
sent y message = record { receiver = y; message = message }

-- these first, then what the outcome has
abbrev pub before : List Sent → List Note → Outcome → Outcome
before sends notes o = becomes o.state (sends ++ o.sends) (notes ++ o.notes)

-- to the left, and to the right if it is another node
abbrev pub to_both : Id → Id → Message → List Sent
to_both left right message =
    if left == right then sent left message ∷ [] else sent left message ∷ (sent right message ∷ [])

abbrev pub to_each : List Id → Message → List Sent
to_each [] message = []
to_each (y ∷ ys) message = sent y message ∷ to_each ys message

abbrev pub reply_message : Asked → Number → Reply → Message
reply_message asked.Lookup number r = LookupReply number r
reply_message asked.Insert number r = InsertReply number r
reply_message asked.Fetch number r = FetchReply number r
reply_message asked.Reclaim number r = ReclaimReply number r

-- command `number` of the origin is replied; the origin may be the node itself
abbrev pub replied : State → Asked → Id → Number → Reply → Outcome
replied s what origin number r =
    becomes s (sent origin (reply_message what number r) ∷ []) (Answered origin number r ∷ [])
