-- Cell history: what one node took in from its start on, with its stamps, and what it sent and noted.
use Rattle.std.specs.Prelude.{◌≡◌, suc, max, Bool, List, [], ◌∷◌, map}
use Rattle.ring_math.specs.Names.{Id, Number, Stamp}
use Rattle.wire_msg.specs.declared.command.Command.{Command as NodeCommand}
use Rattle.wire_msg.specs.declared.note.Note.{Note}
use Rattle.wire_msg.specs.Words.{Envelope}
use Rattle.overlay_rules.specs.State.{State, start}
use Rattle.overlay_rules.specs.Outcome.{Input}
use Rattle.overlay_rules.specs.Outcome as outcome
use Rattle.overlay_rules.specs.Record.{enveloped}
use Rattle.overlay_rules.specs.Step.{step}

-- what a cell takes in: a command with its number, an envelope, or bytes that are no frame of its node
pub data CellInput : Type 0 where
  Command : (number : Number) (command : NodeCommand) → CellInput
  Comes : (envelope : Envelope) → CellInput
  Noise : CellInput

pub record CellEntry : Type 0 where
  pub stamp : Stamp
  pub input : CellInput
  pub sent : List Envelope
  pub notes : List Note

-- an envelope has the stamp of the entry that sent it; commands and noise have 0
abbrev pub input_stamp : CellInput → Stamp
input_stamp (Command n c) = 0
input_stamp (Comes v) = v.stamp
input_stamp Noise = 0

-- what comes to the node
abbrev pub input_of : CellInput → Input
input_of (Command n c) = outcome.Command n c
input_of (Comes v) = outcome.Comes v.sender v.message
input_of Noise = outcome.Noise

-- an envelope is addressed to the node
abbrev pub IsFor : Id → CellInput → Type 0
IsFor x (Command n c) = Unit {0}
IsFor x (Comes v) = v.receiver ≡ x
IsFor x Noise = Unit {0}

-- the state of the node after one entry more, and after several
abbrev pub stepped : State → CellEntry → State
stepped s e = (step s (input_of e.input)).state

abbrev pub replay : State → List CellEntry → State
replay s [] = s
replay s (e ∷ es) = replay (stepped s e) es

-- one more than the greater of the stamp before it and the input's own
abbrev pub stamp_after : Stamp → CellInput → Stamp
stamp_after last i = suc (max last (input_stamp i))

-- each has the stamp after that of the one before it
abbrev pub AreStampedAfter : Stamp → List CellEntry → Type 0
AreStampedAfter last [] = Unit {0}
AreStampedAfter last (e ∷ es) = (e.stamp ≡ stamp_after last e.input) × AreStampedAfter e.stamp es

-- the stamp of the last entry, or what it was before the first
abbrev pub last_stamp : Stamp → List CellEntry → Stamp
last_stamp last [] = last
last_stamp last (e ∷ es) = last_stamp e.stamp es

-- a step of node x in state s: its envelopes and notes are Step's, and its envelopes carry its stamp and the node as sender
pub record IsStep (x : Id) (s : State) (e : CellEntry) : Type 0 where
  pub addressed : IsFor x e.input
  pub sent : e.sent ≡ map (enveloped e.stamp x) (step s (input_of e.input)).sends
  pub notes : e.notes ≡ (step s (input_of e.input)).notes

-- each entry is a step on the replay of those before
abbrev pub AreSteps : Id → State → List CellEntry → Type 0
AreSteps x s [] = Unit {0}
AreSteps x s (e ∷ es) = IsStep x s e × AreSteps x (stepped s e) es

-- the history of a cell of node x; before the first entry its stamp is 0
pub record IsCellHistory (x : Id) (founder : Bool) (es : List CellEntry) : Type 0 where
  pub stamps : AreStampedAfter 0 es
  pub steps : AreSteps x (start x founder) es

-- the history of the cell of this node
pub record History : Type 0 where
  pub node : Id
  pub entries : List CellEntry

abbrev pub nodes_of : List History → List Id
nodes_of hs = map (λ (h : History). h.node) hs
