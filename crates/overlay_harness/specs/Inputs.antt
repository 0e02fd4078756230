-- What a record's entries bring to a node.
use Rattle.std.specs.Prelude.{ℕ, Bool, true, false, ◌==◌, if◌then◌else◌, Option, Some, None, List, [], ◌∷◌, ◌++◌, slice_get}
use Rattle.std.specs.List.{count_by}
use Rattle.ring_math.specs.Names.{Id}
use Rattle.wire_msg.specs.Words.{Envelope}
use Rattle.overlay_rules.specs.declared.entry.Event.{Event}
use Rattle.overlay_rules.specs.declared.entry.Event.TheVariants as event
use Rattle.overlay_rules.specs.declared.entry.Entry.{Entry}
use Rattle.overlay_rules.specs.Record.{Setting, sent_in}
use Rattle.weave_laws.specs.Cells.{CellInput, Command, Comes, Noise, History}
use Rattle.weave_laws.specs.Given.{history_of}
pub use Rattle.weave.specs.Taken.{envelope_in}

-- ---- the inputs of a node

-- an envelope, if there is one, where it is addressed to the node
abbrev pub comes_to : Id → Option Envelope → List CellInput
comes_to x None = []
comes_to x (Some v) = if v.receiver == x then Comes v ∷ [] else []

-- what an event brings to a node, where all this was sent; a delivery brings the envelope that it names
abbrev pub brought : Id → List Envelope → Event → List CellInput
brought x sent (event.Command y n c) = if y == x then Command n c ∷ [] else []
brought x sent (event.Deliver m) = comes_to x (slice_get sent m)
brought x sent (event.Noise y) = if y == x then Noise ∷ [] else []

abbrev pub all_brought : Id → List Envelope → List Entry → List CellInput
all_brought x sent [] = []
all_brought x sent (e ∷ es) = brought x sent e.event ++ all_brought x sent es

-- the inputs of the entries of a record at this node
abbrev pub inputs_at : Id → List Entry → List CellInput
inputs_at x es = all_brought x (sent_in es) es

-- the history that a cell of the node has for them
abbrev pub history_at : Setting → List Entry → Id → History
history_at g es x = record { node = x; entries = history_of x (x == g.founder) (inputs_at x es) }

-- ---- kinds of inputs

abbrev pub is_command : CellInput → Bool
is_command (Command n c) = true
is_command (Comes v) = false
is_command Noise = false

abbrev pub is_noise : CellInput → Bool
is_noise (Command n c) = false
is_noise (Comes v) = false
is_noise Noise = true

-- a frame that the node took: an envelope or noise
abbrev pub is_frame : CellInput → Bool
is_frame (Command n c) = false
is_frame (Comes v) = true
is_frame Noise = true

abbrev pub frames_in : List CellInput → ℕ
frames_in inputs = count_by is_frame inputs

-- the envelopes among them, in order
abbrev pub envelopes_in : List CellInput → List Envelope
envelopes_in [] = []
envelopes_in (i ∷ inputs) = envelope_in i ++ envelopes_in inputs
