-- The lines of a trace: what each says, and how it is spelled.
use Rattle.std.specs.Prelude.{◌≡◌, ℕ, ◌<◌, ◌^◌, List, ◌++◌, codes, decimal}
use Rattle.std.specs.List.{flat_map, AllByRecursion}
use Rattle.hex.specs.Hex.{encode_lower}
use Rattle.ring_math.specs.Names as names
use Rattle.ring_math.specs.Texts.{text_of}
use Rattle.wire_msg.specs.declared.command.Command.{Command as NodeCommand}
use Rattle.wire_msg.specs.declared.note.Note.{Note as NodeNote}
use Rattle.wire_msg.specs.Words.{Envelope, plain_envelope}
use Rattle.wire_codec.specs.Fields.{spelled, Fits}
use Rattle.wire_codec.specs.Notes.{fields_of_command, fields_of_note}
use Rattle.wire_codec.specs.Spelling.{contents_of, spelling}
use Rattle.overlay_rules.specs.declared.entry.Event.{Event as NodeEvent}
use Rattle.overlay_rules.specs.declared.entry.Event.TheVariants as event
use Rattle.trace_text.specs.declared.form.Form.{Form}
use Rattle.trace_text.specs.declared.form.Form.TheVariants as form
use Rattle.trace_text.specs.declared.line.Line.{Line as CodeLine}
use Rattle.trace_text.specs.declared.line.Line.TheVariants as code

pub data Line : Type 0 where
  Trace : Line
  Node : (id : names.Id) → Line
  Founder : (id : names.Id) → Line
  Event : (event : NodeEvent) → Line
  Sent : (envelope : Envelope) → Line
  Note : (note : NodeNote) → Line
  End : (skipped : ℕ) → Line

-- a line of the code, as a value
abbrev pub plain_line : CodeLine → Line
plain_line code.Trace = Trace
plain_line (code.Node id) = Node id
plain_line (code.Founder id) = Founder id
plain_line (code.Event event) = Event event
plain_line (code.Sent envelope) = Sent (plain_envelope envelope)
plain_line (code.Note note) = Note note
plain_line (code.End skipped) = End skipped

abbrev pub form_of : Line → Form
form_of Trace = form.Trace
form_of (Node id) = form.Node
form_of (Founder id) = form.Founder
form_of (Event (event.Command node number command)) = form.Command
form_of (Event (event.Deliver message)) = form.Deliver
form_of (Event (event.Noise node)) = form.Noise
form_of (Sent envelope) = form.Sent
form_of (Note note) = form.Note
form_of (End skipped) = form.End

-- the first word of a line
abbrev pub word_of : Form → List ℕ
word_of form.Trace = codes "trace"
word_of form.Node = codes "node"
word_of form.Founder = codes "founder"
word_of form.Command = codes "command"
word_of form.Deliver = codes "deliver"
word_of form.Noise = codes "noise"
word_of form.Sent = codes "sent"
word_of form.Note = codes "note"
word_of form.End = codes "end"

-- a command and a note in hexadecimal
abbrev pub command_text : NodeCommand → List ℕ
command_text c = encode_lower (flat_map spelled (fields_of_command c))

abbrev pub note_text : NodeNote → List ℕ
note_text n = encode_lower (flat_map spelled (fields_of_note n))

-- what stands behind the first word and a space
abbrev pub operands_of : Line → List ℕ
operands_of Trace = codes "1"
operands_of (Node id) = text_of id
operands_of (Founder id) = text_of id
operands_of (Event (event.Command node number command)) =
    text_of node ++ (codes " " ++ (decimal number ++ (codes " " ++ command_text command)))
operands_of (Event (event.Deliver message)) = decimal message
operands_of (Event (event.Noise node)) = text_of node
operands_of (Sent envelope) = encode_lower (spelling envelope)
operands_of (Note note) = note_text note
operands_of (End skipped) = decimal skipped

abbrev pub line_text : Line → List ℕ
line_text l = word_of (form_of l) ++ (codes " " ++ operands_of l)

-- identifiers are below 2^128, numbers below 2^64, and fields fit their forms
abbrev pub FitsLine : Line → Type 0
FitsLine Trace = Unit {0}
FitsLine (Node id) = id < 2 ^ 128
FitsLine (Founder id) = id < 2 ^ 128
FitsLine (Event (event.Command node number command)) = (node < 2 ^ 128) × (number < 2 ^ 64) × AllByRecursion Fits (fields_of_command command)
FitsLine (Event (event.Deliver message)) = message < 2 ^ 64
FitsLine (Event (event.Noise node)) = node < 2 ^ 128
FitsLine (Sent envelope) = AllByRecursion Fits (contents_of envelope).fields
FitsLine (Note note) = AllByRecursion Fits (fields_of_note note)
FitsLine (End skipped) = skipped < 2 ^ 64

-- the text is this line
pub record IsLine (text : List ℕ) (l : Line) : Type 0 where
  pub text_is : text ≡ line_text l
  pub fits : FitsLine l

-- a line with its end, and several
abbrev pub ended : Line → List ℕ
ended l = line_text l ++ codes "\n"

abbrev pub text_of_lines : List Line → List ℕ
text_of_lines ls = flat_map ended ls

-- what stands behind the word of this form is that of this line
pub record AreOperands (f : Form) (text : List ℕ) (l : Line) : Type 0 where
  pub form_is : form_of l ≡ f
  pub text_is : text ≡ operands_of l
  pub fits : FitsLine l
