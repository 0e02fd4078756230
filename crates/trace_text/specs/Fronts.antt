-- Fronts of traces: what was read so far, and which lines may follow it.
use Rattle.std.specs.Prelude.{◌≡◌, ℕ, ◌+◌, ◌≤◌, ◌&&◌, not, nat_lt, Bool, true, if◌then◌else◌, List, [], ◌∷◌, ◌++◌, length, Option, Some, None}
use Rattle.std.specs.List.{flat_map, AllByRecursion}
use Rattle.ring_math.specs.Names.{Id}
use Rattle.ring_math.specs.Sides.{is_in}
use Rattle.overlay_rules.specs.declared.entry.Entry.{Entry}
use Rattle.overlay_rules.specs.declared.entry.Event.{Event as NodeEvent}
use Rattle.overlay_rules.specs.Record.{all_differ}
use Rattle.wire_msg.specs.declared.note.Note.{Note as NodeNote}
use Rattle.wire_msg.specs.Words.{Envelope}
use Rattle.scenario_reader.specs.declared.limits.TheConstants.{MOST_NODES}
use Rattle.trace_text.specs.Lines.{Line, FitsLine, IsLine, ended, text_of_lines}
use Rattle.trace_text.specs.Lines as line
use Rattle.trace_text.specs.Traces.{PlainTrace, plain_trace, trace_of, node_lines, setting_lines, entry_lines, trace_lines, IsTrace}
use Rattle.trace_text.specs.declared.fault.Refusal.{Refusal}
use Rattle.trace_text.specs.declared.fault.Refusal.TheVariants as refusal
use Rattle.trace_text.specs.declared.fault.TraceFault.{TraceFault}
use Rattle.trace_text.specs.declared.fault.TraceFault.TheVariants as fault
use Rattle.trace_text.specs.declared.front.Front.{Front as CodeFront}
use Rattle.trace_text.specs.declared.front.Front.TheVariants as code

pub data Front : Type 0 where
  -- no line
  Nothing : Front
  -- the line of the format, and these nodes
  Nodes : (nodes : List Id) → Front
  -- the founder too
  Founder : (nodes : List Id) (founder : Id) → Front
  -- these whole entries, and the last, which may go on
  Entries : (nodes : List Id) (founder : Id) (whole : List Entry) (last : Entry) → Front
  -- a whole trace
  End : (trace : PlainTrace) → Front

-- a front of the code, as a value
abbrev pub plain_front : CodeFront → Front
plain_front code.Nothing = Nothing
plain_front (code.Nodes nodes) = Nodes nodes
plain_front (code.Founder nodes founder) = Founder nodes founder
plain_front (code.Entries nodes founder whole last) = Entries nodes founder whole last
plain_front (code.End trace) = End (plain_trace trace)

-- the lines that were read
abbrev pub lines_of : Front → List Line
lines_of Nothing = []
lines_of (Nodes nodes) = node_lines nodes
lines_of (Founder nodes founder) = setting_lines nodes founder
lines_of (Entries nodes founder whole last) = setting_lines nodes founder ++ (flat_map entry_lines whole ++ entry_lines last)
lines_of (End trace) = trace_lines trace

-- ---- the lines that may follow

-- at most 256 different nodes
abbrev pub with_node : List Id → Id → Option Front
with_node nodes x = if nat_lt (length nodes) MOST_NODES && not (is_in nodes x) then Some (Nodes (nodes ++ x ∷ [])) else None

-- the founder is one of them
abbrev pub with_founder : List Id → Id → Option Front
with_founder nodes x = if is_in nodes x then Some (Founder nodes x) else None

-- an entry of which only the event was read
abbrev pub begun : NodeEvent → Entry
begun e = record { event = e; messages = []; notes = [] }

-- one message more of an entry
abbrev pub with_sent : Entry → Envelope → Entry
with_sent e m = record e { messages = e.messages ++ m ∷ [] }

-- one note more of an entry
abbrev pub with_note : Entry → NodeNote → Entry
with_note e n = record e { notes = e.notes ++ n ∷ [] }

-- what an entry sent stands before what it noted
abbrev pub may_send : Entry → Bool
may_send e = nat_lt (length e.notes) 1

-- The front with one line more. None where the line may not follow.
abbrev pub after : Front → Line → Option Front
after Nothing line.Trace = Some (Nodes [])
after (Nodes nodes) (line.Node x) = with_node nodes x
after (Nodes nodes) (line.Founder x) = with_founder nodes x
after (Founder nodes founder) (line.Event e) = Some (Entries nodes founder [] (begun e))
after (Founder nodes founder) (line.End skipped) = Some (End (trace_of nodes founder [] skipped))
after (Entries nodes founder whole last) (line.Event e) = Some (Entries nodes founder (whole ++ last ∷ []) (begun e))
after (Entries nodes founder whole last) (line.Sent m) =
    if may_send last then Some (Entries nodes founder whole (with_sent last m)) else None
after (Entries nodes founder whole last) (line.Note n) = Some (Entries nodes founder whole (with_note last n))
after (Entries nodes founder whole last) (line.End skipped) = Some (End (trace_of nodes founder (whole ++ last ∷ []) skipped))
after _ _ = None

-- some trace has the lines of the front, and then this one
pub record GoesOn (front : Front) (l : Line) : Type 0 where
  pub trace : PlainTrace
  pub more : List Line
  pub is : IsTrace trace
  pub lines : trace_lines trace ≡ lines_of front ++ l ∷ more

-- with this text as its next line the front is that one
pub record IsNext (front : Front) (text : List ℕ) (next : Front) : Type 0 where
  pub line_is : Line
  pub is : IsLine text line_is
  pub after_is : after front line_is ≡ Some next

-- ---- the fault of a text

-- different nodes, and no more than there may be
pub record AreNodes (nodes : List Id) : Type 0 where
  pub few : length nodes ≤ MOST_NODES
  pub differ : all_differ nodes ≡ true

-- and the founder one of them
pub record AreFounded (nodes : List Id) (founder : Id) : Type 0 where
  pub nodes_are : AreNodes nodes
  pub member : is_in nodes founder ≡ true

abbrev pub KeepsSetting : Front → Type 0
KeepsSetting Nothing = Unit {0}
KeepsSetting (Nodes nodes) = AreNodes nodes
KeepsSetting (Founder nodes founder) = AreFounded nodes founder
KeepsSetting (Entries nodes founder whole last) = AreFounded nodes founder
KeepsSetting (End trace) = AreFounded trace.nodes trace.founder

-- the text begins with the lines of this front, and the rest follows
pub record Begins (bytes : List ℕ) (front : Front) (rest : List ℕ) : Type 0 where
  pub text : bytes ≡ text_of_lines (lines_of front) ++ rest
  pub fits : AllByRecursion FitsLine (lines_of front)
  pub setting : KeepsSetting front

-- the rest does not begin with a line that may follow the front
abbrev pub NoneFollows : Front → List ℕ → Type 0
NoneFollows front rest = (l : Line) (more : List ℕ) → FitsLine l → rest ≡ ended l ++ more → after front l ≡ None

abbrev pub IsWhole : Front → List ℕ → Type 0
IsWhole (End trace) rest = rest ≡ []
IsWhole _ rest = ⊥

-- Line n, counted from 1, is the first that may not stand at its place: behind the lines of a front no further one
-- follows that may, and the text is not whole. Where the text has no such line, its end is missing.
pub record IsFault (bytes : List ℕ) (n : ℕ) : Type 0 where
  pub front : Front
  pub rest : List ℕ
  pub begins : Begins bytes front rest
  pub number : n ≡ length (lines_of front) + 1
  pub none_follows : NoneFollows front rest
  pub unfinished : IsWhole front rest → ⊥

abbrev pub fault_at : ℕ → Refusal → TraceFault
fault_at n refusal.NotAllowed = fault.Line n
fault_at n refusal.OutOfMemory = fault.OutOfMemory

-- the fault is a line's, and it is this
abbrev pub IsLineFault : List ℕ → TraceFault → Type 0
IsLineFault bytes (fault.Line n) = IsFault bytes n
IsLineFault bytes _ = ⊥
