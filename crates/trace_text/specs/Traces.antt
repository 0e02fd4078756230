-- The trace text: which bytes are which trace.
use Rattle.std.specs.Prelude.{◌≡◌, ℕ, ◌≤◌, List, [], ◌∷◌, ◌++◌, length, map}
use Rattle.std.specs.List.{flat_map, AllByRecursion}
use Rattle.ring_math.specs.Names.{Id}
use Rattle.overlay_rules.specs.declared.entry.Entry.{Entry}
use Rattle.overlay_rules.specs.Record.{Setting, IsSetting}
use Rattle.scenario_reader.specs.declared.limits.TheConstants.{MOST_NODES}
use Rattle.trace_text.specs.Lines.{Line, Trace, Node, Founder, Event, Sent, Note, End, FitsLine, text_of_lines}
use Rattle.trace_text.specs.declared.trace.Trace.{Trace as CodeTrace}

-- nodes and founder, what happened among them, and how many deliveries of the schedule were skipped
pub record PlainTrace : Type 0 where
  pub nodes : List Id
  pub founder : Id
  pub entries : List Entry
  pub skipped : ℕ

abbrev pub trace_of : List Id → Id → List Entry → ℕ → PlainTrace
trace_of nodes founder entries skipped = record { nodes = nodes; founder = founder; entries = entries; skipped = skipped }

-- a trace of the code, as a value
abbrev pub plain_trace : CodeTrace → PlainTrace
plain_trace t = trace_of t.nodes t.founder t.steps.entries t.steps.skipped

-- the line of the format, and one for each node
abbrev pub node_lines : List Id → List Line
node_lines nodes = Trace ∷ map Node nodes

-- these, and the founder's line
abbrev pub setting_lines : List Id → Id → List Line
setting_lines nodes founder = node_lines nodes ++ Founder founder ∷ []

-- the event of an entry, what was sent, and what was noted
abbrev pub entry_lines : Entry → List Line
entry_lines e = Event e.event ∷ (map Sent e.messages ++ map Note e.notes)

abbrev pub trace_lines : PlainTrace → List Line
trace_lines t = setting_lines t.nodes t.founder ++ (flat_map entry_lines t.entries ++ End t.skipped ∷ [])

-- the one text of a trace
abbrev pub trace_text : PlainTrace → List ℕ
trace_text t = text_of_lines (trace_lines t)

abbrev pub setting_of : List Id → Id → Setting
setting_of nodes founder = record { nodes = nodes; founder = founder }

-- 1 to 256 different nodes, the founder one of them, and lines that can be spelled
pub record IsTrace (t : PlainTrace) : Type 0 where
  pub setting : IsSetting (setting_of t.nodes t.founder)
  pub few : length t.nodes ≤ MOST_NODES
  pub fits : AllByRecursion FitsLine (trace_lines t)

-- the bytes are the text of this trace
pub record IsTraceOf (bytes : List ℕ) (t : PlainTrace) : Type 0 where
  pub text : bytes ≡ trace_text t
  pub is : IsTrace t
