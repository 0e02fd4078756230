-- Which bytes are which script of groups, and for all other bytes the one fault.
use Rattle.std.specs.Prelude.{ℕ, ◌+◌, ◌==◌, nat_lt, if◌then◌else◌, List, [], ◌∷◌, length, option_map, unwrap_or, Option, Some, None, Result, Ok, Err}
use Rattle.std.specs.Prelude.{bytes_eq, codes}
use Rattle.scenario_reader.specs.declared.fault.LineFault.{LineFault}
use Rattle.scenario_reader.specs.declared.fault.LineFault.TheVariants as fault
use Rattle.scenario_reader.specs.declared.limits.TheConstants.{MOST_LINES}
use Rattle.scenario_reader.specs.declared.node.NodeLine.{NodeLine}
use Rattle.scenario_reader.specs.Checks.{not_text, too_long}
use Rattle.scenario_reader.specs.Grammar.{◌before◌, is_comment}
use Rattle.scenario_reader.specs.Grammar as scenario
use Rattle.scenario_reader.specs.Lines.{lines_of}
use Rattle.scenario_reader.specs.Meanings.{amount, bytes_in}
use Rattle.scenario_reader.specs.Plain.{PlainScenario, node_named}
use Rattle.scenario_reader.specs.Plain as scenario_draft
use Rattle.scenario_reader.specs.Words.{Word, words_of}
use Rattle.scribe_core.specs.declared.action.GroupWhat.TheVariants as what
use Rattle.scribe_core.specs.declared.message.GroupCommand.TheVariants as command
use Rattle.group_reader.specs.declared.form.Form.{Form}
use Rattle.group_reader.specs.declared.form.Form.TheVariants as form
use Rattle.group_reader.specs.Checks.{no_bytes, no_group, no_node, no_number, too_many_bytes, too_many_deliveries}
use Rattle.group_reader.specs.Parts.{part_one, part_two}
use Rattle.group_reader.specs.Plain.{Draft, PlainScript, nothing_yet, script_of, with_command, with_deliveries}

-- what is read, unless there is a fault
abbrev pub unless : Option LineFault → Draft → Result Draft LineFault
unless None read = Ok read
unless (Some fault) read = Err fault

-- the node that a word names
abbrev pub node_id : Draft → List ℕ → Option ℕ
node_id d text = option_map (λ (node : NodeLine). node.id) (node_named d.scenario.nodes text)

abbrev pub node_at : Draft → Word → ℕ
node_at d word = unwrap_or (node_id d word.text) 0

-- the form of a line with this first word
abbrev pub form_of : List ℕ → Option Form
form_of text =
    if bytes_eq text (codes "subscribe") then Some form.Subscribe
    else if bytes_eq text (codes "leave") then Some form.Leave
    else if bytes_eq text (codes "publish") then Some form.Publish
    else if bytes_eq text (codes "settle") then Some form.Settle
    else if bytes_eq text (codes "deliver") then Some form.Deliver
    else None

-- how many words stand behind the first
abbrev pub arity : Form → ℕ
arity form.Subscribe = 2
arity form.Leave = 2
arity form.Publish = 3
arity form.Settle = 1
arity form.Deliver = 1

-- line n, of this form and with these words behind the first, which are as many as the form has
abbrev pub read_counted : Draft → ℕ → Form → List Word → Result Draft LineFault
read_counted d n form.Subscribe (name ∷ group ∷ []) =
    unless (no_node d n name before no_group n group) (with_command d n (node_at d name) group.text command.Subscribe)
read_counted d n form.Leave (name ∷ group ∷ []) =
    unless (no_node d n name before no_group n group) (with_command d n (node_at d name) group.text command.Leave)
read_counted d n form.Publish (name ∷ group ∷ content ∷ []) =
    unless (no_bytes n content before no_node d n name before no_group n group before too_many_bytes n content)
    (with_command d n (node_at d name) group.text (command.Publish (bytes_in content.text)))
read_counted d n form.Settle (count ∷ []) =
    unless (no_number n count before too_many_deliveries d n count (amount count.text))
    (with_deliveries d n (what.Settle (amount count.text)) (amount count.text))
read_counted d n form.Deliver (message ∷ []) =
    unless (no_number n message before too_many_deliveries d n message 1) (with_deliveries d n (what.Deliver (amount message.text)) 1)
read_counted d n form words = Ok d

abbrev pub read_form : Draft → ℕ → Form → List Word → Result Draft LineFault
read_form d n form words = if length words == arity form then read_counted d n form words else Err (fault.Count n (length words + 1))

-- a line of a form, or one whose first word, at this place, is none of the table's
abbrev pub read_known : Draft → ℕ → ℕ → Option Form → List Word → Result Draft LineFault
read_known d n place None words = Err (fault.Word n place)
read_known d n place (Some form) words = read_form d n form words

-- A line with no word, or whose first word begins with #, is passed over.
abbrev pub read_words : Draft → ℕ → List Word → Result Draft LineFault
read_words d n [] = Ok d
read_words d n (first ∷ words) = if is_comment first.text then Ok d else read_known d n first.place (form_of first.text) words

-- the words of a line, unless the line is at fault as a text
abbrev pub read_text : Draft → ℕ → List ℕ → Option LineFault → Result Draft LineFault
read_text d n line None = read_words d n (words_of line)
read_text d n line (Some fault) = Err fault

-- what line n makes of a draft, or its fault
abbrev pub read_line : Draft → ℕ → List ℕ → Result Draft LineFault
read_line d n line = read_text d n line (too_long n line before not_text n line)

-- what a line gives is read on, unless it is a fault
abbrev pub and_then : Result Draft LineFault → (Draft → Result PlainScript LineFault) → Result PlainScript LineFault
and_then (Ok draft) next = next draft
and_then (Err fault) next = Err fault

-- The lines of part two from its k-th on, which is line n of all. Its line 10,001 is refused before its checks.
abbrev pub read_from : Draft → ℕ → ℕ → List (List ℕ) → Result PlainScript LineFault
read_from d n k [] = Ok (script_of d)
read_from d n k (line ∷ lines) =
    if nat_lt MOST_LINES k then Err (fault.Limit n 0)
    else and_then (read_line d n line) (λ next. read_from next (n + 1) (k + 1) lines)

-- part two, behind so many lines of part one and the line `groups`
abbrev pub read_behind : PlainScenario → ℕ → Option (List (List ℕ)) → Result PlainScript LineFault
read_behind s lines None = Err (fault.Word (lines + 1) 0)
read_behind s lines (Some behind) = read_from (nothing_yet s) (lines + 2) 1 behind

abbrev pub read_parts : Result PlainScenario LineFault → ℕ → Option (List (List ℕ)) → Result PlainScript LineFault
read_parts (Ok s) lines behind = read_behind s lines behind
read_parts (Err fault) lines behind = Err fault

-- the script that lines are, or their fault; a fault of part one comes first
abbrev pub script_in : List (List ℕ) → Result PlainScript LineFault
script_in lines = read_parts (scenario.read_from scenario_draft.nothing_yet 1 (part_one lines)) (length (part_one lines)) (part_two lines)

-- the script that the bytes are, or their fault
abbrev pub groups_of : List ℕ → Result PlainScript LineFault
groups_of bytes = script_in (lines_of bytes)
