-- What files and commands are called: a file by its name, a command by the words of its line.
use Rattle.std.specs.Prelude.{ℕ, List, [], ◌∷◌, ◌++◌, Option, Some, None, find, flat_map, codes, decimal}
use Rattle.hex.specs.Hex.{encode_lower}
use Rattle.ring_math.specs.Bytewise.{same_bytes}
use Rattle.ring_math.specs.Names.{FileId}
use Rattle.ring_math.specs.Texts.{text_of}
use Rattle.wire_msg.specs.declared.command.Command.{Command}
use Rattle.wire_msg.specs.declared.command.Command.TheVariants as command
use Rattle.scenario_reader.specs.declared.node.NodeLine.{NodeLine}
use Rattle.scenario_reader.specs.declared.node.FileLine.{FileLine}
use Rattle.scenario_reader.specs.declared.action.Action.{Action}
use Rattle.scenario_reader.specs.declared.action.What.{What}
use Rattle.scenario_reader.specs.declared.action.What.TheVariants as what
use Rattle.delivery_report.specs.Answers.{name_of}

-- a file's name; the 40 digits of an identifier that no file has
abbrev pub label_at : Option FileLine → FileId → List ℕ
label_at None file = encode_lower file
label_at (Some line) file = line.name

abbrev pub label_of : List FileLine → FileId → List ℕ
label_of files file = label_at (find (λ (line : FileLine). same_bytes line.file file) files) file

-- names, each behind a space; a dash where there are none
abbrev pub spaced : List (List ℕ) → List ℕ
spaced names = flat_map (λ name. codes " " ++ name) names

abbrev pub spaced_or_dash : List (List ℕ) → List ℕ
spaced_or_dash [] = codes " -"
spaced_or_dash (name ∷ names) = spaced (name ∷ names)

-- two nodes
abbrev pub both_text : List NodeLine → ℕ → ℕ → List ℕ
both_text nodes left right = name_of nodes left ++ codes " and " ++ name_of nodes right

-- the lines of the commands, in order: that of command n is the n-th
abbrev pub line_if_command : ℕ → What → List ℕ
line_if_command line (what.Command number node command) = line ∷ []
line_if_command line (what.Settle count) = []
line_if_command line (what.Deliver message) = []
line_if_command line (what.Shuffle seed count) = []
line_if_command line (what.Dup copies) = []
line_if_command line (what.Noise node bytes) = []

abbrev pub command_lines : List Action → List ℕ
command_lines actions = flat_map (λ (action : Action). line_if_command action.line action.what) actions

-- the words of a command, behind its node
abbrev pub command_text : List NodeLine → List FileLine → Command → List ℕ
command_text nodes files (command.Join via) = codes "join by " ++ name_of nodes via
command_text nodes files (command.Lookup key) = codes "lookup " ++ text_of key
command_text nodes files (command.Insert file copies bytes) = codes "insert " ++ label_of files file ++ codes " " ++ decimal copies
command_text nodes files (command.Fetch file) = codes "fetch " ++ label_of files file
command_text nodes files command.GiveUp = codes "giveup"
command_text nodes files (command.Reclaim file) = codes "reclaim " ++ label_of files file
