-- A scenario of nodes that are made of a seed, of given files, and of tasks.
use Rattle.std.specs.Prelude.{◌≢◌, ◌≤◌, ℕ, ◌+◌, ◌*◌, ◌%◌, List, [], ◌∷◌, ◌++◌, codes, decimal, drop, length, map, slice_index_or, AllPairs}
use Rattle.std.specs.List.{range_with_len, AllByRecursion}
use Rattle.ring_math.specs.Keys.{number_of}
use Rattle.wire_msg.specs.declared.command.Command.TheVariants as command
use Rattle.scenario_reader.specs.declared.limits.TheConstants.{MOST_NODES, MOST_FILES, MOST_LINES, MOST_DELIVERIES}
use Rattle.scenario_reader.specs.declared.action.Action.{Action}
use Rattle.scenario_reader.specs.declared.action.What.{What}
use Rattle.scenario_reader.specs.declared.action.What.TheVariants as what
use Rattle.scenario_reader.specs.declared.node.NodeLine.{NodeLine}
use Rattle.scenario_reader.specs.declared.node.FileLine.{FileLine}
use Rattle.scenario_reader.specs.Plain.{PlainScenario}
use Rattle.schedule.specs.declared.task.Task.{Task}
use Rattle.schedule.specs.declared.task.Task.TheVariants.{Join, Insert, Fetch, Settle, Shuffle}
use Rattle.schedule.specs.declared.file.MadeFile.{MadeFile}
use Rattle.schedule.specs.Plan.{IsTask, deliveries_in}
use Rattle.schedule.specs.Words.{words_from, bytes_of}

-- so many nodes of a seed, and files
pub record Making : Type 0 where
  pub nodes : ℕ
  pub seed : ℕ
  pub files : List MadeFile

-- Node i is the number of four words, whose first byte is (i * 167) mod 256 instead. These differ, since 167 is odd.
unfoldable pub id_from : ℕ → List ℕ → ℕ
id_from i words = number_of (i * 167 % 256 ∷ drop 1 (bytes_of words))

unfoldable pub node_id : ℕ → ℕ → ℕ
node_id seed i = id_from i (words_from seed (4 * i) 4)

abbrev pub ids_made : ℕ → ℕ → List ℕ
ids_made nodes seed = map (node_id seed) (range_with_len 0 nodes)

abbrev pub node_line : ℕ → ℕ → NodeLine
node_line seed i = record { name = codes "n" ++ decimal i; id = node_id seed i; line = i + 1 }

abbrev pub node_lines : ℕ → ℕ → List NodeLine
node_lines nodes seed = map (node_line seed) (range_with_len 0 nodes)

abbrev pub file_line : ℕ → MadeFile → FileLine
file_line line made = record { name = made.name; file = made.file; bytes = made.bytes; line = line }

-- files, one a line, from this line on
abbrev pub file_lines : ℕ → List MadeFile → List FileLine
file_lines line [] = []
file_lines line (made ∷ files) = file_line line made ∷ file_lines (line + 1) files

abbrev pub no_file : MadeFile
no_file = record { name = []; file = []; bytes = [] }

abbrev pub file_at : Making → ℕ → MadeFile
file_at m j = slice_index_or m.files j no_file

-- what a task says, where a command has this number
abbrev pub what_of : Making → ℕ → Task → What
what_of m number (Join node) = what.Command number (node_id m.seed node) (command.Join (node_id m.seed 0))
what_of m number (Insert file copies) =
    what.Command number (node_id m.seed 0) (command.Insert (file_at m file).file copies (file_at m file).bytes)
what_of m number (Fetch node file) = what.Command number (node_id m.seed node) (command.Fetch (file_at m file).file)
what_of m number (Settle count) = what.Settle count
what_of m number (Shuffle count) = what.Shuffle m.seed count

-- the number of the next command behind a task
abbrev pub number_after : Task → ℕ → ℕ
number_after (Join node) number = number + 1
number_after (Insert file copies) number = number + 1
number_after (Fetch node file) number = number + 1
number_after (Settle count) number = number
number_after (Shuffle count) number = number

-- tasks as actions, one a line, from this number and line on
abbrev pub written : Making → ℕ → ℕ → List Task → List Action
written m number line [] = []
written m number line (task ∷ tasks) =
    record { line = line; what = what_of m number task } ∷ written m (number_after task number) (line + 1) tasks

-- its lines are the nodes, the files, the founder, which is node 0, and the actions
abbrev pub scenario_of : Making → List Task → PlainScenario
scenario_of m tasks =
    record {
      nodes = node_lines m.nodes m.seed;
      founder = node_id m.seed 0;
      files = file_lines (m.nodes + 1) m.files;
      actions = written m 1 (m.nodes + length m.files + 2) tasks;
    }

-- nodes and files are within the limits, and no two files have one name
pub record IsMaking (m : Making) : Type 0 where
  pub some : 2 ≤ m.nodes
  pub nodes_few : m.nodes ≤ MOST_NODES
  pub files_few : length m.files ≤ MOST_FILES
  pub names_differ : AllPairs ◌≢◌ (map (λ (made : MadeFile). made.name) m.files)

-- tasks name nodes and files that are made, and are within the limits
pub record AreTasks (m : Making) (tasks : List Task) : Type 0 where
  pub each : AllByRecursion (IsTask m.nodes (length m.files)) tasks
  pub few : length tasks ≤ MOST_LINES
  pub deliveries : deliveries_in tasks ≤ MOST_DELIVERIES
