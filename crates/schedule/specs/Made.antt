-- The scenario that is made of a number of nodes and a seed: its files, too, are made of random words.
use Rattle.std.specs.Prelude.{ℕ, ◌+◌, ◌*◌, List, [], ◌++◌, codes, decimal, map}
use Rattle.std.specs.List.{range_with_len}
use Rattle.ring_math.specs.Keys.{file_of}
use Rattle.scenario_reader.specs.Plain.{PlainScenario}
use Rattle.schedule.specs.declared.task.TheConstants.{MADE_FILES}
use Rattle.schedule.specs.declared.file.MadeFile.{MadeFile}
use Rattle.schedule.specs.Making.{scenario_of}
use Rattle.schedule.specs.Plan.{plan}
use Rattle.schedule.specs.Words.{words_from, bytes_of}

abbrev pub file_name : ℕ → List ℕ
file_name j = codes "f" ++ decimal j

-- A file of no owner, with some words for its salt and others for its bytes.
unfoldable pub file_from : ℕ → List ℕ → List ℕ → MadeFile
file_from j salt bytes = record { name = file_name j; file = file_of (file_name j) [] (bytes_of salt); bytes = bytes_of bytes }

-- Behind the nodes' words, each file takes two and then sixteen.
abbrev pub file_word : ℕ → ℕ → ℕ
file_word nodes j = 4 * nodes + 18 * j

unfoldable pub made_file : ℕ → ℕ → ℕ → MadeFile
made_file nodes seed j = file_from j (words_from seed (file_word nodes j) 2) (words_from seed (file_word nodes j + 2) 16)

abbrev pub files_made : ℕ → ℕ → List MadeFile
files_made nodes seed = map (made_file nodes seed) (range_with_len 0 MADE_FILES)

abbrev pub made : ℕ → ℕ → PlainScenario
made nodes seed = scenario_of (record { nodes = nodes; seed = seed; files = files_made nodes seed }) (plan nodes)
