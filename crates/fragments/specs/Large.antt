-- The large scenario: nodes join, a file is cut, its pieces are inserted, and the last node fetches them again.
use Rattle.std.specs.Prelude.{ℕ, ◌+◌, ◌-◌, List, [], ◌∷◌, ◌++◌, codes, decimal, length, replicate, take}
use Rattle.std.specs.Int.{div_ceil}
use Rattle.std.specs.List.{flat_map, range_with_len}
use Rattle.scenario_reader.specs.Plain.{PlainScenario}
use Rattle.schedule.specs.declared.file.MadeFile.{MadeFile}
use Rattle.schedule.specs.declared.task.Task.{Task}
use Rattle.schedule.specs.declared.task.Task.TheVariants.{Insert, Fetch, Settle}
use Rattle.schedule.specs.Making.{Making, scenario_of}
use Rattle.schedule.specs.Plan.{join_plan}
use Rattle.schedule.specs.Words.{stream_bytes}
use Rattle.ring_math.specs.Names.{Content}
use Rattle.fragments.specs.declared.piece.Piece.{Piece}
use Rattle.fragments.specs.declared.piece.Pieces.{Pieces}
use Rattle.fragments.specs.Pieces.{LargeFile, pieces_of}

-- so many bytes of stream 1 of a seed's words
abbrev pub generated_bytes : ℕ → ℕ → Content
generated_bytes seed size = take size (stream_bytes seed 1 (div_ceil size 4))

-- they are called "l", and have no owner and no salt
abbrev pub generated : ℕ → ℕ → LargeFile
generated seed size = record { name = codes "l"; owner = []; salt = replicate 8 0; bytes = generated_bytes seed size }

abbrev pub declared : List ℕ → Piece → MadeFile
declared name piece = record { name = name; file = piece.file; bytes = piece.bytes }

abbrev pub fragment_label : ℕ → List ℕ
fragment_label i = codes "p" ++ decimal i

-- the scenario calls the fragments p0, p1 and so on, from p and this number on
abbrev pub declared_from : ℕ → List Piece → List MadeFile
declared_from i [] = []
declared_from i (piece ∷ pieces) = declared (fragment_label i) piece ∷ declared_from (i + 1) pieces

-- and the index, which stands behind them, x
abbrev pub declared_pieces : Pieces → List MadeFile
declared_pieces pieces = declared_from 0 pieces.fragments ++ declared (codes "x") pieces.index ∷ []

abbrev pub store_tasks : ℕ → List Task
store_tasks file = Insert file 2 ∷ Settle 200 ∷ []

abbrev pub retrieve_tasks : ℕ → ℕ → List Task
retrieve_tasks node file = Fetch node file ∷ Settle 200 ∷ []

-- Nodes join; node 0 inserts each fragment and then the index, which has the number behind the fragments; and the last node
-- fetches the index and then each fragment.
abbrev pub large_plan : ℕ → ℕ → List Task
large_plan nodes fragments =
    join_plan nodes ++ flat_map store_tasks (range_with_len 0 (fragments + 1)) ++ retrieve_tasks (nodes - 1) fragments
    ++ flat_map (retrieve_tasks (nodes - 1)) (range_with_len 0 fragments)

abbrev pub large_making : ℕ → ℕ → Pieces → Making
large_making nodes seed pieces = record { nodes = nodes; seed = seed; files = declared_pieces pieces }

abbrev pub large : ℕ → ℕ → ℕ → PlainScenario
large nodes seed size =
    scenario_of (large_making nodes seed (pieces_of (generated seed size))) (large_plan nodes (length (pieces_of (generated seed size)).fragments))
