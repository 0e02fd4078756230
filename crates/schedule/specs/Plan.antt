-- What a made scenario does, line by line, in the numbers of its nodes and files.
use Rattle.std.specs.Prelude.{ℕ, ◌+◌, ◌-◌, ◌%◌, ◌<◌, ◌≤◌, List, [], ◌∷◌, ◌++◌, map}
use Rattle.std.specs.List.{flat_map, range_with_len}
use Rattle.wire_msg.specs.declared.limits.TheConstants.{MOST_COPIES}
use Rattle.scenario_reader.specs.declared.limits.TheConstants.{MOST_DELIVERIES}
use Rattle.schedule.specs.declared.task.TheConstants.{MADE_FILES}
use Rattle.schedule.specs.declared.task.Task.{Task}
use Rattle.schedule.specs.declared.task.Task.TheVariants.{Join, Insert, Fetch, Settle, Shuffle}

-- groups of three, the last perhaps smaller
abbrev pub in_threes : List ℕ → List (List ℕ)
in_threes [] = []
in_threes (a ∷ []) = (a ∷ []) ∷ []
in_threes (a ∷ b ∷ []) = (a ∷ b ∷ []) ∷ []
in_threes (a ∷ b ∷ c ∷ more) = (a ∷ b ∷ c ∷ []) ∷ in_threes more

-- a member joins, and all messages that wait are delivered
abbrev pub join_alone : ℕ → List Task
join_alone node = Join node ∷ Settle 2000 ∷ []

-- the members of a group join beside one another, in a random order of deliveries, and then each again alone
abbrev pub group_tasks : List ℕ → List Task
group_tasks members = map (λ node. Join node) members ++ (Shuffle 40 ∷ Settle 2000 ∷ flat_map join_alone members)

abbrev pub insert_tasks : ℕ → List Task
insert_tasks file = Insert file (1 + file % 3) ∷ Settle 2000 ∷ []

abbrev pub fetch_tasks : ℕ → ℕ → List Task
fetch_tasks nodes file = Fetch (file % nodes) file ∷ Settle 2000 ∷ []

-- nodes 1 and on join in groups; each file is inserted; each file is fetched
abbrev pub join_plan : ℕ → List Task
join_plan nodes = flat_map group_tasks (in_threes (range_with_len 1 (nodes - 1)))

abbrev pub plan : ℕ → List Task
plan nodes =
    join_plan nodes ++ (flat_map insert_tasks (range_with_len 0 MADE_FILES) ++ flat_map (fetch_tasks nodes) (range_with_len 0 MADE_FILES))

-- a task of so many nodes and files
abbrev pub IsTask : ℕ → ℕ → Task → Type 0
IsTask nodes files (Join node) = node < nodes
IsTask nodes files (Insert file copies) = (file < files) × (1 ≤ copies) × (copies ≤ MOST_COPIES)
IsTask nodes files (Fetch node file) = (node < nodes) × (file < files)
IsTask nodes files (Settle count) = count ≤ MOST_DELIVERIES
IsTask nodes files (Shuffle count) = count ≤ MOST_DELIVERIES

-- deliveries that tasks may come to, with one copy of each
abbrev pub deliveries_of : Task → ℕ
deliveries_of (Join node) = 0
deliveries_of (Insert file copies) = 0
deliveries_of (Fetch node file) = 0
deliveries_of (Settle count) = count
deliveries_of (Shuffle count) = count

abbrev pub deliveries_in : List Task → ℕ
deliveries_in [] = 0
deliveries_in (task ∷ tasks) = deliveries_of task + deliveries_in tasks
