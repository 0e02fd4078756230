-- The actions of a made scenario keep the rules of scenarios: they name declared nodes and files, and their deliveries are few.
use Rattle.std.proofs.Common.{◌≡◌, ◌<◌, ◌≤◌, ℕ, zero, suc, ◌+◌, ◌-◌, ◌*◌, ◌^◌, List, [], ◌∷◌, ◌++◌, length, length-append, map, get_or}
use Rattle.std.proofs.Common.{slice_index_or, Contains, None, IsNone}
use Rattle.std.proofs.Common.{subst, refl, sym, ap, ◌∙◌, zero-add, add-zero, arith}
use Rattle.std.specs.List.{flat_map, range_with_len, AllByRecursion}
use Rattle.std.proofs.Math.Nat.{mod-lt}
use Rattle.std.proofs.lemmas.List.{get_or-map, length-map}
use Rattle.std.proofs.lemmas.List.FromFn.{length-map-range_with_len, length-range_with_len, get_or-map-range_with_len}
use Rattle.overlay_rules.proofs.Each.{Each, Each-append}
use Rattle.scenario_reader.specs.declared.action.Action.{Action}
use Rattle.scenario_reader.specs.declared.node.NodeLine.{NodeLine}
use Rattle.scenario_reader.specs.declared.node.FileLine.{FileLine}
use Rattle.scenario_reader.specs.declared.tally.Tally.{Tally}
use Rattle.scenario_reader.specs.Plain.{ids, Draft}
use Rattle.scenario_reader.specs.Rules.{AreActions, MayFollow, IsWhat, IsFile, IsFileOf, MayFound}
use Rattle.scenario_reader.specs.Tallies.{start, tallied, tally_from}
use Rattle.schedule.specs.declared.task.Task.{Task}
use Rattle.schedule.specs.declared.task.Task.TheVariants.{Join, Insert, Fetch, Settle, Shuffle}
use Rattle.schedule.specs.declared.file.MadeFile.{MadeFile}
use Rattle.schedule.specs.Making.{Making, IsMaking, AreTasks, node_id, node_line, no_file, file_at, file_line, node_lines, file_lines, what_of}
use Rattle.schedule.specs.Making.{number_after, written}
use Rattle.schedule.specs.Plan.{IsTask, deliveries_of, deliveries_in, in_threes, join_alone, group_tasks, insert_tasks, fetch_tasks, join_plan, plan}

-- ---- what tasks name is declared

pub node_there : (nodes seed i : ℕ) → i < nodes → Contains (ids (node_lines nodes seed)) (node_id seed i)
node_there nodes seed i h = (
  i,
  (let named = length-map {A = NodeLine} {B = ℕ} (node_lines nodes seed) (λ node. node.id) in let lines = inside in omega arith),
  get_or-map (λ (node : NodeLine). node.id) (node_lines nodes seed) i (node_line seed i) (node_id seed i) inside ∙
      ap (λ (node : NodeLine). node.id) (get_or-map-range_with_len (node_line seed) 0 nodes i i (node_line seed i) h (zero-add i)),
)
  where
    inside : i < length (node_lines nodes seed)
    inside = let size = length-map-range_with_len (node_line seed) 0 nodes in omega arith

-- ---- files, one a line

pub length_of_lines : (line : ℕ) (files : List MadeFile) → length (file_lines line files) ≡ length files
length_of_lines line [] = refl
length_of_lines line (made ∷ files) = ap suc (length_of_lines (line + 1) files)

line_there : (line : ℕ) (files : List MadeFile) (j : ℕ) (d : FileLine) → j < length files →
    get_or (file_lines line files) j d ≡ file_line (line + j) (slice_index_or files j no_file)
line_there line [] j d h = absurd (omega arith)
line_there line (made ∷ files) zero d h = ap (λ n. file_line n made) (sym (add-zero line))
line_there line (made ∷ files) (suc j) d h =
    line_there (line + 1) files j d (omega arith) ∙ ap (λ n. file_line n (slice_index_or files j no_file)) same
  where
    same : line + 1 + j ≡ line + suc j
    same = omega arith

abbrev lines_of : Making → List FileLine
lines_of m = file_lines (m.nodes + 1) m.files

file_inside : (m : Making) (j : ℕ) → j < length m.files → j < length (lines_of m)
file_inside m j h = let size = length_of_lines (m.nodes + 1) m.files in omega arith

file_there : (m : Making) (j : ℕ) → j < length m.files → IsFile (lines_of m) (file_at m j).file
file_there m j h =
    (j, file_line (m.nodes + 1 + j) (file_at m j), file_inside m j h, line_there (m.nodes + 1) m.files j (file_line (m.nodes + 1 + j) (file_at m j)) h, refl)

file_of_there : (m : Making) (j : ℕ) → j < length m.files → IsFileOf (lines_of m) (file_at m j).file (file_at m j).bytes
file_of_there m j h = (
  j,
  file_line (m.nodes + 1 + j) (file_at m j),
  file_inside m j h,
  line_there (m.nodes + 1) m.files j (file_line (m.nodes + 1 + j) (file_at m j)) h,
  (refl, refl),
)

-- ---- tasks one after another

allowed : (m : Making) (number : ℕ) (tally : Tally) (task : Task) → IsTask m.nodes (length m.files) task → 1 ≤ m.nodes → m.seed < 2 ^ 64 →
    number ≡ tally.commands + 1 → IsWhat (node_lines m.nodes m.seed) (lines_of m) tally (what_of m number task)
allowed m number tally (Join node) h some fits next = (next, node_there m.nodes m.seed node h, node_there m.nodes m.seed 0 (omega arith))
allowed m number tally (Insert file copies) h some fits next =
    (next, node_there m.nodes m.seed 0 (omega arith), (h.1, h.2, file_of_there m file h.0))
allowed m number tally (Fetch node file) h some fits next = (next, node_there m.nodes m.seed node h.0, file_there m file h.1)
allowed m number tally (Settle count) h some fits next = h
allowed m number tally (Shuffle count) h some fits next = (fits, h)

-- a task's deliveries are those that the tally counts; it keeps the copies, and counts commands
counted : (m : Making) (number : ℕ) (tally : Tally) (task : Task) → tally.copies ≡ 1 →
    (tallied tally (what_of m number task)).deliveries ≡ tally.deliveries + deliveries_of task
counted m number tally (Join node) one = omega arith
counted m number tally (Insert file copies) one = omega arith
counted m number tally (Fetch node file) one = omega arith
counted m number tally (Settle count) one = rw one (omega arith)
counted m number tally (Shuffle count) one = refl

copies_kept : (m : Making) (number : ℕ) (tally : Tally) (task : Task) → (tallied tally (what_of m number task)).copies ≡ tally.copies
copies_kept m number tally (Join node) = refl
copies_kept m number tally (Insert file copies) = refl
copies_kept m number tally (Fetch node file) = refl
copies_kept m number tally (Settle count) = refl
copies_kept m number tally (Shuffle count) = refl

number_kept : (m : Making) (number : ℕ) (tally : Tally) (task : Task) → number ≡ tally.commands + 1 →
    number_after task number ≡ (tallied tally (what_of m number task)).commands + 1
number_kept m number tally (Join node) next = omega arith
number_kept m number tally (Insert file copies) next = omega arith
number_kept m number tally (Fetch node file) next = omega arith
number_kept m number tally (Settle count) next = next
number_kept m number tally (Shuffle count) next = next

tasks_keep : (m : Making) (number line : ℕ) (tally : Tally) (tasks : List Task) → AllByRecursion (IsTask m.nodes (length m.files)) tasks → 1 ≤ m.nodes →
    m.seed < 2 ^ 64 → number ≡ tally.commands + 1 → tally.copies ≡ 1 → tally.deliveries + deliveries_in tasks ≤ 1000000 →
    AreActions (node_lines m.nodes m.seed) (lines_of m) tally (written m number line tasks)
tasks_keep m number line tally [] each some fits next one few = tt
tasks_keep m number line tally (task ∷ tasks) each some fits next one few = (
  record {
    allowed = allowed m number tally task each.0 some fits next;
    deliveries = let sum = counted m number tally task one in omega arith;
  },
  tasks_keep m (number_after task number) (line + 1) (tallied tally (what_of m number task)) tasks each.1 some fits
      (number_kept m number tally task next) (copies_kept m number tally task ∙ one)
      (let sum = counted m number tally task one in omega arith),
)

-- ---- the plan's tasks

pub Each-flat_map : {A B : Type 0} (P : B → Type 0) (f : A → List B) (xs : List A) → Each (λ x. Each P (f x)) xs → Each P (flat_map f xs)
Each-flat_map P f [] h = tt
Each-flat_map P f (x ∷ xs) h = Each-append P (f x) (flat_map f xs) h.0 (Each-flat_map P f xs h.1)

pub each_in_range : (P : ℕ → Type 0) (a n : ℕ) → ((k : ℕ) → a ≤ k → k < a + n → P k) → Each P (range_with_len a n)
each_in_range P a zero h = tt
each_in_range P a (suc n) h = (h a (omega arith) (omega arith), each_in_range P (a + 1) n (λ k low high. h k (omega arith) (omega arith)))

each_in_threes : (P : ℕ → Type 0) (xs : List ℕ) → Each P xs → Each (λ (ys : List ℕ). Each P ys) (in_threes xs)
each_in_threes P [] h = tt
each_in_threes P (a ∷ []) h = (h, tt)
each_in_threes P (a ∷ b ∷ []) h = (h, tt)
each_in_threes P (a ∷ b ∷ c ∷ more) h = ((h.0, (h.1.0, (h.1.1.0, tt))), each_in_threes P more h.1.1.1)

joins_are_tasks : (nodes files : ℕ) (members : List ℕ) → Each (λ i. i < nodes) members → Each (IsTask nodes files) (map (λ node. Join node) members)
joins_are_tasks nodes files [] h = tt
joins_are_tasks nodes files (i ∷ members) h = (h.0, joins_are_tasks nodes files members h.1)

alone_are_tasks : (nodes files : ℕ) (members : List ℕ) → Each (λ i. i < nodes) members → Each (IsTask nodes files) (flat_map join_alone members)
alone_are_tasks nodes files [] h = tt
alone_are_tasks nodes files (i ∷ members) h = (h.0, (omega arith, alone_are_tasks nodes files members h.1))

group_is_tasks : (nodes files : ℕ) (members : List ℕ) → Each (λ i. i < nodes) members → Each (IsTask nodes files) (group_tasks members)
group_is_tasks nodes files members h =
    Each-append (IsTask nodes files) (map (λ node. Join node) members) _ (joins_are_tasks nodes files members h)
    (omega arith, (omega arith, alone_are_tasks nodes files members h))

groups_are_tasks : (nodes files : ℕ) (groups : List (List ℕ)) → Each (λ (members : List ℕ). Each (λ i. i < nodes) members) groups →
    Each (IsTask nodes files) (flat_map group_tasks groups)
groups_are_tasks nodes files [] h = tt
groups_are_tasks nodes files (members ∷ groups) h =
    Each-append (IsTask nodes files) (group_tasks members) (flat_map group_tasks groups) (group_is_tasks nodes files members h.0)
    (groups_are_tasks nodes files groups h.1)

inserts_are_tasks : (nodes : ℕ) (files : List ℕ) → Each (λ j. j < 20) files → Each (IsTask nodes 20) (flat_map insert_tasks files)
inserts_are_tasks nodes [] h = tt
inserts_are_tasks nodes (j ∷ files) h = ((h.0, omega arith, omega arith), (omega arith, inserts_are_tasks nodes files h.1))

fetches_are_tasks : (nodes : ℕ) (files : List ℕ) → 1 ≤ nodes → Each (λ j. j < 20) files → Each (IsTask nodes 20) (flat_map (fetch_tasks nodes) files)
fetches_are_tasks nodes [] some h = tt
fetches_are_tasks nodes (j ∷ files) some h = ((mod-lt j (some), h.0), (omega arith, fetches_are_tasks nodes files some h.1))

-- joins name no file
pub join_plan_is_tasks : (nodes files : ℕ) → Each (IsTask nodes files) (join_plan nodes)
join_plan_is_tasks nodes files =
    groups_are_tasks nodes files (in_threes (range_with_len 1 (nodes - 1)))
    (each_in_threes (λ i. i < nodes) (range_with_len 1 (nodes - 1)) (each_in_range (λ i. i < nodes) 1 (nodes - 1) (λ k low high. omega arith)))

plan_is_tasks : (nodes : ℕ) → 2 ≤ nodes → Each (IsTask nodes 20) (plan nodes)
plan_is_tasks nodes some =
    Each-append (IsTask nodes 20) (join_plan nodes) _ (join_plan_is_tasks nodes 20)
    (Each-append (IsTask nodes 20) (flat_map insert_tasks (range_with_len 0 20)) (flat_map (fetch_tasks nodes) (range_with_len 0 20))
    (inserts_are_tasks nodes (range_with_len 0 20) files) (fetches_are_tasks nodes (range_with_len 0 20) (omega arith) files))
  where
    files : Each (λ j. j < 20) (range_with_len 0 20)
    files = each_in_range (λ j. j < 20) 0 20 (λ k low high. omega arith)

pub by_recursion : {A : Type 0} (P : A → Type 0) (xs : List A) → Each P xs → AllByRecursion P xs
by_recursion P [] h = tt
by_recursion P (x ∷ xs) h = (h.0, by_recursion P xs h.1)

-- ---- how many they are

pub deliveries-append : (xs ys : List Task) → deliveries_in (xs ++ ys) ≡ deliveries_in xs + deliveries_in ys
deliveries-append [] ys = sym (zero-add (deliveries_in ys))
deliveries-append (x ∷ xs) ys = let more = deliveries-append xs ys in omega arith

groups_few : (xs : List ℕ) → (deliveries_in (flat_map group_tasks (in_threes xs)) ≤ 2680 * length xs + 1360)
    × (length (flat_map group_tasks (in_threes xs)) ≤ 11 * length xs)
groups_few [] = (omega arith, omega arith)
groups_few (a ∷ []) = (omega arith, omega arith)
groups_few (a ∷ b ∷ []) = (omega arith, omega arith)
groups_few (a ∷ b ∷ c ∷ more) =
    let rest = groups_few more in let few = rest.0 in let short = rest.1 in
    (omega arith, omega arith)

fetches_few : (nodes : ℕ) (files : List ℕ) →
    (deliveries_in (flat_map (fetch_tasks nodes) files) ≡ 2000 * length files) × (length (flat_map (fetch_tasks nodes) files) ≡ 2 * length files)
fetches_few nodes [] = (omega arith, omega arith)
fetches_few nodes (j ∷ files) = let rest = fetches_few nodes files in let few = rest.0 in let short = rest.1 in (omega arith, omega arith)

inserts_few : (files : List ℕ) → (deliveries_in (flat_map insert_tasks files) ≡ 2000 * length files) × (length (flat_map insert_tasks files) ≡ 2 * length files)
inserts_few [] = (omega arith, omega arith)
inserts_few (j ∷ files) = let rest = inserts_few files in let few = rest.0 in let short = rest.1 in (omega arith, omega arith)

pub join_plan_is_few : (nodes : ℕ) → nodes ≤ 256 → (deliveries_in (join_plan nodes) ≤ 684760) × (length (join_plan nodes) ≤ 2805)
join_plan_is_few nodes h =
    let size = length-range_with_len 1 (nodes - 1) in
    let joins = groups_few (range_with_len 1 (nodes - 1)) in let few = joins.0 in let short = joins.1 in
    (omega arith, omega arith)

plan_is_few : (nodes : ℕ) → nodes ≤ 256 → (deliveries_in (plan nodes) ≤ 1000000) × (length (plan nodes) ≤ 10000)
plan_is_few nodes h =
    let joins = join_plan_is_few nodes h in let joins_few = joins.0 in let joins_short = joins.1 in
    let inserts = inserts_few (range_with_len 0 20) in let inserts_are = inserts.0 in let inserts_short = inserts.1 in
    let fetches = fetches_few nodes (range_with_len 0 20) in let fetches_are = fetches.0 in let fetches_short = fetches.1 in
    let twenty = length-range_with_len 0 20 in
    let all = deliveries-append (join_plan nodes) (flat_map insert_tasks (range_with_len 0 20) ++ flat_map (fetch_tasks nodes) (range_with_len 0 20)) in
    let files = deliveries-append (flat_map insert_tasks (range_with_len 0 20)) (flat_map (fetch_tasks nodes) (range_with_len 0 20)) in
    let long = length-append (join_plan nodes) (flat_map insert_tasks (range_with_len 0 20) ++ flat_map (fetch_tasks nodes) (range_with_len 0 20)) in
    let longer = length-append (flat_map insert_tasks (range_with_len 0 20)) (flat_map (fetch_tasks nodes) (range_with_len 0 20)) in
    (omega arith, omega arith)

pub plan_may_be_made : (m : Making) → 2 ≤ m.nodes → m.nodes ≤ 256 → length m.files ≡ 20 → AreTasks m (plan m.nodes)
plan_may_be_made m some few twenty = record {
  each = subst (λ n. AllByRecursion (IsTask m.nodes n) (plan m.nodes)) (sym twenty)
      (by_recursion (IsTask m.nodes 20) (plan m.nodes) (plan_is_tasks m.nodes some));
  few = (plan_is_few m.nodes few).1;
  deliveries = (plan_is_few m.nodes few).0;
}

-- ---- the actions as they are added

pub actions_keep : (m : Making) (tasks : List Task) (line : ℕ) → IsMaking m → m.seed < 2 ^ 64 → AreTasks m tasks →
    AreActions (node_lines m.nodes m.seed) (file_lines (m.nodes + 1) m.files) start (written m 1 line tasks)
actions_keep m tasks line making fits are =
    let some = making.some in let all = are.deliveries in
    tasks_keep m 1 line start tasks are.each (omega arith) fits refl refl (omega arith)

pub follows_behind : (nodes : List NodeLine) (files : List FileLine) (tally : Tally) (xs : List Action) (y : Action) (ys : List Action) →
    AreActions nodes files tally (xs ++ y ∷ ys) → MayFollow nodes files (tally_from tally xs) y.what
follows_behind nodes files tally [] y ys h = h.0
follows_behind nodes files tally (x ∷ xs) y ys h = follows_behind nodes files (tallied tally x.what) xs y ys h.1

-- node 0 may become the founder of the nodes, where there is none
pub may_found : (nodes seed : ℕ) (draft : Draft) (id : ℕ) → 0 < nodes → draft.founder ≡ None → draft.nodes ≡ node_lines nodes seed → id ≡ node_id seed 0 →
    MayFound draft id
may_found nodes seed draft id some none lines is = record {
  first = subst (λ founder. IsNone founder) (sym none) refl;
  declared = subst (λ node. Contains (ids draft.nodes) node) (sym is)
      (subst (λ all. Contains (ids all) (node_id seed 0)) (sym lines) (node_there nodes seed 0 some));
}
