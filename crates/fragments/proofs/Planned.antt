-- The large scenario keeps the rules of scenarios: the names of its files differ, and its tasks are within the limits.
use Rattle.std.proofs.Common.{◌≡◌, ◌≢◌, ◌<◌, ◌≤◌, ℕ, suc, ◌+◌, ◌-◌, ◌*◌, true, IsTrue, List, [], ◌∷◌, ◌++◌, length, length-append, codes}
use Rattle.std.proofs.Common.{map, get_or, AllPairs}
use Rattle.std.proofs.Common.{refl, sym, subst, ap, ◌∙◌, zero-add, arith, add-one, append_assoc, append-nil, drop, drop-cons}
use Rattle.std.specs.List.{flat_map, range_with_len}
use Rattle.std.proofs.lemmas.List.{map-append, length-take, drop_all}
use Rattle.std.proofs.lemmas.List.FromFn.{length-map-range_with_len, length-range_with_len, get_or-map-range_with_len}
use Rattle.std.proofs.lemmas.List.Quantifiers.{all_pairs_push}
use Rattle.overlay_rules.proofs.Each.{Each, Each-append}
use Rattle.scenario_reader.specs.Spelling.{is_name, is_name_byte}
use Rattle.schedule.specs.declared.file.MadeFile.{MadeFile}
use Rattle.schedule.specs.declared.task.Task.{Task}
use Rattle.schedule.specs.Making.{Making, IsMaking, AreTasks, scenario_of}
use Rattle.schedule.specs.Plan.{IsTask, deliveries_in, join_plan}
use Rattle.schedule.proofs.Keeping.{join_plan_is_tasks, join_plan_is_few, deliveries-append, by_recursion, each_in_range, Each-flat_map}
use Rattle.schedule.proofs.Names.{name_spelled, name_tells}
use Rattle.fragments.specs.declared.piece.Piece.{Piece}
use Rattle.fragments.specs.declared.piece.Pieces.{Pieces}
use Rattle.std.specs.Int.{div_ceil}
use Rattle.schedule.specs.Words.{stream_bytes}
use Rattle.fragments.specs.Pieces.{fragment, fragment_count, pieces_of}
use Rattle.fragments.proofs.Returning.{count_few}
use Rattle.fragments.specs.Large.{generated, generated_bytes, declared, fragment_label, declared_from, declared_pieces, store_tasks, retrieve_tasks}
use Rattle.fragments.specs.Large.{large_plan, large_making, large}

-- ---- names

letter_p : is_name_byte 112 ≡ true
unfolding is_name_byte
letter_p = refl

pub label_spelled : (name : List ℕ) (i : ℕ) → name ≡ fragment_label i → i < 204 → IsTrue (is_name name)
label_spelled name i named few = subst (λ n. IsTrue (is_name n)) (sym named) (name_spelled 112 i letter_p (omega arith))

pub x_spelled : IsTrue (is_name (codes "x"))
unfolding is_name_byte
x_spelled = refl

abbrev names_in : List MadeFile → List (List ℕ)
names_in files = map (λ (made : MadeFile). made.name) files

labels : (i : ℕ) (pieces : List Piece) → names_in (declared_from i pieces) ≡ map fragment_label (range_with_len i (length pieces))
labels i [] = refl
labels i (p ∷ pieces) = ap (λ (names : List (List ℕ)). fragment_label i ∷ names) (labels (i + 1) pieces)

label_at : (n k : ℕ) (d : List ℕ) → k < n → get_or (map fragment_label (range_with_len 0 n)) k d ≡ fragment_label k
label_at n k d h = get_or-map-range_with_len fragment_label 0 n k k d h (zero-add k)

labels_differ : (n : ℕ) → n ≤ 204 → AllPairs ◌≢◌ (map fragment_label (range_with_len 0 n))
labels_differ n few i j d lt within e =
    let size = length-map-range_with_len fragment_label 0 n in
    let same = name_tells 112 i j (omega arith) (omega arith) (sym (label_at n i d (omega arith)) ∙ e ∙ label_at n j d (omega arith)) in
    absurd (omega arith)

not_less : (a b : ℕ) → a ≡ b → a < b → ⊥
not_less a b e lt = omega arith

abbrev first_letter : List ℕ → ℕ
first_letter [] = 0
first_letter (c ∷ cs) = c

not_x : (n k : ℕ) (d : List ℕ) → k < length (map fragment_label (range_with_len 0 n)) → get_or (map fragment_label (range_with_len 0 n)) k d ≢ codes "x"
not_x n k d within e = differ (sym (label_at n k d (let size = length-map-range_with_len fragment_label 0 n in omega arith)) ∙ e)
  where
    differ : fragment_label k ≡ codes "x" → ⊥
    differ same = not_less 112 120 (ap first_letter same) (omega arith)

pub names_differ : (pieces : Pieces) → length pieces.fragments ≤ 204 → AllPairs ◌≢◌ (names_in (declared_pieces pieces))
names_differ pieces few =
    subst (λ names. AllPairs ◌≢◌ names)
    (ap (λ (names : List (List ℕ)). names ++ codes "x" ∷ []) (sym (labels 0 pieces.fragments)) ∙
    sym (map-append (λ (made : MadeFile). made.name) (declared_from 0 pieces.fragments) (declared (codes "x") pieces.index ∷ [])))
    (all_pairs_push ◌≢◌ (map fragment_label (range_with_len 0 (length pieces.fragments))) (codes "x") (labels_differ (length pieces.fragments) few)
    (λ k d within. not_x (length pieces.fragments) k d within))

length_declared : (i : ℕ) (pieces : List Piece) → length (declared_from i pieces) ≡ length pieces
length_declared i [] = refl
length_declared i (p ∷ pieces) = ap suc (length_declared (i + 1) pieces)

pub length_of_all : (pieces : Pieces) → length (declared_pieces pieces) ≡ length pieces.fragments + 1
length_of_all pieces =
    let fragments = length_declared 0 pieces.fragments in
    let sum = length-append (declared_from 0 pieces.fragments) (declared (codes "x") pieces.index ∷ []) in omega arith

-- ---- fragments are declared one after another

pub declare_more : (i : ℕ) (before now next : List MadeFile) (pieces : List Piece) (d : Piece) (file : MadeFile) → i < length pieces →
    now ++ declared_from i (drop i pieces) ≡ before ++ declared_from 0 pieces → next ≡ now ++ file ∷ [] →
    file ≡ declared (fragment_label i) (get_or pieces i d) →
    next ++ declared_from (i + 1) (drop (i + 1) pieces) ≡ before ++ declared_from 0 pieces
declare_more i before now next pieces d file h at is same =
    ap (λ (files : List MadeFile). files ++ declared_from (i + 1) (drop (i + 1) pieces)) (is ∙ ap (λ (f : MadeFile). now ++ f ∷ []) same) ∙
    append_assoc now (declared (fragment_label i) (get_or pieces i d) ∷ []) (declared_from (i + 1) (drop (i + 1) pieces)) ∙
    ap (λ n. now ++ declared (fragment_label i) (get_or pieces i d) ∷ declared_from (i + 1) (drop n pieces)) (add-one i) ∙
    ap (λ (ps : List Piece). now ++ declared_from i ps) (sym (drop-cons pieces i d h)) ∙ at

pub all_declared : (i : ℕ) (before now : List MadeFile) (pieces : List Piece) → length pieces ≤ i →
    now ++ declared_from i (drop i pieces) ≡ before ++ declared_from 0 pieces → now ≡ before ++ declared_from 0 pieces
all_declared i before now pieces h at =
    sym (append-nil now) ∙ ap (λ (ps : List Piece). now ++ declared_from i ps) (sym (drop_all i pieces h)) ∙ at

-- ---- tasks

stores_few : (ns : List ℕ) → (deliveries_in (flat_map store_tasks ns) ≡ 200 * length ns) × (length (flat_map store_tasks ns) ≡ 2 * length ns)
stores_few [] = (omega arith, omega arith)
stores_few (n ∷ ns) = let rest = stores_few ns in let few = rest.0 in let short = rest.1 in (omega arith, omega arith)

retrieves_few : (node : ℕ) (ns : List ℕ) →
    (deliveries_in (flat_map (retrieve_tasks node) ns) ≡ 200 * length ns) × (length (flat_map (retrieve_tasks node) ns) ≡ 2 * length ns)
retrieves_few node [] = (omega arith, omega arith)
retrieves_few node (n ∷ ns) = let rest = retrieves_few node ns in let few = rest.0 in let short = rest.1 in (omega arith, omega arith)

tasks_few : (nodes n : ℕ) → nodes ≤ 256 → n ≤ 204 → (deliveries_in (large_plan nodes n) ≤ 1000000) × (length (large_plan nodes n) ≤ 10000)
tasks_few nodes n few fits =
    let joins = join_plan_is_few nodes few in let joins_few = joins.0 in let joins_short = joins.1 in
    let stores = stores_few (range_with_len 0 (n + 1)) in let stores_are = stores.0 in let stores_short = stores.1 in
    let fetches = retrieves_few (nodes - 1) (range_with_len 0 n) in let fetches_are = fetches.0 in let fetches_short = fetches.1 in
    let stored = length-range_with_len 0 (n + 1) in
    let fetched = length-range_with_len 0 n in
    let front : List Task = join_plan nodes ++ flat_map store_tasks (range_with_len 0 (n + 1)) in
    let one = deliveries-append (join_plan nodes) (flat_map store_tasks (range_with_len 0 (n + 1))) in
    let two = deliveries-append front (retrieve_tasks (nodes - 1) n) in
    let three = deliveries-append (front ++ retrieve_tasks (nodes - 1) n) (flat_map (retrieve_tasks (nodes - 1)) (range_with_len 0 n)) in
    let long_one = length-append (join_plan nodes) (flat_map store_tasks (range_with_len 0 (n + 1))) in
    let long_two = length-append front (retrieve_tasks (nodes - 1) n) in
    let long_three = length-append (front ++ retrieve_tasks (nodes - 1) n) (flat_map (retrieve_tasks (nodes - 1)) (range_with_len 0 n)) in
    (omega arith, omega arith)

are_tasks : (nodes n : ℕ) → 2 ≤ nodes → Each (IsTask nodes (n + 1)) (large_plan nodes n)
are_tasks nodes n some =
    Each-append P (join_plan nodes ++ flat_map store_tasks (range_with_len 0 (n + 1)) ++ retrieve_tasks (nodes - 1) n) _
    (Each-append P (join_plan nodes ++ flat_map store_tasks (range_with_len 0 (n + 1))) (retrieve_tasks (nodes - 1) n)
    (Each-append P (join_plan nodes) (flat_map store_tasks (range_with_len 0 (n + 1))) (join_plan_is_tasks nodes (n + 1))
    (Each-flat_map P store_tasks (range_with_len 0 (n + 1))
    (each_in_range (λ k. Each P (store_tasks k)) 0 (n + 1) (λ k low high. ((omega arith, omega arith, omega arith), (omega arith, tt))))))
    (retrieve n (omega arith)))
    (Each-flat_map P (retrieve_tasks (nodes - 1)) (range_with_len 0 n)
    (each_in_range (λ k. Each P (retrieve_tasks (nodes - 1) k)) 0 n (λ k low high. retrieve k (omega arith))))
  where
    P : Task → Type 0
    P task = IsTask nodes (n + 1) task

    retrieve : (k : ℕ) → k < n + 1 → Each P (retrieve_tasks (nodes - 1) k)
    retrieve k h = ((omega arith, h), (omega arith, tt))

pub large_tasks : (m : Making) (n : ℕ) → 2 ≤ m.nodes → m.nodes ≤ 256 → n ≤ 204 → length m.files ≡ n + 1 → AreTasks m (large_plan m.nodes n)
large_tasks m n some few fits files = record {
  each = by_recursion (IsTask m.nodes (length m.files)) (large_plan m.nodes n)
      (subst (λ count. Each (IsTask m.nodes count) (large_plan m.nodes n)) (sym files) (are_tasks m.nodes n some));
  few = (tasks_few m.nodes n few fits).1;
  deliveries = (tasks_few m.nodes n few fits).0;
}

-- ---- what is generated

pub fragments_few : (seed size : ℕ) → size ≤ 835584 → length (pieces_of (generated seed size)).fragments ≤ 204
fragments_few seed size h =
    let bytes = length-take size (stream_bytes seed 1 (div_ceil size 4)) in
    let counted = length-map-range_with_len (fragment (generated seed size)) 0 (fragment_count (length (generated_bytes seed size))) in
    let few = (count_few (length (generated_bytes seed size)) (omega arith)).0 in omega arith

pub pieces_few : (seed size : ℕ) (pieces : Pieces) → pieces ≡ pieces_of (generated seed size) → size ≤ 835584 → length pieces.fragments ≤ 204
pieces_few seed size pieces is h = subst (λ (p : Pieces). length p.fragments ≤ 204) (sym is) (fragments_few seed size h)

-- what was made, of which files, and the tasks
pub record IsMade (nodes seed n : ℕ) (pieces : Pieces) (m : Making) (files : List MadeFile) (tasks : List Task) : Type 0 where
  pub made : m ≡ record { nodes = nodes; seed = seed; files = files }
  pub files_are : files ≡ declared_pieces pieces
  pub planned : tasks ≡ large_plan nodes n
  pub counted : n ≡ length pieces.fragments

making_is : (nodes seed n : ℕ) (pieces : Pieces) (m : Making) (files : List MadeFile) (tasks : List Task) → IsMade nodes seed n pieces m files tasks →
    m ≡ large_making nodes seed pieces
making_is nodes seed n pieces m files tasks h = h.made ∙ ap (λ (fs : List MadeFile). record { nodes = nodes; seed = seed; files = fs }) h.files_are

tasks_are : (nodes seed n : ℕ) (pieces : Pieces) (m : Making) (files : List MadeFile) (tasks : List Task) → IsMade nodes seed n pieces m files tasks →
    tasks ≡ large_plan nodes (length pieces.fragments)
tasks_are nodes seed n pieces m files tasks h = h.planned ∙ ap (λ k. large_plan nodes k) h.counted

pub is_making : (nodes seed n : ℕ) (pieces : Pieces) (m : Making) (files : List MadeFile) (tasks : List Task) → IsMade nodes seed n pieces m files tasks →
    2 ≤ nodes → nodes ≤ 256 → length pieces.fragments ≤ 204 → IsMaking m
is_making nodes seed n pieces m files tasks h some few fits =
    subst (λ (k : Making). IsMaking k) (sym (making_is nodes seed n pieces m files tasks h))
    (record {
      some = some;
      nodes_few = few;
      files_few = let all = length_of_all pieces in omega arith;
      names_differ = names_differ pieces fits;
    })

pub are_large_tasks : (nodes seed n : ℕ) (pieces : Pieces) (m : Making) (files : List MadeFile) (tasks : List Task) → IsMade nodes seed n pieces m files tasks →
    2 ≤ nodes → nodes ≤ 256 → length pieces.fragments ≤ 204 → AreTasks m tasks
are_large_tasks nodes seed n pieces m files tasks h some few fits =
    subst (λ (k : Making). AreTasks k tasks) (sym (making_is nodes seed n pieces m files tasks h))
    (subst (λ (ts : List Task). AreTasks (large_making nodes seed pieces) ts) (sym (tasks_are nodes seed n pieces m files tasks h))
    (large_tasks (large_making nodes seed pieces) (length pieces.fragments) some few fits (length_of_all pieces)))

pub scenario_is : (nodes seed size n : ℕ) (pieces : Pieces) (m : Making) (files : List MadeFile) (tasks : List Task) →
    IsMade nodes seed n pieces m files tasks → pieces ≡ pieces_of (generated seed size) → scenario_of m tasks ≡ large nodes seed size
scenario_is nodes seed size n pieces m files tasks h is =
    ap (λ (k : Making). scenario_of k tasks) (making_is nodes seed n pieces m files tasks h) ∙
    ap (λ (ts : List Task). scenario_of (large_making nodes seed pieces) ts) (tasks_are nodes seed n pieces m files tasks h) ∙
    ap (λ (p : Pieces). scenario_of (large_making nodes seed p) (large_plan nodes (length p.fragments))) is
