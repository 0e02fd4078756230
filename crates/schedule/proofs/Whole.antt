-- The made scenario's nodes, files and tasks are within the limits.
use Rattle.std.proofs.Common.{◌≡◌, ◌≤◌, ℕ, List, sym, subst, ap, ◌∙◌, arith}
use Rattle.std.proofs.lemmas.List.FromFn.{length-map-range_with_len}
use Rattle.schedule.specs.declared.file.MadeFile.{MadeFile}
use Rattle.schedule.specs.declared.task.Task.{Task}
use Rattle.schedule.specs.Made.{made_file, files_made}
use Rattle.schedule.specs.Making.{Making, IsMaking, AreTasks}
use Rattle.schedule.specs.Plan.{plan}
use Rattle.schedule.proofs.Keeping.{plan_may_be_made}
use Rattle.schedule.proofs.Names.{file_names_differ}

abbrev making : ℕ → ℕ → Making
making nodes seed = record { nodes = nodes; seed = seed; files = files_made nodes seed }

same_making : (nodes seed : ℕ) (m : Making) (files : List MadeFile) → m ≡ record { nodes = nodes; seed = seed; files = files } →
    files ≡ files_made nodes seed → making nodes seed ≡ m
same_making nodes seed m files is same = sym (is ∙ ap (λ fs. record { nodes = nodes; seed = seed; files = fs }) same)

pub is_making : (nodes seed : ℕ) (m : Making) (files : List MadeFile) → m ≡ record { nodes = nodes; seed = seed; files = files } →
    files ≡ files_made nodes seed → 2 ≤ nodes → nodes ≤ 256 → IsMaking m
is_making nodes seed m files is same some few =
    subst (λ (k : Making). IsMaking k) (same_making nodes seed m files is same)
    (record {
      some = some;
      nodes_few = few;
      files_few = let twenty = length-map-range_with_len (made_file nodes seed) 0 20 in omega arith;
      names_differ = file_names_differ nodes seed;
    })

pub are_tasks : (nodes seed : ℕ) (m : Making) (files : List MadeFile) (tasks : List Task) → m ≡ record { nodes = nodes; seed = seed; files = files } →
    files ≡ files_made nodes seed → tasks ≡ plan nodes → 2 ≤ nodes → nodes ≤ 256 → AreTasks m tasks
are_tasks nodes seed m files tasks is same planned some few =
    subst (λ (k : Making). AreTasks k tasks) (same_making nodes seed m files is same)
    (subst (λ (ts : List Task). AreTasks (making nodes seed) ts) (sym planned)
    (plan_may_be_made (making nodes seed) some few (length-map-range_with_len (made_file nodes seed) 0 20)))
