-- The actions of a made scenario are added one after another.
use Rattle.std.proofs.Common.{◌≡◌, ◌<◌, ◌≤◌, ℕ, zero, suc, ◌+◌, List, [], ◌∷◌, ◌++◌, length, drop, get_or, IsSome, sym, subst, ap, ◌∙◌, arith, add-one}
use Rattle.std.proofs.Common.{append_assoc, append-nil, drop-cons}
use Rattle.std.proofs.lemmas.List.{drop_all}
use Rattle.std.specs.List.{AllByRecursion}
use Rattle.scenario_reader.specs.declared.action.Action.{Action}
use Rattle.scenario_reader.specs.declared.action.What.{What}
use Rattle.scenario_reader.specs.declared.node.NodeLine.{NodeLine}
use Rattle.scenario_reader.specs.declared.node.FileLine.{FileLine}
use Rattle.scenario_reader.specs.Effects.{with_action, with_file}
use Rattle.scenario_reader.specs.Plain.{Draft}
use Rattle.scenario_reader.specs.Rules.{AreActions, MayFollow, MayAct}
use Rattle.scenario_reader.specs.Tallies.{start, tally_of}
use Rattle.schedule.specs.declared.task.Task.{Task}
use Rattle.schedule.specs.declared.task.Task.TheVariants.{Join, Insert, Fetch, Settle, Shuffle}
use Rattle.schedule.specs.declared.file.MadeFile.{MadeFile}
use Rattle.schedule.specs.Making.{Making, file_line, file_lines, what_of, number_after, written}
use Rattle.schedule.specs.Plan.{IsTask}
use Rattle.schedule.proofs.Keeping.{follows_behind}

pub task_at : (nodes files : ℕ) (tasks : List Task) (i : ℕ) (d : Task) → AllByRecursion (IsTask nodes files) tasks → i < length tasks →
    IsTask nodes files (get_or tasks i d)
task_at nodes files [] i d each h = absurd (omega arith)
task_at nodes files (x ∷ xs) zero d each h = each.0
task_at nodes files (x ∷ xs) (suc i) d each h = task_at nodes files xs i d each.1 (omega arith)

-- the action of the next task, and those behind it
pub next_action : (m : Making) (number line i : ℕ) (done all : List Action) (tasks : List Task) (d : Task) → i < length tasks →
    done ++ written m number line (drop i tasks) ≡ all →
    done ++ record { line = line; what = what_of m number (get_or tasks i d) } ∷ written m (number_after (get_or tasks i d) number) (line + 1)
    (drop (i + 1) tasks) ≡ all
next_action m number line i done all tasks d h is =
    ap (λ n. done ++ record { line = line; what = what_of m number (get_or tasks i d) } ∷ written m (number_after (get_or tasks i d) number)
    (line + 1) (drop n tasks)) (add-one i) ∙
    ap (λ ts. done ++ written m number line ts) (sym (drop-cons tasks i d h)) ∙ is

pub may_act : (nodes : List NodeLine) (files : List FileLine) (first now : Draft) (action : Action) (rest all : List Action) (w : What) →
    now ≡ record first { actions = now.actions } → first.nodes ≡ nodes → first.files ≡ files → IsSome first.founder →
    AreActions nodes files start all → now.actions ++ action ∷ rest ≡ all → w ≡ action.what → MayAct now w
may_act nodes files first now action rest all w same of_nodes of_files founded rules is said = record {
  founded = let P : Draft → Type 0 = λ d. IsSome d.founder in subst P (sym same) founded;
  follows =
      subst (λ ns. MayFollow ns now.files (tally_of now.actions) w) (sym (ap (λ (d : Draft). d.nodes) same ∙ of_nodes))
      (subst (λ fs. MayFollow nodes fs (tally_of now.actions) w) (sym (ap (λ (d : Draft). d.files) same ∙ of_files))
      (subst (λ v. MayFollow nodes files (tally_of now.actions) v) (sym said)
      (follows_behind nodes files start now.actions action rest (subst (λ acts. AreActions nodes files start acts) (sym is) rules))));
}

pub actions_only : (first now next : Draft) (action : Action) → now ≡ record first { actions = now.actions } → next ≡ with_action now action →
    next ≡ record first { actions = next.actions }
actions_only first now next action same is =
    is ∙ ap (λ d. with_action d action) same ∙ ap (λ acts. record first { actions = acts }) (sym (ap (λ (d : Draft). d.actions) is))

pub action_added : (now next : Draft) (action said : Action) (rest all : List Action) → next ≡ with_action now said → said ≡ action →
    now.actions ++ action ∷ rest ≡ all → next.actions ++ rest ≡ all
action_added now next action said rest all is same at =
    ap (λ (d : Draft). d.actions ++ rest) is ∙ ap (λ (a : Action). (now.actions ++ a ∷ []) ++ rest) same ∙ append_assoc now.actions (action ∷ []) rest ∙ at

-- at the end all are added
pub all_added : (m : Making) (number line i : ℕ) (first now : Draft) (all : List Action) (tasks : List Task) → length tasks ≤ i →
    now.actions ++ written m number line (drop i tasks) ≡ all → now ≡ record first { actions = now.actions } → now ≡ record first { actions = all }
all_added m number line i first now all tasks h is same =
    same ∙ ap (λ acts. record first { actions = acts })
    (sym (append-nil now.actions) ∙ ap (λ ts. now.actions ++ written m number line ts) (sym (drop_all i tasks h)) ∙ is)

pub number_step : (task : Task) (number : ℕ) → number_after task number ≤ number + 1
number_step (Join node) number = omega arith
number_step (Insert file copies) number = omega arith
number_step (Fetch node file) number = omega arith
number_step (Settle count) number = omega arith
number_step (Shuffle count) number = omega arith

-- ---- files are declared one after another

-- the line of the next file, and those behind it
pub next_file : (line i : ℕ) (done all : List FileLine) (files : List MadeFile) (d : MadeFile) → i < length files →
    done ++ file_lines line (drop i files) ≡ all →
    done ++ file_line line (get_or files i d) ∷ file_lines (line + 1) (drop (i + 1) files) ≡ all
next_file line i done all files d h is =
    ap (λ n. done ++ file_line line (get_or files i d) ∷ file_lines (line + 1) (drop n files)) (add-one i) ∙
    ap (λ fs. done ++ file_lines line fs) (sym (drop-cons files i d h)) ∙ is

pub files_only : (first now next : Draft) (file : FileLine) → now ≡ record first { files = now.files } → next ≡ with_file now file →
    next ≡ record first { files = next.files }
files_only first now next file same is =
    is ∙ ap (λ d. with_file d file) same ∙ ap (λ fs. record first { files = fs }) (sym (ap (λ (d : Draft). d.files) is))

pub file_added : (now next : Draft) (file said : FileLine) (rest all : List FileLine) → next ≡ with_file now said → said ≡ file →
    now.files ++ file ∷ rest ≡ all → next.files ++ rest ≡ all
file_added now next file said rest all is same at =
    ap (λ (d : Draft). d.files ++ rest) is ∙ ap (λ (f : FileLine). (now.files ++ f ∷ []) ++ rest) same ∙ append_assoc now.files (file ∷ []) rest ∙ at

pub all_declared : (line i : ℕ) (first now : Draft) (all : List FileLine) (files : List MadeFile) → length files ≤ i →
    now.files ++ file_lines line (drop i files) ≡ all → now ≡ record first { files = now.files } → now ≡ record first { files = all }
all_declared line i first now all files h is same =
    same ∙ ap (λ fs. record first { files = fs })
    (sym (append-nil now.files) ∙ ap (λ fs. now.files ++ file_lines line fs) (sym (drop_all i files h)) ∙ is)
