-- The commands of a made scenario, by their numbers.
use Rattle.std.proofs.Common.{◌≡◌, ℕ, ◌+◌, ◌*◌, Some, List, [], ◌∷◌, ◌++◌, length, map, slice_get, refl, sym, ap, ◌∙◌, append_assoc, length-append}
use Rattle.std.proofs.Common.{arith}
use Rattle.std.specs.List.{flat_map}
use Rattle.lru.proofs.Pairs.{slice_get-cut}
use Rattle.ring_math.specs.Names.{Number}
use Rattle.wire_msg.specs.declared.command.Command.{Command as NodeCommand}
use Rattle.wire_msg.specs.declared.command.Command.TheVariants as command
use Rattle.overlay_rules.specs.declared.entry.Event.{Event}
use Rattle.overlay_rules.specs.declared.entry.Event.TheVariants as event
use Rattle.overlay_rules.proofs.Each.{Each}
use Rattle.scenario_reader.specs.declared.tally.Tally.{Tally}
use Rattle.scenario_reader.specs.Tallies.{start, tally_from}
use Rattle.schedule.specs.declared.task.Task.{Task}
use Rattle.schedule.specs.declared.task.Task.TheVariants.{Join, Insert, Fetch, Settle, Shuffle}
use Rattle.schedule.specs.Making.{Making, file_at, node_id, scenario_of, written}
use Rattle.schedule.specs.Schedule.{acts_of, play_of, setting_of}
use Rattle.delivery_report.specs.Texts.{commands_of}
use Rattle.file_laws.proofs.Commanded.{OfAct, OfAll, of_play}

-- what the tasks command, one after another
abbrev pub commands_in : Making → List Task → List NodeCommand
commands_in m [] = []
commands_in m (Join node ∷ tasks) = command.Join (node_id m.seed 0) ∷ commands_in m tasks
commands_in m (Insert file copies ∷ tasks) = command.Insert (file_at m file).file copies (file_at m file).bytes ∷ commands_in m tasks
commands_in m (Fetch node file ∷ tasks) = command.Fetch (file_at m file).file ∷ commands_in m tasks
commands_in m (Settle count ∷ tasks) = commands_in m tasks
commands_in m (Shuffle count ∷ tasks) = commands_in m tasks

pub commands_in-append : (m : Making) (xs ys : List Task) → commands_in m (xs ++ ys) ≡ commands_in m xs ++ commands_in m ys
commands_in-append m [] ys = refl
commands_in-append m (Join node ∷ xs) ys = ap (λ cs. command.Join (node_id m.seed 0) ∷ cs) (commands_in-append m xs ys)
commands_in-append m (Insert file copies ∷ xs) ys =
    ap (λ cs. command.Insert (file_at m file).file copies (file_at m file).bytes ∷ cs) (commands_in-append m xs ys)
commands_in-append m (Fetch node file ∷ xs) ys = ap (λ cs. command.Fetch (file_at m file).file ∷ cs) (commands_in-append m xs ys)
commands_in-append m (Settle count ∷ xs) ys = commands_in-append m xs ys
commands_in-append m (Shuffle count ∷ xs) ys = commands_in-append m xs ys

-- tasks that command one thing each
pub commands_in-each : (m : Making) (tasks : ℕ → List Task) (c : ℕ → NodeCommand) → ((k : ℕ) → commands_in m (tasks k) ≡ c k ∷ []) → (ks : List ℕ) →
    commands_in m (flat_map tasks ks) ≡ map c ks
commands_in-each m tasks c one [] = refl
commands_in-each m tasks c one (k ∷ ks) =
    commands_in-append m (tasks k) (flat_map tasks ks) ∙ ap (λ cs. cs ++ commands_in m (flat_map tasks ks)) (one k) ∙
    ap (λ cs. c k ∷ cs) (commands_in-each m tasks c one ks)

-- ---- their numbers, from 1 on

-- an event commands what stands at its number's place
pub record IsAt (cs : List NodeCommand) (n : Number) (c : NodeCommand) : Type 0 where
  pub place : ℕ
  pub number : n ≡ place + 1
  pub there : slice_get cs place ≡ Some c

abbrev pub IsNumbered : List NodeCommand → Event → Type 0
IsNumbered cs (event.Command x n c) = IsAt cs n c
IsNumbered cs (event.Deliver m) = Unit {0}
IsNumbered cs (event.Noise x) = Unit {0}

at_its_place : (cs before : List NodeCommand) (c : NodeCommand) (behind : List NodeCommand) (n : ℕ) → cs ≡ before ++ c ∷ behind → n ≡ length before + 1 →
    IsAt cs n c
at_its_place cs before c behind n is number = record {
  place = length before;
  number = number;
  there = ap (λ xs. slice_get xs (length before)) is ∙ slice_get-cut before c behind;
}

one_longer : (before : List NodeCommand) (c : NodeCommand) (n : ℕ) → n ≡ length before + 1 → n + 1 ≡ length (before ++ c ∷ []) + 1
one_longer before c n is = let long = length-append before (c ∷ []) in omega arith

written_numbered : (m : Making) (cs before : List NodeCommand) (n line : ℕ) (tasks : List Task) → cs ≡ before ++ commands_in m tasks →
    n ≡ length before + 1 → Each (OfAct (IsNumbered cs) (λ m. tt)) (acts_of (written m n line tasks))
written_numbered m cs before n line [] is number = tt
written_numbered m cs before n line (Join node ∷ tasks) is number =
    let c : NodeCommand = command.Join (node_id m.seed 0) in (
      at_its_place cs before c (commands_in m tasks) n is number,
      written_numbered m cs (before ++ c ∷ []) (n + 1) (line + 1) tasks (is ∙ sym (append_assoc before (c ∷ []) (commands_in m tasks)))
          (one_longer before c n number),
    )
written_numbered m cs before n line (Insert file copies ∷ tasks) is number =
    let c : NodeCommand = command.Insert (file_at m file).file copies (file_at m file).bytes in (
      at_its_place cs before c (commands_in m tasks) n is number,
      written_numbered m cs (before ++ c ∷ []) (n + 1) (line + 1) tasks (is ∙ sym (append_assoc before (c ∷ []) (commands_in m tasks)))
          (one_longer before c n number),
    )
written_numbered m cs before n line (Fetch node file ∷ tasks) is number =
    let c : NodeCommand = command.Fetch (file_at m file).file in (
      at_its_place cs before c (commands_in m tasks) n is number,
      written_numbered m cs (before ++ c ∷ []) (n + 1) (line + 1) tasks (is ∙ sym (append_assoc before (c ∷ []) (commands_in m tasks)))
          (one_longer before c n number),
    )
written_numbered m cs before n line (Settle count ∷ tasks) is number = (tt, written_numbered m cs before n (line + 1) tasks is number)
written_numbered m cs before n line (Shuffle count ∷ tasks) is number = (tt, written_numbered m cs before n (line + 1) tasks is number)

-- each command of the play of a made scenario stands at its number's place
pub play_numbered : (m : Making) (tasks : List Task) → OfAll (IsNumbered (commands_in m tasks)) (λ m. tt) (play_of (scenario_of m tasks)).world
play_numbered m tasks =
    of_play (IsNumbered (commands_in m tasks)) (λ m. tt) (setting_of (scenario_of m tasks)) (acts_of (scenario_of m tasks).actions)
    (written_numbered m (commands_in m tasks) [] 1 _ tasks refl refl)

-- ---- how many there are

counted : (m : Making) (t : Tally) (n line : ℕ) (tasks : List Task) →
    (tally_from t (written m n line tasks)).commands ≡ t.commands + length (commands_in m tasks)
counted m t n line [] = omega arith
counted m t n line (Join node ∷ tasks) =
    let rest = counted m (record t { commands = t.commands + 1 }) (n + 1) (line + 1) tasks in omega arith
counted m t n line (Insert file copies ∷ tasks) =
    let rest = counted m (record t { commands = t.commands + 1 }) (n + 1) (line + 1) tasks in omega arith
counted m t n line (Fetch node file ∷ tasks) =
    let rest = counted m (record t { commands = t.commands + 1 }) (n + 1) (line + 1) tasks in omega arith
counted m t n line (Settle count ∷ tasks) = counted m (record t { deliveries = t.deliveries + count * t.copies }) n (line + 1) tasks
counted m t n line (Shuffle count ∷ tasks) = counted m (record t { deliveries = t.deliveries + count }) n (line + 1) tasks

pub commands_counted : (m : Making) (tasks : List Task) → commands_of (scenario_of m tasks) ≡ length (commands_in m tasks)
commands_counted m tasks = let all = counted m start 1 (m.nodes + length m.files + 2) tasks in omega arith
