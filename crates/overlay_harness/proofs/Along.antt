-- A cell that ran stages and is served one more.
use Rattle.std.proofs.Common.{◌≡◌, ◌≤◌, ◌<◌, inl, inr, ℕ, zero, suc, ◌+◌, ◌==◌, ◌||◌, true, false, cond, Some, None, List, [], ◌∷◌, ◌++◌, filter, take}
use Rattle.std.proofs.Common.{slice_get, length, refl, sym, subst, ap, ◌∙◌, append-nil, append_assoc, arith}
use Rattle.std.specs.List.{list_any}
use Rattle.std.proofs.lemmas.Bool.{cond-true, cond-false, cases_Bool, ne_eqb}
use Rattle.std.proofs.lemmas.List.Elements.{filter-append}
use Rattle.std.proofs.lemmas.List.Sums.{sum_by-cons, sum_by-append, sum_by_push}
use Rattle.ring_math.specs.Names.{Id, Number}
use Rattle.wire_msg.specs.declared.command.Command.{Command as NodeCommand}
use Rattle.overlay_rules.proofs.Each.{Each, Each-append}
use Rattle.scenario_reader.specs.declared.action.Action.{Action}
use Rattle.scenario_reader.specs.declared.action.What.{What}
use Rattle.scenario_reader.specs.declared.action.What.TheVariants as what
use Rattle.scenario_reader.specs.declared.node.NodeLine.{NodeLine}
use Rattle.scenario_reader.specs.declared.node.FileLine.{FileLine}
use Rattle.scenario_reader.specs.declared.tally.Tally.{Tally}
use Rattle.scenario_reader.specs.Rules.{AreActions, MayFollow}
use Rattle.scenario_reader.specs.Tallies.{tallied, tally_from}
use Rattle.schedule.proofs.Numbered.{commands_from}
use Rattle.weave_laws.specs.Cells.{CellInput, Command, Comes, Noise}
use Rattle.overlay_harness.specs.Stages.{Stage, actions_of, all_budgets, budget_before, commands_to, has_command, is_command_of, said_to}
use Rattle.overlay_harness.specs.Inputs.{frames_in, is_command, is_frame}
use Rattle.overlay_harness.specs.Along.{RanAlong, Within}
use Rattle.overlay_harness.specs.Clauses.{IsWithinBudgets}
use Rattle.overlay_harness.proofs.Numbering.{Among, numbers_between, rules_behind, rules_front, said, tally_append}

-- ---- budgets along inputs

frames-cons : (i : CellInput) (inputs : List CellInput) → frames_in (i ∷ inputs) ≡ cond (is_frame i) 1 0 + frames_in inputs
frames-cons i inputs = sum_by-cons (λ (j : CellInput). cond (is_frame j) 1 0) i inputs

pub frames-append : (xs ys : List CellInput) → frames_in (xs ++ ys) ≡ frames_in xs + frames_in ys
frames-append xs ys = sum_by-append (λ (j : CellInput). cond (is_frame j) 1 0) xs ys

Within-append : (stages : List Stage) (taken : ℕ) (xs ys : List CellInput) → Within stages taken xs → Within stages (taken + frames_in xs) ys →
    Within stages taken (xs ++ ys)
Within-append stages taken [] ys h k = subst (λ n. Within stages n ys) (let e : taken + frames_in [] ≡ taken = omega arith in e) k
Within-append stages taken (Command n c ∷ xs) ys h k =
    let one = frames-cons (Command n c) xs in
    let same : taken + frames_in (Command n c ∷ xs) ≡ taken + frames_in xs = omega arith in
    (h.0, Within-append stages taken xs ys h.1 (subst (λ m. Within stages m ys) same k))
Within-append stages taken (Comes v ∷ xs) ys h k =
    let one = frames-cons (Comes v) xs in
    let same : taken + frames_in (Comes v ∷ xs) ≡ suc taken + frames_in xs = omega arith in
    Within-append stages (suc taken) xs ys h (subst (λ m. Within stages m ys) same k)
Within-append stages taken (Noise ∷ xs) ys h k =
    let one = frames-cons Noise xs in
    let same : taken + frames_in (Noise ∷ xs) ≡ suc taken + frames_in xs = omega arith in
    Within-append stages (suc taken) xs ys h (subst (λ m. Within stages m ys) same k)

-- at a command, the frames before it are within its budgets
within_at : (stages : List Stage) (taken : ℕ) (inputs : List CellInput) (i : ℕ) (n : Number) (c : NodeCommand) → Within stages taken inputs →
    slice_get inputs i ≡ Some (Command n c) → taken + frames_in (take i inputs) ≤ budget_before n stages
within_at stages taken [] i n c h e = absurd (let none : None ≡ Some (Command n c) = e in cc)
within_at stages taken (Command m d ∷ inputs) zero n c h e =
    let same : Command m d ≡ Command n c = cc in
    let is : m ≡ n = cc in
    subst (λ k. taken + 0 ≤ budget_before k stages) is (omega (arith, h.0))
within_at stages taken (Comes v ∷ inputs) zero n c h e = absurd (let same : Comes v ≡ Command n c = cc in cc)
within_at stages taken (Noise ∷ inputs) zero n c h e = absurd (let same : Noise ≡ Command n c = cc in cc)
within_at stages taken (Command m d ∷ inputs) (suc i) n c h e =
    let rest = within_at stages taken inputs i n c h.1 e in let one = frames-cons (Command m d) (take i inputs) in omega arith
within_at stages taken (Comes v ∷ inputs) (suc i) n c h e =
    let rest = within_at stages (suc taken) inputs i n c h e in let one = frames-cons (Comes v) (take i inputs) in omega arith
within_at stages taken (Noise ∷ inputs) (suc i) n c h e =
    let rest = within_at stages (suc taken) inputs i n c h e in let one = frames-cons Noise (take i inputs) in omega arith

pub within_budgets : (stages : List Stage) (x : Id) (inputs : List CellInput) → RanAlong stages x inputs → IsWithinBudgets stages inputs
within_budgets stages x inputs r = record {
  before = λ i n c e. let own = within_at stages 0 inputs i n c r.within e in omega arith;
  in_all = r.few;
}

-- ---- one stage more

abbrev HasNone : Number → List Stage → Type 0
HasNone n stages = Each (λ (s : Stage). has_command n s ≡ false) stages

pub budgets-push : (stages : List Stage) (s : Stage) → all_budgets (stages ++ s ∷ []) ≡ all_budgets stages + s.budget
budgets-push stages s = sum_by_push (λ (t : Stage). t.budget) stages s

before_grows : (n : Number) (stages : List Stage) (s : Stage) → budget_before n stages ≤ budget_before n (stages ++ s ∷ [])
before_grows n [] s = omega arith
before_grows n (t ∷ stages) s =
    elim (cases_Bool (has_command n t)) [
      | inl e ↦
          let one : budget_before n (t ∷ stages) ≡ 0 = cond-true {A = ℕ} (has_command n t) 0 (t.budget + budget_before n stages) e in
          omega arith
      | inr e ↦
          let one : budget_before n (t ∷ stages) ≡ t.budget + budget_before n stages =
          cond-false {A = ℕ} (has_command n t) 0 (t.budget + budget_before n stages) e in
          let two : budget_before n (t ∷ (stages ++ s ∷ [])) ≡ t.budget + budget_before n (stages ++ s ∷ []) =
          cond-false {A = ℕ} (has_command n t) 0 (t.budget + budget_before n (stages ++ s ∷ [])) e in
          let rest = before_grows n stages s in
          omega arith
    ]

before_new : (n : Number) (stages : List Stage) (s : Stage) → HasNone n stages → all_budgets stages ≤ budget_before n (stages ++ s ∷ [])
before_new n [] s h = omega arith
before_new n (t ∷ stages) s h =
    let two : budget_before n (t ∷ (stages ++ s ∷ [])) ≡ t.budget + budget_before n (stages ++ s ∷ []) =
    cond-false {A = ℕ} (has_command n t) 0 (t.budget + budget_before n (stages ++ s ∷ [])) h.0 in
    let rest = before_new n stages s h.1 in
    let all = sum_by-cons (λ (u : Stage). u.budget) t stages in
    omega arith

Within-more : (stages : List Stage) (s : Stage) (taken : ℕ) (inputs : List CellInput) → Within stages taken inputs → Within (stages ++ s ∷ []) taken inputs
Within-more stages s taken [] h = tt
Within-more stages s taken (Command n c ∷ inputs) h =
    ((let more = before_grows n stages s in omega (arith, h.0)), Within-more stages s taken inputs h.1)
Within-more stages s taken (Comes v ∷ inputs) h = Within-more stages s (suc taken) inputs h
Within-more stages s taken (Noise ∷ inputs) h = Within-more stages s (suc taken) inputs h

-- ---- the commands of a stage

abbrev AreCommands : List CellInput → Type 0
AreCommands inputs = Each (λ (i : CellInput). is_command i ≡ true) inputs

abbrev AreFrames : List CellInput → Type 0
AreFrames inputs = Each (λ (i : CellInput). is_frame i ≡ true) inputs

said_is_command : (x : Id) (w : What) → AreCommands (said_to x w)
said_is_command x (what.Command number node command) =
    elim (cases_Bool (node == x)) [
      | inl t ↦ subst AreCommands (sym (cond-true (node == x) (Command number command ∷ []) [] t)) (refl, tt)
      | inr t ↦ subst AreCommands (sym (cond-false (node == x) (Command number command ∷ []) [] t)) tt
    ]
said_is_command x (what.Settle n) = tt
said_is_command x (what.Deliver n) = tt
said_is_command x (what.Shuffle seed count) = tt
said_is_command x (what.Dup n) = tt
said_is_command x (what.Noise node bytes) = tt

pub are_commands : (x : Id) (actions : List Action) → AreCommands (commands_to x actions)
are_commands x [] = tt
are_commands x (a ∷ actions) =
    Each-append (λ (i : CellInput). is_command i ≡ true) (said_to x a.what) (commands_to x actions) (said_is_command x a.what) (are_commands x actions)

pub commands-append : (x : Id) (xs ys : List Action) → commands_to x (xs ++ ys) ≡ commands_to x xs ++ commands_to x ys
commands-append x [] ys = refl
commands-append x (a ∷ xs) ys =
    ap (λ is. said_to x a.what ++ is) (commands-append x xs ys)
    ∙ sym (append_assoc (said_to x a.what) (commands_to x xs) (commands_to x ys))

pub actions-push : (stages : List Stage) (s : Stage) → actions_of (stages ++ s ∷ []) ≡ actions_of stages ++ s.actions
actions-push [] s = append-nil s.actions
actions-push (t ∷ stages) s =
    ap (λ ds. t.actions ++ ds) (actions-push stages s) ∙ sym (append_assoc t.actions (actions_of stages) s.actions)

kept_all : (inputs : List CellInput) → AreCommands inputs → filter is_command inputs ≡ inputs
kept_all [] h = refl
kept_all (i ∷ inputs) h = cond-true (is_command i) _ _ h.0 ∙ ap (λ is. i ∷ is) (kept_all inputs h.1)

kept_none : (inputs : List CellInput) → AreFrames inputs → filter is_command inputs ≡ []
kept_none [] h = refl
kept_none (Command n c ∷ inputs) h = absurd (let no : false ≡ true = h.0 in cc)
kept_none (Comes v ∷ inputs) h = kept_none inputs h.1
kept_none (Noise ∷ inputs) h = kept_none inputs h.1

pub no_frames : (inputs : List CellInput) → AreCommands inputs → frames_in inputs ≡ 0
no_frames [] h = refl
no_frames (Command n c ∷ inputs) h = let one = frames-cons (Command n c) inputs in let rest = no_frames inputs h.1 in omega arith
no_frames (Comes v ∷ inputs) h = absurd (let no : false ≡ true = h.0 in cc)
no_frames (Noise ∷ inputs) h = absurd (let no : false ≡ true = h.0 in cc)

pub all_frames : (inputs : List CellInput) → AreFrames inputs → frames_in inputs ≡ length inputs
all_frames [] h = refl
all_frames (Command n c ∷ inputs) h = absurd (let no : false ≡ true = h.0 in cc)
all_frames (Comes v ∷ inputs) h = let one = frames-cons (Comes v) inputs in let rest = all_frames inputs h.1 in omega arith
all_frames (Noise ∷ inputs) h = let one = frames-cons Noise inputs in let rest = all_frames inputs h.1 in omega arith

-- ---- their numbers are new

abbrev IsNew : List Stage → CellInput → Type 0
IsNew stages (Command n c) = HasNone n stages
IsNew stages (Comes v) = ⊥
IsNew stages Noise = ⊥

each_new : (stages : List Stage) (inputs : List CellInput) → AreCommands inputs →
    ((n : Number) (c : NodeCommand) → Among (Command n c) inputs → HasNone n stages) → Each (IsNew stages) inputs
each_new stages [] h f = tt
each_new stages (Command n c ∷ inputs) h f = (f n c (inl refl), each_new stages inputs h.1 (λ m d k. f m d (inr k)))
each_new stages (Comes v ∷ inputs) h f = absurd (let no : false ≡ true = h.0 in cc)
each_new stages (Noise ∷ inputs) h f = absurd (let no : false ≡ true = h.0 in cc)

other_number : (nodes : List NodeLine) (files : List FileLine) (tally : Tally) (w : What) (n : Number) → MayFollow nodes files tally w →
    (tallied tally w).commands < n → is_command_of n w ≡ false
other_number nodes files tally (what.Command number node command) n m lt =
    let next : number ≡ tally.commands + 1 = m.allowed.0 in ne_eqb number n (λ e. absurd (omega arith))
other_number nodes files tally (what.Settle count) n m lt = refl
other_number nodes files tally (what.Deliver k) n m lt = refl
other_number nodes files tally (what.Shuffle seed count) n m lt = refl
other_number nodes files tally (what.Dup copies) n m lt = refl
other_number nodes files tally (what.Noise node bytes) n m lt = refl

none_of : (nodes : List NodeLine) (files : List FileLine) (tally : Tally) (actions : List Action) (n : Number) → AreActions nodes files tally actions →
    (tally_from tally actions).commands < n → list_any (λ (a : Action). is_command_of n a.what) actions ≡ false
none_of nodes files tally [] n rules lt = refl
none_of nodes files tally (a ∷ actions) n rules lt =
    let more = commands_from (tallied tally a.what) actions in
    let here = other_number nodes files tally a.what n rules.0 (omega arith) in
    ap (λ b. b || list_any (λ (d : Action). is_command_of n d.what) actions) here ∙ none_of nodes files (tallied tally a.what) actions n rules.1 lt

has_none : (nodes : List NodeLine) (files : List FileLine) (tally : Tally) (stages : List Stage) (n : Number) →
    AreActions nodes files tally (actions_of stages) → (tally_from tally (actions_of stages)).commands < n → HasNone n stages
has_none nodes files tally [] n rules lt = tt
has_none nodes files tally (s ∷ stages) n rules lt =
    let whole : (tally_from tally (s.actions ++ actions_of stages)).commands ≡ (tally_from (tally_from tally s.actions) (actions_of stages)).commands =
    ap (λ (t : Tally). t.commands) (tally_append tally s.actions (actions_of stages)) in
    let more = commands_from (tally_from tally s.actions) (actions_of stages) in (
      none_of nodes files tally s.actions n (rules_front nodes files tally s.actions (actions_of stages) rules) (omega arith),
      has_none nodes files (tally_from tally s.actions) stages n (rules_behind nodes files tally s.actions (actions_of stages) rules) (omega arith),
    )

new_commands : (nodes : List NodeLine) (files : List FileLine) (tally : Tally) (stages : List Stage) (s : Stage) (x : Id) →
    AreActions nodes files tally (actions_of stages ++ s.actions) → Each (IsNew stages) (commands_to x s.actions)
new_commands nodes files tally stages s x rules =
    each_new stages (commands_to x s.actions) (are_commands x s.actions) (λ n c k.
    let between = numbers_between nodes files (tally_from tally (actions_of stages)) s.actions x n
    (rules_behind nodes files tally (actions_of stages) s.actions rules) (said x n c s.actions k) in
    has_none nodes files tally stages n (rules_front nodes files tally (actions_of stages) s.actions rules) between.above)

-- ---- the stage is served

commands_within : (stages : List Stage) (s : Stage) (taken : ℕ) (inputs : List CellInput) → taken ≤ all_budgets stages → Each (IsNew stages) inputs →
    Within (stages ++ s ∷ []) taken inputs
commands_within stages s taken [] le h = tt
commands_within stages s taken (Command n c ∷ inputs) le h =
    ((let new = before_new n stages s h.0 in omega arith), commands_within stages s taken inputs le h.1)
commands_within stages s taken (Comes v ∷ inputs) le h = absurd h.0
commands_within stages s taken (Noise ∷ inputs) le h = absurd h.0

frames_within : (stages : List Stage) (taken : ℕ) (inputs : List CellInput) → AreFrames inputs → Within stages taken inputs
frames_within stages taken [] h = tt
frames_within stages taken (Command n c ∷ inputs) h = absurd (let no : false ≡ true = h.0 in cc)
frames_within stages taken (Comes v ∷ inputs) h = frames_within stages (suc taken) inputs h.1
frames_within stages taken (Noise ∷ inputs) h = frames_within stages (suc taken) inputs h.1

-- a node of which stages were run, then told one more stage's commands and given frames within its budget
pub along_more : (nodes : List NodeLine) (files : List FileLine) (tally : Tally) (stages : List Stage) (s : Stage) (x : Id)
    (inputs frames : List CellInput) → AreActions nodes files tally (actions_of stages ++ s.actions) → RanAlong stages x inputs → AreFrames frames →
    length frames ≤ s.budget → RanAlong (stages ++ s ∷ []) x (inputs ++ (commands_to x s.actions ++ frames))
along_more nodes files tally stages s x inputs frames rules r f le = record {
  commands = filter-append is_command inputs (commands ++ frames)
      ∙ ap (λ is. is ++ filter is_command (commands ++ frames)) r.commands
      ∙ ap (λ is. commands_to x (actions_of stages) ++ is)
      (filter-append is_command commands frames ∙ ap (λ is. is ++ filter is_command frames) (kept_all commands (are_commands x s.actions))
      ∙ ap (λ is. commands ++ is) (kept_none frames f) ∙ append-nil commands)
      ∙ sym (commands-append x (actions_of stages) s.actions)
      ∙ ap (commands_to x) (sym (actions-push stages s));
  within = Within-append (stages ++ s ∷ []) 0 inputs (commands ++ frames) (Within-more stages s 0 inputs r.within)
      (Within-append (stages ++ s ∷ []) (0 + frames_in inputs) commands frames
      (commands_within stages s (0 + frames_in inputs) commands (let few = r.few in omega arith) (new_commands nodes files tally stages s x rules))
      (frames_within (stages ++ s ∷ []) (0 + frames_in inputs + frames_in commands) frames f));
  few = let one = frames-append inputs (commands ++ frames) in
      let two = frames-append commands frames in
      let none = no_frames commands (are_commands x s.actions) in
      let all = all_frames frames f in
      let budget = budgets-push stages s in
      let before = r.few in
      omega arith;
} where
  commands : List CellInput
  commands = commands_to x s.actions

-- frames that come when the stages are over
pub along_frames : (stages : List Stage) (x : Id) (inputs frames : List CellInput) → RanAlong stages x inputs → AreFrames frames →
    frames_in inputs + length frames ≤ all_budgets stages → RanAlong stages x (inputs ++ frames)
along_frames stages x inputs frames r f le = record {
  commands = filter-append is_command inputs frames
      ∙ ap (λ is. filter is_command inputs ++ is) (kept_none frames f)
      ∙ append-nil (filter is_command inputs)
      ∙ r.commands;
  within = Within-append stages 0 inputs frames r.within (frames_within stages (0 + frames_in inputs) frames f);
  few = (let one = frames-append inputs frames in let all = all_frames frames f in omega arith);
}
