-- The stages of a scenario: the actions up to and with a settle are one, and those behind the last settle are one.
use Rattle.std.specs.Prelude.{ℕ, ◌+◌, ◌*◌, ◌==◌, nat_lt, max, if◌then◌else◌, Bool, true, false, List, [], ◌∷◌, ◌++◌}
use Rattle.std.specs.List.{count_by, list_any, sum_by}
use Rattle.ring_math.specs.Names.{Id, Number}
use Rattle.scenario_reader.specs.declared.action.Action.{Action}
use Rattle.scenario_reader.specs.declared.action.What.{What}
use Rattle.scenario_reader.specs.declared.action.What.TheVariants as what
use Rattle.scenario_reader.specs.Plain.{PlainScenario}
use Rattle.weave_laws.specs.Cells.{CellInput, Command}

-- its actions, how many frames each node may take in it, and how often each frame is put
pub record Stage : Type 0 where
  pub actions : List Action
  pub budget : ℕ
  pub copies : ℕ

-- ---- from the actions

abbrev pub is_settle : What → Bool
is_settle (what.Settle n) = true
is_settle (what.Command number node command) = false
is_settle (what.Deliver n) = false
is_settle (what.Shuffle seed count) = false
is_settle (what.Dup n) = false
is_settle (what.Noise node bytes) = false

-- the number of a settle
abbrev pub budget_in : What → ℕ
budget_in (what.Settle n) = n
budget_in (what.Command number node command) = 0
budget_in (what.Deliver n) = 0
budget_in (what.Shuffle seed count) = 0
budget_in (what.Dup n) = 0
budget_in (what.Noise node bytes) = 0

-- the copies in force behind an action
abbrev pub copies_behind : ℕ → What → ℕ
copies_behind copies (what.Dup n) = n
copies_behind copies (what.Command number node command) = copies
copies_behind copies (what.Settle n) = copies
copies_behind copies (what.Deliver n) = copies
copies_behind copies (what.Shuffle seed count) = copies
copies_behind copies (what.Noise node bytes) = copies

-- one more action in front of the first stage; it is a stage of its own where none follows
abbrev pub with_first : Action → ℕ → List Stage → List Stage
with_first a copies [] = record { actions = a ∷ []; budget = 0; copies = copies } ∷ []
with_first a copies (stage ∷ stages) = record stage { actions = a ∷ stage.actions } ∷ stages

-- an action with the stages that follow it: a settle ends its stage, any other action belongs to the next one
abbrev pub followed_by : Action → ℕ → List Stage → List Stage
followed_by a copies stages =
    if is_settle a.what then record { actions = a ∷ []; budget = budget_in a.what; copies = copies } ∷ stages
    else with_first a copies stages

abbrev pub stages_from : ℕ → List Action → List Stage
stages_from copies [] = []
stages_from copies (a ∷ actions) =
    followed_by a (copies_behind copies a.what) (stages_from (copies_behind copies a.what) actions)

-- before the first dup there is one copy
abbrev pub stages_of : PlainScenario → List Stage
stages_of s = stages_from 1 s.actions

-- ---- what stages hold

abbrev pub actions_of : List Stage → List Action
actions_of [] = []
actions_of (stage ∷ stages) = stage.actions ++ actions_of stages

-- the commands to a node, in order
abbrev pub said_to : Id → What → List CellInput
said_to x (what.Command number node command) = if node == x then Command number command ∷ [] else []
said_to x (what.Settle n) = []
said_to x (what.Deliver n) = []
said_to x (what.Shuffle seed count) = []
said_to x (what.Dup n) = []
said_to x (what.Noise node bytes) = []

abbrev pub commands_to : Id → List Action → List CellInput
commands_to x [] = []
commands_to x (a ∷ actions) = said_to x a.what ++ commands_to x actions

-- a stage has the command of this number
abbrev pub is_command_of : Number → What → Bool
is_command_of n (what.Command number node command) = number == n
is_command_of n (what.Settle count) = false
is_command_of n (what.Deliver m) = false
is_command_of n (what.Shuffle seed count) = false
is_command_of n (what.Dup copies) = false
is_command_of n (what.Noise node bytes) = false

abbrev pub has_command : Number → Stage → Bool
has_command n stage = list_any (λ (a : Action). is_command_of n a.what) stage.actions

-- noise for a node
abbrev pub is_noise_for : Id → What → Bool
is_noise_for x (what.Noise node bytes) = node == x
is_noise_for x (what.Command number node command) = false
is_noise_for x (what.Settle n) = false
is_noise_for x (what.Deliver n) = false
is_noise_for x (what.Shuffle seed count) = false
is_noise_for x (what.Dup n) = false

-- each noise for the node, as often as its stage has copies
abbrev pub noise_for : Id → List Stage → ℕ
noise_for x stages = sum_by (λ (s : Stage). s.copies * count_by (λ (a : Action). is_noise_for x a.what) s.actions) stages

-- ---- budgets and copies

abbrev pub all_budgets : List Stage → ℕ
all_budgets stages = sum_by (λ (s : Stage). s.budget) stages

-- the budgets of the stages before that of the command with this number
abbrev pub budget_before : Number → List Stage → ℕ
budget_before n [] = 0
budget_before n (stage ∷ stages) = if has_command n stage then 0 else stage.budget + budget_before n stages

abbrev pub has_budget : Stage → Bool
has_budget stage = nat_lt 0 stage.budget

-- the budget of the last stage that has one, and 0 where none has
abbrev pub last_budget : List Stage → ℕ
last_budget [] = 0
last_budget (stage ∷ stages) = if list_any has_budget stages then last_budget stages else stage.budget

-- the stages behind the last that has a budget
abbrev pub stages_behind : List Stage → List Stage
stages_behind [] = []
stages_behind (stage ∷ stages) =
    if list_any has_budget (stage ∷ stages) then stages_behind stages else stage ∷ stages

-- the greatest copies of any stage
abbrev pub most_copies : List Stage → ℕ
most_copies [] = 1
most_copies (stage ∷ stages) = max stage.copies (most_copies stages)
