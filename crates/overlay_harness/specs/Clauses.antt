-- What holds in a run at each node, of what came to it.
use Rattle.std.specs.Prelude.{◌≡◌, ◌≢◌, ◌≤◌, ◌⊎◌, ℕ, ◌*◌, false, Bool, Some, List, filter, take, slice_get, All}
use Rattle.std.specs.List.{count_by, list_any, sum_by}
use Rattle.ring_math.specs.Names.{Id, Number}
use Rattle.wire_msg.specs.declared.command.Command.{Command as NodeCommand}
use Rattle.wire_msg.specs.Words.{Envelope}
use Rattle.weave_laws.specs.Cells.{CellInput, Command, Comes, Noise}
use Rattle.overlay_harness.specs.Stages.{Stage, actions_of, all_budgets, budget_before, commands_to, has_command, last_budget, most_copies, noise_for}
use Rattle.overlay_harness.specs.Stages.{stages_behind}
use Rattle.overlay_harness.specs.Inputs.{envelopes_in, frames_in, is_command, is_noise}

-- its commands are exactly those of the stages to this node, in their order, which is that of their numbers
abbrev pub HasItsCommands : List Stage → Id → List CellInput → Type 0
HasItsCommands stages x inputs = filter is_command inputs ≡ commands_to x (actions_of stages)

-- Before a command of a stage the node took at most so many frames as the stages before it have budgets; in the whole at most
-- so many as all stages have.
pub record IsWithinBudgets (stages : List Stage) (inputs : List CellInput) : Type 0 where
  pub before : (i : ℕ) (n : Number) (c : NodeCommand) → slice_get inputs i ≡ Some (Command n c) →
      frames_in (take i inputs) ≤ budget_before n stages
  pub in_all : frames_in inputs ≤ all_budgets stages

-- noise came at most as often as the stages have it for the node, each with the copies of its stage
abbrev pub HasItsNoise : List Stage → Id → List CellInput → Type 0
HasItsNoise stages x inputs = count_by is_noise inputs ≤ noise_for x stages

-- Each envelope came at most so many times for each time that it was sent: whatever each weighs, those that came weigh at most
-- so many times as much as those that were sent. The greatest copies of any stage count.
abbrev pub WasSentEnough : List Stage → List Envelope → List CellInput → Type 0
WasSentEnough stages sent inputs =
    (weight : Envelope → ℕ) → sum_by weight (envelopes_in inputs) ≤ most_copies stages * sum_by weight sent

-- a command of a stage behind the last that has a budget: what is sent then is late
abbrev pub is_late : List Stage → CellInput → Bool
is_late stages (Command n c) = list_any (has_command n) (stages_behind stages)
is_late stages (Comes v) = false
is_late stages Noise = false

-- an envelope for the node did not come
pub record IsMissing (x : Id) (inputs : List CellInput) (v : Envelope) : Type 0 where
  pub addressed : v.receiver ≡ x
  pub never : All (λ (i : CellInput). i ≢ Comes v) inputs

-- The node took at least as many frames as the last budget, or no envelope for it that was sent in time is missing. Where no
-- stage has a budget, this says nothing.
abbrev pub IsServed : List Stage → (Envelope → Type 0) → Id → List CellInput → Type 0
IsServed stages WasSentInTime x inputs =
    (last_budget stages ≤ frames_in inputs) ⊎ ((v : Envelope) → WasSentInTime v → IsMissing x inputs v → ⊥)
