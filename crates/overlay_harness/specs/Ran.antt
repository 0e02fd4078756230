-- What holds of the histories of cells that ran stages of a scenario.
use Rattle.std.specs.Prelude.{◌≡◌, false, List, map, Contains}
use Rattle.std.specs.List.{flat_map}
use Rattle.wire_msg.specs.Words.{Envelope}
use Rattle.weave_laws.specs.Cells.{CellEntry, CellInput, History}
use Rattle.node_cell.specs.Sent.{sent_by}
use Rattle.overlay_harness.specs.Stages.{Stage}
use Rattle.overlay_harness.specs.Clauses.{HasItsCommands, HasItsNoise, IsServed, IsWithinBudgets, WasSentEnough, is_late}

-- all that came to the node
abbrev pub inputs_in : History → List CellInput
inputs_in h = map (λ (e : CellEntry). e.input) h.entries

-- all that several histories sent, in order
abbrev pub all_sent : List History → List Envelope
all_sent hs = flat_map (λ (h : History). sent_by h.entries) hs

-- an entry that is not late sent it
pub record SentInTime (stages : List Stage) (hs : List History) (v : Envelope) : Type 0 where
  pub history : History
  pub among : Contains hs history
  pub entry : CellEntry
  pub stands : Contains history.entries entry
  pub in_time : is_late stages entry.input ≡ false
  pub sent : Contains entry.sent v

-- one of the histories after these stages: what a run of them keeps at its node, however often a mailbox hands out a frame
pub record KeptStages (stages : List Stage) (hs : List History) (h : History) : Type 0 where
  pub commands : HasItsCommands stages h.node (inputs_in h)
  pub budgets : IsWithinBudgets stages (inputs_in h)
  pub served : IsServed stages (SentInTime stages hs) h.node (inputs_in h)

-- and all that a run of them keeps there
pub record RanStages (stages : List Stage) (hs : List History) (h : History) : Type 0 where
  pub kept : KeptStages stages hs h
  pub noise : HasItsNoise stages h.node (inputs_in h)
  pub sent : WasSentEnough stages (all_sent hs) (inputs_in h)
