-- What is left of an action that has begun, and what it gives.
use Rattle.std.specs.Prelude.{◌≡◌, ◌≤◌, ◌-◌, ℕ, Option, Some, List, [], ◌∷◌, ◌++◌, replicate}
use Rattle.overlay_rules.specs.Played.{Action as Act, Settle, Deliver, Shuffle}
use Rattle.scenario_reader.specs.declared.action.Action.{Action}
use Rattle.scenario_reader.specs.declared.action.What.{What}
use Rattle.scenario_reader.specs.declared.action.What.TheVariants as what
use Rattle.schedule.specs.declared.begun.Begun.{Begun}
use Rattle.schedule.specs.declared.begun.Begun.TheVariants as begun
use Rattle.schedule.specs.declared.turn.Turn.{Turn}
use Rattle.schedule.specs.Cursors.{step_of}
use Rattle.schedule.specs.Turns.{Step, turned, delivery}
use Rattle.schedule.specs.Words.{words_from}

abbrev pub begun_acts : Begun → List Act
begun_acts begun.Nothing = []
begun_acts (begun.Deliver message) = Deliver message ∷ []
begun_acts (begun.Settle message again left) = replicate again (Deliver message) ++ Settle left ∷ []
begun_acts (begun.Shuffle seed next end) = Shuffle (words_from seed next (end - next)) ∷ []

-- a turn that is the delivery of a message, or a skip
abbrev pub IsDelivery : ℕ → ℕ → Turn → Type 0
IsDelivery message sent turn = (actions : List Action) → step_of actions turn ≡ Some (delivery message sent)

-- The front of a schedule gives this turn, and so much of it is left then, whatever stands behind it.
pub record Gives (front : List Act) (copies sent : ℕ) (oldest : Option ℕ) (left : List Act) (turn : Turn) : Type 0 where
  pub step : Step
  pub means : (actions : List Action) → step_of actions turn ≡ Some step
  pub is : (acts : List Act) → turned (front ++ acts) copies sent oldest ≡ record { step = step; left = left ++ acts; copies = copies }

-- a dup makes at least one copy
abbrev pub HasCopies : What → Type 0
HasCopies (what.Command number node command) = Unit {0}
HasCopies (what.Settle count) = Unit {0}
HasCopies (what.Deliver message) = Unit {0}
HasCopies (what.Shuffle seed count) = Unit {0}
HasCopies (what.Dup copies) = 1 ≤ copies
HasCopies (what.Noise node bytes) = Unit {0}
