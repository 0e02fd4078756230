-- What the actions of a scenario come to: commands, copies of a delivery, deliveries.
use Rattle.std.specs.Prelude.{◌+◌, ◌*◌, List, fold}
use Rattle.scenario_reader.specs.declared.action.Action.{Action}
use Rattle.scenario_reader.specs.declared.action.What.{What}
use Rattle.scenario_reader.specs.declared.action.What.TheVariants.{Command, Settle, Deliver, Shuffle, Dup, Noise}
use Rattle.scenario_reader.specs.declared.tally.Tally.{Tally}

abbrev pub start : Tally
start = record { commands = 0; copies = 1; deliveries = 0 }

-- The tally with one more action. A settle counts its number for each copy, a shuffle its number, a deliver 1.
abbrev pub tallied : Tally → What → Tally
tallied tally (Command number node command) = record tally { commands = tally.commands + 1 }
tallied tally (Settle n) = record tally { deliveries = tally.deliveries + n * tally.copies }
tallied tally (Deliver n) = record tally { deliveries = tally.deliveries + 1 }
tallied tally (Shuffle seed count) = record tally { deliveries = tally.deliveries + count }
tallied tally (Dup n) = record tally { copies = n }
tallied tally (Noise node bytes) = tally

-- the tally after actions
abbrev pub tally_from : Tally → List Action → Tally
tally_from tally actions = fold (λ (t : Tally) (action : Action). tallied t action.what) tally actions

abbrev pub tally_of : List Action → Tally
tally_of actions = tally_from start actions
