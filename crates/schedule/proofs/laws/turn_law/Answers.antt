use Rattle.schedule.proofs.Playing.{plays_on}
use Rattle.schedule.proofs.laws.turn_law.Goals as goal

pub returns : goal.returns
returns c = plays_on
