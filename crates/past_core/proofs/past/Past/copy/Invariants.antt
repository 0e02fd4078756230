use Rattle.std.proofs.Common.{◌≡◌, take}
use Rattle.past_core.proofs.past.Past.copy.Given as goal

abbrev pub invariant-loop-ask : goal.invariant-loop-ask
invariant-loop-ask l = l.asks.items ≡ take l.ask-index l.ask-items
