use Rattle.std.proofs.Common.{◌≡◌, take, filter, map}
use Rattle.overlay_rules.specs.Roots.{is_of}
use Rattle.past_core.specs.Waits.{ask_of}
use Rattle.past_core.proofs.past.Past.ended_by.Given as goal

abbrev pub invariant-loop-ask : goal.invariant-loop-ask
invariant-loop-ask l = l.asks ≡ map ask_of (filter (is_of l.file) (take l.ask-index l.ask-items))
