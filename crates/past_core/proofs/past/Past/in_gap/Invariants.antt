use Rattle.std.proofs.Common.{◌≡◌, take, filter, map}
use Rattle.overlay_rules.specs.Gatekeeper.{is_left_to}
use Rattle.past_core.specs.Waits.{ask_of}
use Rattle.past_core.proofs.past.Past.in_gap.Given as goal

abbrev pub invariant-loop-ask : goal.invariant-loop-ask
invariant-loop-ask l = l.asks ≡ map ask_of (filter (is_left_to l.reach l.joiner) (take l.ask-index l.ask-items))
