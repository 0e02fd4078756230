use Rattle.std.proofs.Common.{◌≡◌, ◌++◌, drop}
use Rattle.fetch_cache.specs.Turns.{fetches_of}
use Rattle.fetch_cache.proofs.points.fetches_of.Given as goal

abbrev pub invariant-loop-action : goal.invariant-loop-action
invariant-loop-action l = l.fetches.items ++ fetches_of (drop l.action-index l.actions) ≡ fetches_of l.actions
