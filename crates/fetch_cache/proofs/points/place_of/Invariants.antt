use Rattle.std.proofs.Common.{◌≢◌, ◌<◌, ℕ, slice_index_or}
use Rattle.fetch_cache.specs.Points.{Point}
use Rattle.fetch_cache.proofs.points.place_of.Given as goal

abbrev pub invariant-loop-i : goal.invariant-loop-i
invariant-loop-i l = (k : ℕ) (d : Point) → k < l.i → (slice_index_or l.points k d).node ≢ l.node
