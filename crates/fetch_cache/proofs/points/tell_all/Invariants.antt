use Rattle.std.proofs.Common.{◌≡◌, drop}
use Rattle.fetch_cache.specs.Turns.{told_by_all}
use Rattle.fetch_cache.proofs.points.tell_all.Given as goal

abbrev pub invariant-loop-note : goal.invariant-loop-note
invariant-loop-note l = told_by_all l.fetches l.node (drop l.note-index l.notes) l.points ≡ told_by_all l.fetches l.node l.notes l.fn.points
