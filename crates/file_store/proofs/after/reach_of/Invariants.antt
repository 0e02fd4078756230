-- The tombs so far are laid, and so many more may be.
use Rattle.file_store.proofs.Reached.{Spares}
use Rattle.file_store.proofs.after.reach_of.Given as goal

abbrev pub invariant-loop-place : goal.invariant-loop-place
invariant-loop-place l = Spares l.store.files l.tombs l.place l.spare
