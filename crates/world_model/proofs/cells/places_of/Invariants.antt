use Rattle.world_model.proofs.Finding.{FindsTo}
use Rattle.world_model.proofs.cells.places_of.Given as goal

-- the places so far are there
abbrev pub invariant-loop-place : goal.invariant-loop-place
invariant-loop-place l = FindsTo l.places l.ids l.place
