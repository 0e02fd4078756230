use Rattle.std.proofs.Common.{◌≡◌, ℕ, take}
use Rattle.overlay_rules.specs.State.{State}
use Rattle.world_model.specs.Cells.{AllStand}
use Rattle.ring_picture.specs.Seats.{seats_of}
use Rattle.ring_picture.proofs.seat.seats_of.Given as goal

-- the seats so far
abbrev pub invariant-loop-place : goal.invariant-loop-place
invariant-loop-place l = (states : ℕ → State) → AllStand l.cells states → l.seats.items ≡ seats_of states (take l.place l.nodes)
