use Rattle.std.proofs.Common.{◌≡◌, take}
use Rattle.ring_picture.specs.Seats.{ready_ids}
use Rattle.ring_picture.proofs.seat.ready_ids.Given as goal

-- the ready ones so far
abbrev pub invariant-loop-seat : goal.invariant-loop-seat
invariant-loop-seat l = l.ready.items ≡ ready_ids (take l.seat-index l.seats)
