-- What the picture shows of nodes: which are ready, with their links and the joiners of their gates; and who owns a key.
use Rattle.std.specs.Prelude.{Bool, is_some, Option, List, filter, map}
use Rattle.ring_math.specs.Names.{Id, Key}
use Rattle.coverage.specs.Closest.{closest_in}
use Rattle.overlay_rules.specs.State.{State}
use Rattle.node_parts.specs.Views.{reach_of}
use Rattle.ring_picture.specs.declared.seat.Seat.{Seat}

abbrev pub seat_of : (Id → State) → Id → Seat
seat_of states x = record { id = x; reach = reach_of (states x) }

abbrev pub seats_of : (Id → State) → List Id → List Seat
seats_of states nodes = map (seat_of states) nodes

abbrev pub is_ready : Seat → Bool
is_ready s = is_some s.reach

abbrev pub ready_ids : List Seat → List Id
ready_ids seats = map (λ (s : Seat). s.id) (filter is_ready seats)

-- the ready node that is closest to the key
abbrev pub owner_of : List Id → Key → Option Id
owner_of ready key = closest_in key ready
