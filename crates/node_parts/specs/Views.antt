-- What a state shows of its seat to the outside: its reach and the next hop of a key, where it is ready.
use Rattle.std.specs.Prelude.{Option, Some, None}
use Rattle.ring_math.specs.Names.{Id, Key}
use Rattle.coverage.specs.declared.Reach.{Reach}
use Rattle.coverage.specs.declared.Hop.{Hop}
use Rattle.coverage.specs.NextHop.{next_hop_of}
use Rattle.overlay_rules.specs.State.{State, reach}
use Rattle.node_parts.specs.Seats.{links_in}

abbrev pub reach_by : State → Option (Id × Id) → Option Reach
reach_by s None = None
reach_by s (Some links) = Some (reach s links.0 links.1)

abbrev pub reach_of : State → Option Reach
reach_of s = reach_by s (links_in s.phase)

abbrev pub hop_by : State → Key → Option Reach → Option Hop
hop_by s key None = None
hop_by s key (Some r) = Some (next_hop_of r s.known key)

abbrev pub hop_of : State → Key → Option Hop
hop_of s key = hop_by s key (reach_of s)
