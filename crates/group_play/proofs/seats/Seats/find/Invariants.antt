use Rattle.group_play.proofs.Seating.{NoneBehind, places_left}
use Rattle.group_play.proofs.seats.Seats.find.Given as goal

-- none of the seats behind the next is the node's in the group
abbrev pub invariant-loop-next : goal.invariant-loop-next
invariant-loop-next l = NoneBehind l.self.items.items l.next l.at.node l.at.group.now

abbrev pub decreases-loop-next : goal.decreases-loop-next
decreases-loop-next l = places_left l.next
