-- The phase that a node's joiner, what it takes over and its links show.
use Rattle.std.specs.Prelude.{Option, Some, None, map}
use Rattle.ring_math.specs.Names.{Id}
use Rattle.coverage.specs.GapFiles.{Lists}
use Rattle.overlay_rules.specs.Joining.{answered_by}
use Rattle.overlay_rules.specs.State.{Phase}
use Rattle.overlay_rules.specs.State as phase
use Rattle.replica_handover.specs.Taken.{Taken, kept_or}
use Rattle.join_core.specs.declared.joiner.Joiner.{Joiner}
use Rattle.join_core.specs.declared.joiner.Joiner.TheVariants.{Waiting, Asking, Probing, Leasing, Done}

-- the lists that came from each side show in Leasing alone, and the links in Ready alone
abbrev pub phase_of : Joiner → Taken → Id → Id → Phase
phase_of (Waiting a) taking left right = phase.Waiting a
phase_of (Asking a n) taking left right = phase.Asking a n
phase_of (Probing a n probed) taking left right = phase.Probing a n probed
phase_of (Leasing a n l r on_left on_right) taking left right = phase.Leasing a n l r taking.left taking.right
phase_of (Done a) taking left right = phase.Ready a left right

-- the links of a ready node
abbrev pub links_in : Phase → Option (Id × Id)
links_in (phase.Ready a l r) = Some (l, r)
links_in (phase.Waiting a) = None
links_in (phase.Asking a n) = None
links_in (phase.Probing a n probed) = None
links_in (phase.Leasing a n l r from_left from_right) = None

-- the lists that came from the left, and from the right
abbrev pub left_lists : Phase → Option Lists
left_lists (phase.Leasing a n l r from_left from_right) = from_left
left_lists (phase.Waiting a) = None
left_lists (phase.Asking a n) = None
left_lists (phase.Probing a n probed) = None
left_lists (phase.Ready a l r) = None

abbrev pub right_lists : Phase → Option Lists
right_lists (phase.Leasing a n l r from_left from_right) = from_right
right_lists (phase.Waiting a) = None
right_lists (phase.Asking a n) = None
right_lists (phase.Probing a n probed) = None
right_lists (phase.Ready a l r) = None

-- what both neighbours have pledged
abbrev pub taken_of : Phase → Taken
taken_of p = record { left = left_lists p; right = right_lists p }

-- the phase once the joiner is this: a lease asked for has no lists yet, and a join is done with its links, which is said otherwise
abbrev pub phase_to : Joiner → Phase → Phase
phase_to (Waiting a) p = phase.Waiting a
phase_to (Asking a n) p = phase.Asking a n
phase_to (Probing a n probed) p = phase.Probing a n probed
phase_to (Leasing a n l r on_left on_right) p = phase.Leasing a n l r None None
phase_to (Done a) p = p

-- one that was probed has answered
abbrev pub heard_phase : Id → Phase → Phase
heard_phase from (phase.Probing a n probed) = phase.Probing a n (map (answered_by from) probed)
heard_phase from (phase.Waiting a) = phase.Waiting a
heard_phase from (phase.Asking a n) = phase.Asking a n
heard_phase from (phase.Leasing a n l r from_left from_right) = phase.Leasing a n l r from_left from_right
heard_phase from (phase.Ready a l r) = phase.Ready a l r

-- what the sides pledge is kept, on each side that had pledged nothing
abbrev pub granted_phase : Taken → Phase → Phase
granted_phase given (phase.Leasing a n l r from_left from_right) =
    phase.Leasing a n l r (kept_or from_left given.left) (kept_or from_right given.right)
granted_phase given (phase.Waiting a) = phase.Waiting a
granted_phase given (phase.Asking a n) = phase.Asking a n
granted_phase given (phase.Probing a n probed) = phase.Probing a n probed
granted_phase given (phase.Ready a l r) = phase.Ready a l r
