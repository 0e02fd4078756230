-- How a joiner is seen of the phase of a node, and what it says to a Join command.
use Rattle.std.specs.Prelude.{◌==◌, if◌then◌else◌, is_some}
use Rattle.ring_math.specs.Names.{Attempt, Number}
use Rattle.wire_msg.specs.declared.limits.TheConstants.{LAST_ATTEMPT}
use Rattle.overlay_rules.specs.State.{Phase}
use Rattle.overlay_rules.specs.State as phase
use Rattle.join_core.specs.declared.joiner.Joiner.{Joiner}
use Rattle.join_core.specs.declared.joiner.Joiner.TheVariants.{Waiting, Asking, Probing, Leasing, Done}
use Rattle.join_core.specs.declared.steps.Begin.{Begin}
use Rattle.join_core.specs.declared.steps.Begin.TheVariants.{Started, Already, Spent}

-- of the lists of a lease it sees only whether they are there; of a ready node's links nothing
abbrev pub joiner_of : Phase → Joiner
joiner_of (phase.Waiting a) = Waiting a
joiner_of (phase.Asking a n) = Asking a n
joiner_of (phase.Probing a n probed) = Probing a n probed
joiner_of (phase.Leasing a n l r from_left from_right) = Leasing a n l r (is_some from_left) (is_some from_right)
joiner_of (phase.Ready a l r) = Done a

-- the attempt of the join under way, of the next one, or of the last one
abbrev pub attempt_of : Joiner → Attempt
attempt_of (Waiting a) = a
attempt_of (Asking a n) = a
attempt_of (Probing a n probed) = a
attempt_of (Leasing a n l r from_left from_right) = a
attempt_of (Done a) = a

-- the number of the Join command, where a join is under way
abbrev pub number_of : Joiner → Number
number_of (Asking a n) = n
number_of (Probing a n probed) = n
number_of (Leasing a n l r from_left from_right) = n
number_of (Waiting a) = 0
number_of (Done a) = 0

-- Join; the last attempt can't be begun
abbrev pub begin_of : Joiner → Begin
begin_of (Waiting a) = if a == LAST_ATTEMPT then Spent else Started a
begin_of (Asking a n) = Already
begin_of (Probing a n probed) = Already
begin_of (Leasing a n l r from_left from_right) = Already
begin_of (Done a) = Already

abbrev pub after_begin : Begin → Joiner → Number → Joiner
after_begin (Started a) j number = Asking a number
after_begin Already j number = j
after_begin Spent j number = j
