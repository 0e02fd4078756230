-- The joiner has asked its neighbours for leases: their grants, and when it has both.
use Rattle.std.specs.Prelude.{Bool, false, ◌&&◌, ◌||◌, ◌==◌, nat_lt, if◌then◌else◌, Option, Some, None}
use Rattle.ring_math.specs.Names.{Id, Attempt}
use Rattle.join_core.specs.declared.joiner.Joiner.{Joiner}
use Rattle.join_core.specs.declared.joiner.Joiner.TheVariants.{Waiting, Asking, Probing, Leasing, Done}
use Rattle.join_core.specs.declared.steps.Finished.{Finished}
use Rattle.join_core.specs.declared.steps.GrantStep.{GrantStep}
use Rattle.join_core.specs.declared.steps.GrantStep.TheVariants.{Older, Settled, Noted, Dropped}
use Rattle.join_core.specs.Joining.{attempt_of}

-- Grant of an attempt that is not past
abbrev pub timely_grant : Joiner → Id → Attempt → GrantStep
timely_grant (Leasing b n l r from_left from_right) from a = if (a == b) && ((from == l) || (from == r)) then Noted else Dropped
timely_grant (Done b) from a = if a == b then Settled else Dropped
timely_grant (Waiting b) from a = Dropped
timely_grant (Asking b n) from a = Dropped
timely_grant (Probing b n probed) from a = Dropped

-- Grant
abbrev pub grant_step_of : Joiner → Id → Attempt → GrantStep
grant_step_of j from a = if nat_lt a (attempt_of j) then Older else timely_grant j from a

-- the mark of each side that the sender is
abbrev pub marked : Joiner → Id → Joiner
marked (Leasing b n l r from_left from_right) from = Leasing b n l r (from_left || (from == l)) (from_right || (from == r))
marked (Done b) from = Done b
marked (Waiting b) from = Waiting b
marked (Asking b n) from = Asking b n
marked (Probing b n probed) from = Probing b n probed

abbrev pub after_grant : GrantStep → Id → Joiner → Joiner
after_grant Noted from j = marked j from
after_grant Older from j = j
after_grant Settled from j = j
after_grant Dropped from j = j

-- it has the leases of both neighbours
abbrev pub is_granted : Joiner → Bool
is_granted (Leasing b n l r from_left from_right) = from_left && from_right
is_granted (Done b) = false
is_granted (Waiting b) = false
is_granted (Asking b n) = false
is_granted (Probing b n probed) = false

-- the join that is done, where both leases are there
abbrev pub finished_of : Joiner → Option Finished
finished_of (Leasing b n l r from_left from_right) =
    if from_left && from_right then Some (record { attempt = b; number = n; left = l; right = r }) else None
finished_of (Done b) = None
finished_of (Waiting b) = None
finished_of (Asking b n) = None
finished_of (Probing b n probed) = None

abbrev pub after_finish : Option Finished → Joiner → Joiner
after_finish (Some f) j = Done f.attempt
after_finish None j = j
