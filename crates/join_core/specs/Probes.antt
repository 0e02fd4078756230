-- The joiner learns who its neighbours are: the reply to its request, and the replies to its probes.
use Rattle.std.specs.Prelude.{Bool, false, not, ◌&&◌, ◌==◌, if◌then◌else◌, Option, Some, None, List, [], ◌∷◌, ◌++◌, filter, map}
use Rattle.ring_math.specs.Names.{Id, Attempt}
use Rattle.std.specs.List.{list_all, list_any}
use Rattle.overlay_rules.specs.Joining.{unanswered, is_unanswered, answered_by, was_probed}
use Rattle.join_core.specs.declared.joiner.Joiner.{Joiner}
use Rattle.join_core.specs.declared.joiner.Joiner.TheVariants.{Waiting, Asking, Probing, Leasing, Done}
use Rattle.join_core.specs.declared.steps.ProbeStep.{ProbeStep}
use Rattle.join_core.specs.declared.steps.ProbeStep.TheVariants.{Dropped, Probe, Lease}
use Rattle.join_core.specs.Joining.{attempt_of, number_of}

abbrev pub unless_empty : List Id → Option (List Id)
unless_empty [] = None
unless_empty (y ∷ ys) = Some (y ∷ ys)

-- JoinReply, with the leaves once its members are learnt: each is probed
abbrev pub reply_of : Joiner → Attempt → List Id → Option (List Id)
reply_of (Asking b n) a leafs = if a == b then unless_empty leafs else None
reply_of (Waiting b) a leafs = None
reply_of (Probing b n probed) a leafs = None
reply_of (Leasing b n l r from_left from_right) a leafs = None
reply_of (Done b) a leafs = None

abbrev pub after_reply : Option (List Id) → Joiner → Joiner
after_reply (Some probes) j = Probing (attempt_of j) (number_of j) (map unanswered probes)
after_reply None j = j

-- the leaves that were not probed yet
abbrev pub new_of : List (Id × Bool) → List Id → List Id
new_of probed leafs = filter (λ y. not (was_probed probed y)) leafs

-- who was probed, after an answer and with these probes more
abbrev pub probed_with : List (Id × Bool) → Id → List Id → List (Id × Bool)
probed_with probed from more = map (answered_by from) probed ++ map unanswered more

abbrev pub are_answered : List (Id × Bool) → Bool
are_answered probed = list_all (λ p. p.1) probed

-- after an answer, with the probes to send now: the leases, where none is unanswered
abbrev pub step_with : Attempt → List (Id × Bool) → Id → List Id → Id → Id → ProbeStep
step_with a probed from more l r = if are_answered (probed_with probed from more) then Lease a l r else Probe more

-- ProbeReply, with the leaves and the first left and right once its members are learnt
abbrev pub probe_step_of : Joiner → Id → Attempt → List Id → Id → Id → ProbeStep
probe_step_of (Probing b n probed) from a leafs l r =
    if (a == b) && list_any (is_unanswered from) probed then step_with b probed from (new_of probed leafs) l r else Dropped
probe_step_of (Waiting b) from a leafs l r = Dropped
probe_step_of (Asking b n) from a leafs l r = Dropped
probe_step_of (Leasing b n x y from_left from_right) from a leafs l r = Dropped
probe_step_of (Done b) from a leafs l r = Dropped

-- another than the sender has not answered
abbrev pub is_awaited_besides : Id → Id × Bool → Bool
is_awaited_besides from p = not (p.0 == from) && not p.1

-- an answer after which it goes on as before: each of these leaves was probed, and another has not answered
abbrev pub goes_on_with : Joiner → Id → List Id → Bool
goes_on_with (Probing b n probed) from leafs = list_all (was_probed probed) leafs && list_any (is_awaited_besides from) probed
goes_on_with (Waiting b) from leafs = false
goes_on_with (Asking b n) from leafs = false
goes_on_with (Leasing b n l r from_left from_right) from leafs = false
goes_on_with (Done b) from leafs = false

-- the sender has answered
abbrev pub heard : Id → Joiner → Joiner
heard from (Probing b n probed) = Probing b n (map (answered_by from) probed)
heard from (Waiting b) = Waiting b
heard from (Asking b n) = Asking b n
heard from (Leasing b n l r from_left from_right) = Leasing b n l r from_left from_right
heard from (Done b) = Done b

-- who was probed so far
abbrev pub probed_of : Joiner → List (Id × Bool)
probed_of (Probing b n probed) = probed
probed_of (Waiting b) = []
probed_of (Asking b n) = []
probed_of (Leasing b n l r from_left from_right) = []
probed_of (Done b) = []

abbrev pub after_probe_reply : ProbeStep → Id → Joiner → Joiner
after_probe_reply (Probe more) from j = Probing (attempt_of j) (number_of j) (probed_with (probed_of j) from more)
after_probe_reply (Lease a l r) from j = Leasing a (number_of j) l r false false
after_probe_reply Dropped from j = j
