-- The joiner: its commands, and the answers to what it asked.
use Rattle.std.specs.Prelude.{◌+◌, Bool, true, false, not, ◌&&◌, ◌||◌, nat_lt, ◌==◌, if◌then◌else◌, Option, Some, None, is_none, List, [], ◌∷◌, ◌++◌, filter}
use Rattle.std.specs.Prelude.{map}
use Rattle.std.specs.List.{list_all, list_any}
use Rattle.ring_math.specs.Names.{Id, Attempt, Number}
use Rattle.ring_math.specs.Sides.{leaves, right_side, left_side, first_or, learn, learn_all}
use Rattle.ring_math.specs.Files.{buried_all}
use Rattle.wire_msg.specs.declared.limits.TheConstants.{LAST_ATTEMPT}
use Rattle.wire_msg.specs.declared.note.Note.TheVariants as note
use Rattle.wire_msg.specs.declared.reply.Answer.TheVariants as answer
use Rattle.wire_msg.specs.declared.reply.Own.{Own}
use Rattle.wire_msg.specs.declared.reply.Own.TheVariants as own
use Rattle.wire_msg.specs.declared.reply.Why.{Why}
use Rattle.wire_msg.specs.declared.reply.Why.TheVariants as why
use Rattle.wire_msg.specs.Words.{JoinRequest, Probe, LeaseRequest, Release, Confirm}
use Rattle.coverage.specs.GapFiles.{Lists}
use Rattle.overlay_rules.specs.State.{State, Phase, Waiting, Asking, Probing, Leasing, Ready}
use Rattle.overlay_rules.specs.Outcome.{Outcome, Sent, nothing, becomes, sent, to_both, to_each}
use Rattle.overlay_rules.specs.ReadyTest.{ready_test}

abbrev pub stopped : State → Number → Own → Outcome
stopped s number why_own = becomes s [] (note.Closed number (answer.Stopped s.me why_own) ∷ [])

-- Join; the last attempt can't be begun
abbrev pub join_in : State → Number → Id → Phase → Outcome
join_in s number via (Waiting a) =
    if a == LAST_ATTEMPT then stopped s number own.Spent
    else becomes (record s { phase = Asking a number }) (sent via (JoinRequest s.me a 0) ∷ []) []
join_in s number via (Asking a n) = stopped s number own.Already
join_in s number via (Probing a n probed) = stopped s number own.Already
join_in s number via (Leasing a n l r from_left from_right) = stopped s number own.Already
join_in s number via (Ready a l r) = stopped s number own.Already

abbrev pub on_join : State → Number → Id → Outcome
on_join s number via = join_in s number via s.phase

-- attempt a of join m is given up by command n
abbrev pub given_up : State → Number → Attempt → Number → List Sent → Outcome
given_up s n a m sends =
    becomes (record s { phase = Waiting (a + 1) }) sends
    (note.Closed m (answer.Stopped s.me own.GivenUp) ∷ (note.Closed n answer.GaveUp ∷ []))

abbrev pub idle : State → Number → Outcome
idle s n = becomes s [] (note.Closed n answer.NothingToGiveUp ∷ [])

-- GiveUp
abbrev pub give_up_in : State → Number → Phase → Outcome
give_up_in s n (Asking a m) = given_up s n a m []
give_up_in s n (Probing a m probed) = given_up s n a m []
give_up_in s n (Leasing a m l r from_left from_right) = given_up s n a m (to_both l r (Release a))
give_up_in s n (Waiting a) = idle s n
give_up_in s n (Ready a l r) = idle s n

abbrev pub on_give_up : State → Number → Outcome
on_give_up s n = give_up_in s n s.phase

-- JoinRefuse
abbrev pub refuse_in : State → Id → Attempt → Why → Phase → Outcome
refuse_in s from a w (Asking b m) =
    if a == b then becomes (record s { phase = Waiting (b + 1) }) [] (note.Closed m (answer.Denied from w) ∷ []) else nothing s
refuse_in s from a w (Waiting b) = nothing s
refuse_in s from a w (Probing b m probed) = nothing s
refuse_in s from a w (Leasing b m l r from_left from_right) = nothing s
refuse_in s from a w (Ready b l r) = nothing s

abbrev pub on_join_refuse : State → Id → Attempt → Why → Outcome
on_join_refuse s from a w = refuse_in s from a w s.phase

abbrev pub unanswered : Id → Id × Bool
unanswered y = (y, false)

-- each leaf is probed; with no leaf nothing happens
abbrev pub probing : State → Attempt → Number → List Id → List Id → Outcome
probing s a m known [] = nothing s
probing s a m known (y ∷ ys) =
    becomes (record s { phase = Probing a m (map unanswered (y ∷ ys)); known = known }) (to_each (y ∷ ys) (Probe a)) []

-- JoinReply, with what is known once its members are learnt
abbrev pub join_reply_in : State → Attempt → List Id → Phase → Outcome
join_reply_in s a known (Asking b m) = if a == b then probing s b m known (leaves s.me known) else nothing s
join_reply_in s a known (Waiting b) = nothing s
join_reply_in s a known (Probing b m probed) = nothing s
join_reply_in s a known (Leasing b m l r from_left from_right) = nothing s
join_reply_in s a known (Ready b l r) = nothing s

abbrev pub on_join_reply : State → Attempt → List Id → Outcome
on_join_reply s a members = join_reply_in s a (learn_all s.me s.known members) s.phase

abbrev pub is_unanswered : Id → Id × Bool → Bool
is_unanswered y p = (p.0 == y) && not p.1

abbrev pub answered_by : Id → Id × Bool → Id × Bool
answered_by y p = if p.0 == y then (y, true) else p

abbrev pub was_probed : List (Id × Bool) → Id → Bool
was_probed probed y = list_any (λ p. p.0 == y) probed

abbrev pub first_left : State → List Id → Id
first_left s known = first_or s.me (left_side s.me known)

abbrev pub first_right : State → List Id → Id
first_right s known = first_or s.me (right_side s.me known)

-- both neighbours are asked for their leases
abbrev pub leasing : State → Attempt → Number → List Id → Outcome
leasing s a m known =
    becomes (record s { phase = Leasing a m (first_left s known) (first_right s known) None None; known = known })
    (to_both (first_left s known) (first_right s known) (LeaseRequest a (first_left s known) (first_right s known))) []

-- the new leaves are probed too
abbrev pub probing_on : State → Attempt → Number → List Id → List (Id × Bool) → List Id → Outcome
probing_on s a m known probed new =
    becomes (record s { phase = Probing a m (probed ++ map unanswered new); known = known }) (to_each new (Probe a)) []

-- after an answer, with the leaves that are now to be probed
abbrev pub probed_on : State → Attempt → Number → List Id → List (Id × Bool) → List Id → Outcome
probed_on s a m known probed new =
    if list_all (λ p. p.1) (probed ++ map unanswered new) then leasing s a m known else probing_on s a m known probed new

-- ProbeReply, with what is known once its members are learnt
abbrev pub probe_reply_in : State → Id → Attempt → List Id → Phase → Outcome
probe_reply_in s from a known (Probing b m probed) =
    if (a == b) && list_any (is_unanswered from) probed
    then probed_on s b m known (map (answered_by from) probed) (filter (λ y. not (was_probed probed y)) (leaves s.me known))
    else nothing s
probe_reply_in s from a known (Waiting b) = nothing s
probe_reply_in s from a known (Asking b m) = nothing s
probe_reply_in s from a known (Leasing b m l r from_left from_right) = nothing s
probe_reply_in s from a known (Ready b l r) = nothing s

abbrev pub on_probe_reply : State → Id → Attempt → List Id → Outcome
on_probe_reply s from a members = probe_reply_in s from a (learn_all s.me s.known members) s.phase

-- what a denial teaches
abbrev pub learnt_of : State → Why → List Id
learnt_of s (why.Moved l r) = learn s.me (learn s.me s.known l) r
learnt_of s (why.Busy j) = s.known
learnt_of s why.NotReady = s.known

-- Deny
abbrev pub deny_in : State → Id → Attempt → Why → Phase → Outcome
deny_in s from a w (Leasing b m l r from_left from_right) =
    if a == b
    then becomes (record s { phase = Waiting (b + 1); known = learnt_of s w }) (to_both l r (Release b)) (note.Closed m (answer.Denied from w) ∷ [])
    else nothing s
deny_in s from a w (Waiting b) = nothing s
deny_in s from a w (Asking b m) = nothing s
deny_in s from a w (Probing b m probed) = nothing s
deny_in s from a w (Ready b l r) = nothing s

abbrev pub on_deny : State → Id → Attempt → Why → Outcome
on_deny s from a w = deny_in s from a w s.phase

-- what a side keeps: the first lists that its node gave
abbrev pub kept_first : Bool → Option Lists → Lists → Option Lists
kept_first is_side (Some old) new = Some old
kept_first true None new = Some new
kept_first false None new = None

-- the lists are kept on each side that the sender is and that has none
abbrev pub leased : Id → Lists → Phase → Phase
leased from lists (Leasing a m l r from_left from_right) =
    Leasing a m l r (kept_first (from == l) from_left lists) (kept_first (from == r) from_right lists)
leased from lists (Waiting a) = Waiting a
leased from lists (Asking a m) = Asking a m
leased from lists (Probing a m probed) = Probing a m probed
leased from lists (Ready a l r) = Ready a l r

-- a joiner in this phase keeps the lists, and buries the tombs
abbrev pub with_grant : State → Id → Lists → Phase → State
with_grant s from lists p = record s { phase = leased from lists p; files = buried_all s.files lists.tombs }

-- a Grant of an attempt that is past is released
abbrev pub older_grant : State → Id → Attempt → Attempt → Outcome
older_grant s from a b = if nat_lt a b then becomes s (sent from (Release a) ∷ []) [] else nothing s

-- Grant
abbrev pub grant_in : State → Id → Attempt → Lists → Phase → Outcome
grant_in s from a lists (Leasing b m l r from_left from_right) =
    if a == b
    then (if ((from == l) && is_none from_left) || ((from == r) && is_none from_right)
    then ready_test (with_grant s from lists (Leasing b m l r from_left from_right)) else nothing s)
    else older_grant s from a b
grant_in s from a lists (Ready b l r) = if a == b then becomes s (sent from (Confirm a) ∷ []) [] else older_grant s from a b
grant_in s from a lists (Waiting b) = older_grant s from a b
grant_in s from a lists (Asking b m) = older_grant s from a b
grant_in s from a lists (Probing b m probed) = older_grant s from a b

abbrev pub on_grant : State → Id → Attempt → Lists → Outcome
on_grant s from a lists = grant_in s from a lists s.phase
