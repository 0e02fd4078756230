-- What a step does about a join, by what the joiner's calls answer: a node has only to put these together.
use Rattle.std.specs.Prelude.{◌+◌, Bool, false, ◌&&◌, ◌||◌, ◌==◌, if◌then◌else◌, Option, Some, None, is_none, List, [], ◌∷◌, map}
use Rattle.ring_math.specs.Names.{Id, Attempt, Number}
use Rattle.overlay_rules.specs.Joining.{unanswered, stopped, given_up, idle, with_grant}
use Rattle.overlay_rules.specs.Outcome.{Outcome, Sent, nothing, becomes, sent, to_both, to_each}
use Rattle.overlay_rules.specs.ReadyTest.{has_all, readied, ready_test}
use Rattle.overlay_rules.specs.State.{State, Phase}
use Rattle.overlay_rules.specs.State as phase
use Rattle.coverage.specs.GapFiles.{Lists}
use Rattle.wire_msg.specs.Words.{JoinRequest, Probe, LeaseRequest, Release, Confirm}
use Rattle.wire_msg.specs.declared.note.Note.TheVariants as note
use Rattle.wire_msg.specs.declared.reply.Answer.TheVariants as answer
use Rattle.wire_msg.specs.declared.reply.Own.TheVariants as own
use Rattle.wire_msg.specs.declared.reply.Why.{Why}
use Rattle.join_core.specs.declared.joiner.Joiner.{Joiner}
use Rattle.join_core.specs.declared.steps.Begin.{Begin}
use Rattle.join_core.specs.declared.steps.Begin.TheVariants as begin
use Rattle.join_core.specs.declared.steps.Finished.{Finished}
use Rattle.join_core.specs.declared.steps.GrantStep.{GrantStep}
use Rattle.join_core.specs.declared.steps.GrantStep.TheVariants as grant
use Rattle.join_core.specs.declared.steps.Halted.{Halted}
use Rattle.join_core.specs.declared.steps.ProbeStep.{ProbeStep}
use Rattle.join_core.specs.declared.steps.ProbeStep.TheVariants as probe
use Rattle.join_core.specs.Joining.{attempt_of, number_of}
use Rattle.join_core.specs.Probes.{probed_of, probed_with}

-- Join
abbrev pub begun_by : State → Number → Id → Begin → Outcome
begun_by s number via (begin.Started a) = becomes (record s { phase = phase.Asking a number }) (sent via (JoinRequest s.me a 0) ∷ []) []
begun_by s number via begin.Already = stopped s number own.Already
begun_by s number via begin.Spent = stopped s number own.Spent

-- JoinReply, with what is known once its members are learnt
abbrev pub replied_by : State → List Id → Joiner → Option (List Id) → Outcome
replied_by s known j (Some probes) =
    becomes (record s { phase = phase.Probing (attempt_of j) (number_of j) (map unanswered probes); known = known })
    (to_each probes (Probe (attempt_of j))) []
replied_by s known j None = nothing s

-- ProbeReply, with what is known once its members are learnt
abbrev pub probed_by : State → Id → List Id → Joiner → ProbeStep → Outcome
probed_by s from known j (probe.Probe more) =
    becomes (record s { phase = phase.Probing (attempt_of j) (number_of j) (probed_with (probed_of j) from more); known = known })
    (to_each more (Probe (attempt_of j))) []
probed_by s from known j (probe.Lease a l r) =
    becomes (record s { phase = phase.Leasing a (number_of j) l r None None; known = known }) (to_both l r (LeaseRequest a l r)) []
probed_by s from known j probe.Dropped = nothing s

-- the lists of a grant are kept on each side that has none; a grant that comes again changes nothing
abbrev pub noted_in : State → Id → Lists → Phase → Outcome
noted_in s from lists (phase.Leasing a n l r from_left from_right) =
    if ((from == l) && is_none from_left) || ((from == r) && is_none from_right)
    then ready_test (with_grant s from lists (phase.Leasing a n l r from_left from_right)) else nothing s
noted_in s from lists (phase.Waiting a) = nothing s
noted_in s from lists (phase.Asking a n) = nothing s
noted_in s from lists (phase.Probing a n probed) = nothing s
noted_in s from lists (phase.Ready a l r) = nothing s

-- Grant
abbrev pub granted_by : State → Id → Attempt → Lists → Phase → GrantStep → Outcome
granted_by s from a lists p grant.Older = becomes s (sent from (Release a) ∷ []) []
granted_by s from a lists p grant.Settled = becomes s (sent from (Confirm a) ∷ []) []
granted_by s from a lists p grant.Noted = noted_in s from lists p
granted_by s from a lists p grant.Dropped = nothing s

-- both leases' lists are there, and all that they name
abbrev pub has_both : State → Phase → Bool
has_both s (phase.Leasing a n l r (Some from_left) (Some from_right)) = has_all s from_left && has_all s from_right
has_both s (phase.Leasing a n l r (Some from_left) None) = false
has_both s (phase.Leasing a n l r None from_right) = false
has_both s (phase.Waiting a) = false
has_both s (phase.Asking a n) = false
has_both s (phase.Probing a n probed) = false
has_both s (phase.Ready a l r) = false

-- the ready test
abbrev pub finished_by : State → Phase → Option Finished → Outcome
finished_by s p (Some f) = if has_both s p then readied s f.attempt f.number f.left f.right else nothing s
finished_by s p None = nothing s

-- those who were asked for a lease are told that it is not wanted
abbrev pub released : Attempt → Option (Id × Id) → List Sent
released a (Some neighbours) = to_both neighbours.0 neighbours.1 (Release a)
released a None = []

-- JoinRefuse and Deny, with what is known then
abbrev pub ended_by : State → List Id → Id → Why → Option Halted → Outcome
ended_by s known from w (Some h) =
    becomes (record s { phase = phase.Waiting (h.attempt + 1); known = known }) (released h.attempt h.neighbours)
    (note.Closed h.number (answer.Denied from w) ∷ [])
ended_by s known from w None = nothing s

-- GiveUp
abbrev pub given_up_by : State → Number → Option Halted → Outcome
given_up_by s n (Some h) = given_up s n h.attempt h.number (released h.attempt h.neighbours)
given_up_by s n None = idle s n
