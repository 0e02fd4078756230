-- The ready node as gatekeeper: probes, leases with their lists, and what becomes of a gate.
use Rattle.std.specs.Prelude.{Bool, not, ◌==◌, if◌then◌else◌, Option, Some, None, List, [], ◌∷◌, ◌++◌, filter}
use Rattle.ring_math.specs.Names.{Id, Attempt, FileId}
use Rattle.ring_math.specs.Keys.{key_of}
use Rattle.ring_math.specs.Sides.{learn}
use Rattle.ring_math.specs.Files.{Slot, slot_of}
use Rattle.ring_math.specs.declared.file.Held.{Held}
use Rattle.coverage.specs.declared.Reach.{Reach}
use Rattle.coverage.specs.Coverage.{in_gap_of}
use Rattle.coverage.specs.GapFiles.{Lists, lists_in_gap}
use Rattle.wire_msg.specs.declared.reply.Reply.TheVariants as reply
use Rattle.wire_msg.specs.declared.reply.Why.{Why}
use Rattle.wire_msg.specs.declared.reply.Why.TheVariants as why
use Rattle.wire_msg.specs.Words.{ProbeReply, Grant, Deny, Handover}
use Rattle.overlay_rules.specs.declared.gate.Gate.{Gate}
use Rattle.overlay_rules.specs.declared.gate.Verdict.{Verdict}
use Rattle.overlay_rules.specs.declared.gate.Verdict.TheVariants as verdict
use Rattle.overlay_rules.specs.declared.request.Pending.{Pending}
use Rattle.overlay_rules.specs.State.{State, Lease, Phase, Waiting, Asking, Probing, Leasing, Ready, bare, reach}
use Rattle.overlay_rules.specs.Outcome.{Outcome, Sent, nothing, becomes, sent}
use Rattle.overlay_rules.specs.Routed.{members}
use Rattle.overlay_rules.specs.Roots.{replied_each}
use Rattle.overlay_rules.specs.Gates.{Links, is_of, is_older, gate_on, verdict as verdict_of, holds_gate, link_after}

-- Probe
abbrev pub probe_in : State → Id → Attempt → Phase → Outcome
probe_in s from a (Ready b l r) = becomes s (sent from (ProbeReply a (members s)) ∷ []) []
probe_in s from a (Waiting b) = nothing s
probe_in s from a (Asking b m) = nothing s
probe_in s from a (Probing b m probed) = nothing s
probe_in s from a (Leasing b m l r from_left from_right) = nothing s

abbrev pub on_probe : State → Id → Attempt → Outcome
on_probe s from a = probe_in s from a s.phase

-- the links and gates of a state with these links, without the lists
abbrev pub links_of : State → Id → Id → Links
links_of s left right = record { left = left; right = right; left_gate = bare s.left_gate; right_gate = bare s.right_gate }

-- the lease, taken away where the test holds of its gate
abbrev pub unless_lease : (Gate → Bool) → Option Lease → Option Lease
unless_lease test None = None
unless_lease test (Some g) = if test g.gate then None else Some g

abbrev pub without_gates : (Gate → Bool) → State → State
without_gates test s = record s { left_gate = unless_lease test s.left_gate; right_gate = unless_lease test s.right_gate }

-- without the joiner's gates of older attempts
abbrev pub cleared : State → Id → Attempt → State
cleared s from a = without_gates (is_older from a) s

-- the bytes of a file, where there are some, before these
abbrev pub with_handover : Id → FileId → Option Slot → List Sent → List Sent
with_handover to file (Some (Some bytes)) rest = sent to (Handover file bytes) ∷ rest
with_handover to file (Some None) rest = rest
with_handover to file None rest = rest

-- each file of the manifest that has bytes, in order
abbrev pub handovers : Id → List Held → List FileId → List Sent
handovers to files [] = []
handovers to files (f ∷ fs) = with_handover to f (slot_of files f) (handovers to files fs)

-- the Grant, and the files that go with it
abbrev pub granted : Id → Attempt → Lists → List Held → List Sent
granted from a lists files = sent from (Grant a lists.manifest lists.tombs) ∷ handovers from files lists.manifest

abbrev pub deny : State → Id → Attempt → Why → Outcome
deny s from a w = becomes s (sent from (Deny a w) ∷ []) []

abbrev pub lists_of : Option Lease → Lists
lists_of None = record { manifest = []; tombs = [] }
lists_of (Some g) = g.lists

-- with the lease that a request asks for on each side that it asks for
abbrev pub with_lease : State → Gate → Lists → State
with_lease s g lists =
    record s {
      left_gate = gate_on (s.me == g.right) (record { gate = g; lists = lists }) s.left_gate;
      right_gate = gate_on (s.me == g.left) (record { gate = g; lists = lists }) s.right_gate;
    }

-- what coverage sees once the gates stand
abbrev pub gated_reach : State → Id → Id → Gate → Reach
gated_reach s left right g = reach (with_lease s g (record { manifest = []; tombs = [] })) left right

abbrev pub is_left_to : Reach → Id → Pending → Bool
is_left_to gated j p = in_gap_of gated j (key_of p.file)

-- the gates are opened with these lists; inserts that wait in the gap are replied Busy
abbrev pub opened : State → Reach → Gate → Lists → Outcome
opened s gated g lists =
    let after : State = record (with_lease s g lists) { pending = filter (λ p. not (is_left_to gated g.joiner p)) s.pending } in
    let ended : Outcome = replied_each after (reply.Busy s.me g.joiner) (filter (is_left_to gated g.joiner) s.pending) in
    becomes after (granted g.joiner g.attempt lists s.files ++ ended.sends) ended.notes

abbrev pub newly_gated : State → Id → Id → Gate → Outcome
newly_gated s left right g =
    opened s (gated_reach s left right g) g (lists_in_gap (gated_reach s left right g) g.joiner s.files)

-- LeaseRequest, by the verdict
abbrev pub lease_by : State → Id → Id → Gate → Verdict → Outcome
lease_by s left right g verdict.Again =
    becomes s (granted g.joiner g.attempt (lists_of (if s.me == g.left then s.right_gate else s.left_gate)) s.files) []
lease_by s left right g (verdict.Busy j) = deny (cleared s g.joiner g.attempt) g.joiner g.attempt (why.Busy j)
lease_by s left right g (verdict.Moved x y) = deny (cleared s g.joiner g.attempt) g.joiner g.attempt (why.Moved x y)
lease_by s left right g verdict.Grant = newly_gated (cleared s g.joiner g.attempt) left right g

abbrev pub lease_in : State → Gate → Phase → Outcome
lease_in s g (Ready b left right) = lease_by s left right g (verdict_of (links_of s left right) s.me g)
lease_in s g (Waiting b) = deny s g.joiner g.attempt why.NotReady
lease_in s g (Asking b m) = deny s g.joiner g.attempt why.NotReady
lease_in s g (Probing b m probed) = deny s g.joiner g.attempt why.NotReady
lease_in s g (Leasing b m x y from_left from_right) = deny s g.joiner g.attempt why.NotReady

abbrev pub on_lease_request : State → Gate → Outcome
on_lease_request s g = lease_in s g s.phase

-- Release
abbrev pub on_release : State → Id → Attempt → Outcome
on_release s from a = becomes (without_gates (is_of from a) s) [] []

-- Confirm
abbrev pub confirmed : State → Id → Attempt → Attempt → Id → Id → State
confirmed s from a b left right =
    record (without_gates (is_of from a) s) {
      phase = Ready b (link_after from a (bare s.left_gate) left) (link_after from a (bare s.right_gate) right);
      known = learn s.me s.known from;
    }

abbrev pub confirm_in : State → Id → Attempt → Phase → Outcome
confirm_in s from a (Ready b left right) =
    if holds_gate (links_of s left right) from a then becomes (confirmed s from a b left right) [] [] else nothing s
confirm_in s from a (Waiting b) = nothing s
confirm_in s from a (Asking b m) = nothing s
confirm_in s from a (Probing b m probed) = nothing s
confirm_in s from a (Leasing b m l r from_left from_right) = nothing s

abbrev pub on_confirm : State → Id → Attempt → Outcome
on_confirm s from a = confirm_in s from a s.phase
