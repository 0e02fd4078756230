-- Links and gates without their lists are those of the gates with them.
use Rattle.std.proofs.Common.{◌≡◌, ℕ, Bool, true, false, ◌==◌, if◌then◌else◌, Option, Some, None, [], filter, not, refl, ap, ◌∙◌}
use Rattle.coverage.specs.declared.Reach.{Reach}
use Rattle.coverage.specs.GapFiles.{Lists}
use Rattle.overlay_rules.specs.declared.gate.Gate.{Gate}
use Rattle.overlay_rules.specs.declared.gate.Verdict.TheVariants.{Grant}
use Rattle.overlay_rules.specs.State.{State, Lease, bare, joiner_of}
use Rattle.overlay_rules.specs.Gates.{is_older, unless, gate_on, asked_links}
use Rattle.overlay_rules.specs.Gatekeeper.{links_of, unless_lease, gated_reach, cleared, is_left_to}
use Rattle.gate_core.specs.Reached.{joiner_in, reach_of}

abbrev reach_with : ℕ → ℕ → ℕ → Option ℕ → Option ℕ → Reach
reach_with me x y i j = record { me = me; left = x; right = y; left_joiner = i; right_joiner = j }

joiner-gated : (b : Bool) (g : Gate) (lists : Lists) (test : Gate → Bool) (x : Option Lease) →
    joiner_in (gate_on b g (unless test (bare x))) ≡ joiner_of (gate_on b (record { gate = g; lists = lists }) (unless_lease test x))
joiner-gated true g lists test x = refl
joiner-gated false g lists test None = refl
joiner-gated false g lists test (Some h) = by_test (test h.gate) where
  by_test : (b : Bool) → joiner_in (if b then None else Some h.gate) ≡ joiner_of (if b then None else Some h)
  by_test true = refl
  by_test false = refl

-- what coverage sees once a request was granted
pub gated-reach : (s : State) (x y : ℕ) (g : Gate) →
    reach_of (asked_links (links_of s x y) s.me g Grant) s.me ≡ gated_reach (cleared s g.joiner g.attempt) x y g
gated-reach s x y g =
    let lists : Lists = record { manifest = []; tombs = [] } in
    let older = is_older g.joiner g.attempt in
    ap (λ (j : Option ℕ). reach_with s.me x y j (joiner_in (gate_on (s.me == g.left) g (unless older (bare s.right_gate)))))
    (joiner-gated (s.me == g.right) g lists older s.left_gate)
    ∙ ap (reach_with s.me x y (joiner_of (gate_on (s.me == g.right) (record { gate = g; lists = lists }) (unless_lease older s.left_gate))))
    (joiner-gated (s.me == g.left) g lists older s.right_gate)

-- the state once these gates stand, and the inserts in the gap are over
abbrev pub opened_state : State → Option Lease → Option Lease → Reach → ℕ → State
opened_state s left right r j = record s { left_gate = left; right_gate = right; pending = filter (λ p. not (is_left_to r j p)) s.pending }
