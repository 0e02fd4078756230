-- The reach of a node's links and gates is the reach of its state.
use Rattle.std.proofs.Common.{◌≡◌, ℕ, Option, Some, None, refl}
use Rattle.overlay_rules.specs.State.{State, Lease, bare, joiner_of, reach}
use Rattle.overlay_rules.specs.Gatekeeper.{links_of}
use Rattle.gate_core.specs.Reached.{joiner_in, reach_of}

joiner_in-bare : (lease : Option Lease) → joiner_in (bare lease) ≡ joiner_of lease
joiner_in-bare None = refl
joiner_in-bare (Some g) = refl

pub reach_of-links_of : (s : State) (left right : ℕ) → reach_of (links_of s left right) s.me ≡ reach s left right
reach_of-links_of s left right = rw (joiner_in-bare s.left_gate, joiner_in-bare s.right_gate) refl
