-- What each state of a node keeps: the node and those that it knows are identifiers, and it never knows itself; who probes knows
-- somebody; who asks for leases stands strictly between two that it knows; each link is the node itself or known; and an insert
-- waits for no more replicas than it can have targets.
use Rattle.std.specs.Prelude.{◌≡◌, ◌≢◌, ◌⊎◌, ◌<◌, ◌≤◌, ◌^◌, true, List, [], Contains, length}
use Rattle.ring_math.specs.Names.{Id}
use Rattle.ring_math.specs.Ring.{is_between}
use Rattle.ring_math.specs.Members.{InRing}
use Rattle.wire_msg.specs.declared.limits.TheConstants.{MOST_TARGETS}
use Rattle.overlay_rules.specs.declared.request.Pending.{Pending}
use Rattle.overlay_rules.specs.State.{State, Phase, Waiting, Asking, Probing, Leasing, Ready}

-- the node itself, or known
abbrev pub IsLink : Id → List Id → Id → Type 0
IsLink me known y = (y ≡ me) ⊎ Contains known y

-- two that are asked for their leases
pub record AreAsked (me : Id) (known : List Id) (l r : Id) : Type 0 where
  pub left : Contains known l
  pub right : Contains known r
  pub between : is_between l me r ≡ true

pub record AreLinks (me : Id) (known : List Id) (l r : Id) : Type 0 where
  pub left : IsLink me known l
  pub right : IsLink me known r

abbrev pub PhaseIsSound : Id → List Id → Phase → Type 0
PhaseIsSound me known (Probing a n probed) = known ≢ []
PhaseIsSound me known (Leasing a n l r from_left from_right) = AreAsked me known l r
PhaseIsSound me known (Ready a l r) = AreLinks me known l r
PhaseIsSound me known (Waiting a) = Unit {0}
PhaseIsSound me known (Asking a n) = Unit {0}

pub record IsSound (s : State) : Type 0 where
  pub me : s.me < 2 ^ 128
  pub in_ring : InRing (Contains s.known)
  pub others : Contains s.known s.me → ⊥
  pub phase : PhaseIsSound s.me s.known s.phase
  pub pending : (p : Pending) → Contains s.pending p → length p.targets ≤ MOST_TARGETS
