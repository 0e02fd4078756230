-- What a node has to know for a key to find its way.
use Rattle.std.specs.Prelude.{◌≡◌, ◌⊎◌, ◌<◌, ◌^◌, List, Contains}
use Rattle.ring_math.specs.Names.{Id}
use Rattle.ring_math.specs.Members.{InRing}
use Rattle.coverage.specs.declared.Reach.{Reach}

-- the node and those that it knows are identifiers, it is not among them, and each link is the node itself or known
pub record KnowsLinks (r : Reach) (known : List Id) : Type 0 where
  pub me : r.me < 2 ^ 128
  pub in_ring : InRing (Contains known)
  pub others : Contains known r.me → ⊥
  pub left : (r.left ≡ r.me) ⊎ Contains known r.left
  pub right : (r.right ≡ r.me) ⊎ Contains known r.right
