use Rattle.std.proofs.Common.{◌∙◌, List, ℕ, subst}
use Rattle.std.specs.List.{Contains}
use Rattle.ring_math.specs.Members.{InRing}
use Rattle.ring_math.proofs.lists.Ids.range_law.Goals as goal

pub returns : goal.returns
returns c = subst (λ (xs : List ℕ). InRing (Contains xs)) (c.deref.ensures ∙ c.self.view_is) c.range_law.ensures
