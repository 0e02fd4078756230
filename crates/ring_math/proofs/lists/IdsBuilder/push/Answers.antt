use Rattle.std.proofs.Common.{arith, List, ℕ, sym, subst}
use Rattle.std.specs.List.{Contains}
use Rattle.std.proofs.lemmas.List.{take_more_set}
use Rattle.ring_math.specs.Members.{InRing}
use Rattle.ring_math.proofs.Membership.{InRing-more}
use Rattle.ring_math.proofs.lists.IdsBuilder.push.Goals as goal

pub invariant_of-self : goal.invariant_of-self
invariant_of-self c =
    let before = c.self.inside in (
      omega arith,
      subst (λ (xs : List ℕ). InRing (Contains xs)) (sym (take_more_set before.ids before.len c.args.id (omega arith)))
          (InRing-more _ c.args.id c.self.invariant.1 (omega arith)),
    )
