use Rattle.std.proofs.Common.{◌≡◌, ◌+◌, ◌++◌, ◌∙◌, ap, arith, List, ℕ, length, sym, subst, take}
use Rattle.std.specs.List.{Contains}
use Rattle.std.proofs.lemmas.List.{length-take-le}
use Rattle.std.proofs.lemmas.Slice.{take-put_mid}
use Rattle.ring_math.specs.Members.{InRing}
use Rattle.ring_math.proofs.Membership.{InRing-append}
use Rattle.ring_math.proofs.lists.IdsBuilder.extend.Goals as goal

pub invariant_of-self : goal.invariant_of-self
invariant_of-self c =
    let before = c.self.inside in
    let added = c.args.ids.now in
    let long : before.len ≡ length c.args.self.now = sym (length-take-le before.len before.ids (omega arith)) ∙ ap length c.self.view_is in
    let is : c.copy_from_slice.new.self ≡ added = c.copy_from_slice.ensures.after in
    let held = take-put_mid before.len _ before.ids c.copy_from_slice.new.self (before.len + length added)
    (ap (λ (xs : List ℕ). before.len + length xs) (sym is)) (omega arith)
    ∙ ap (λ (xs : List ℕ). take before.len before.ids ++ xs) is in (
      omega (arith, long, c.requires.room),
      subst (λ (xs : List ℕ). InRing (Contains xs)) (sym held)
          (InRing-append (take before.len before.ids) added c.self.invariant.1 c.requires.in_ring),
    )
