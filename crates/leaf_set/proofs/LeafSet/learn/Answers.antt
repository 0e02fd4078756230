use Rattle.std.proofs.Common.{All, ◌<◌, ◌^◌, arith, ◌≡◌, false, not, ◌&&◌, ◌||◌, take, sym, ◌∙◌, ap, subst}
use Rattle.std.proofs.lemmas.Bool.{or_parts, or_left}
use Rattle.ring_math.specs.declared.limits.TheConstants.{LEAVES_PER_SIDE}
use Rattle.ring_math.specs.Ring.{cw_of}
use Rattle.ring_math.specs.Sides.{is_in, placed}
use Rattle.ring_math.specs.Direction.{far}
use Rattle.ring_math.specs.declared.direction.Direction.TheVariants.{Clockwise, Counterclockwise}
use Rattle.leaf_set.specs.Leaves.{Leaves, holds}
use Rattle.leaf_set.specs.Rising.{Rises}
use Rattle.leaf_set.proofs.Learning.{rises-side, all-side, lacking, stands-known, stands-placed}
use Rattle.leaf_set.proofs.LeafSet.learn.Goals as goal
use Rattle.leaf_set.proofs.LeafSet.learn.Goals.{then-on_right, else-on_right}

pub returns-then-not-lacks-clause-stands : goal.returns-then-not-lacks-clause-stands
returns-then-not-lacks-clause-stands c = λ known st.
    stands-known c.args.self.now known c.args.id st (sym c.lacks.ensures ∙ c.if-not-lacks.true)

pub returns-clause-stands : goal.returns-clause-stands
returns-clause-stands c = λ known st.
    let apart = lacking c.args.self.now c.args.id (sym c.lacks.ensures ∙ c.if-not-lacks.false) in
    stands-placed c.args.self.now _ known c.args.id st apart.0 apart.1 (ap (λ (s : Leaves). s.me) c.self.view_is)
    (subst (λ (s : Leaves). c.place-on_right.new.self ≡ take LEAVES_PER_SIDE (placed (λ z. cw_of s.me z) c.args.id s.right)) c.self.view_is
    c.place-on_right.ensures.placed)
    (subst (λ (s : Leaves). c.place-on_left.new.self ≡ take LEAVES_PER_SIDE (placed (λ z. cw_of z s.me) c.args.id s.left)) c.self.view_is
    c.place-on_left.ensures.placed)

pub returns-clause-answer : goal.returns-clause-answer
returns-clause-answer c =
    let y = c.args.id in
    let apart = lacking c.args.self.now y (sym c.lacks.ensures ∙ c.if-not-lacks.false) in
    let out = or_parts _ _ (subst (λ (s : Leaves). holds s y ≡ false) (sym c.self.view_is) apart.1) in
    let right = c.place-on_right.ensures.answer out.0 in
    let left = c.place-on_left.ensures.answer out.1 in
    let on_right = is_in c.place-on_right.new.self y in
    let on_left = is_in c.place-on_left.new.self y in
    let either : c.if-on_right.result ≡ on_right || on_left =
    elim c.if-on_right.branch [
      | then-on_right w ↦ w.result-is ∙ w.if-on_right.true ∙ sym (or_left on_right on_left (sym right ∙ w.if-on_right.true))
      | else-on_right w ↦ w.result-is ∙ left ∙ sym (ap (λ b. b || on_left) (sym right ∙ w.if-on_right.false))
    ] in
    either ∙ sym (ap (λ b. not b && (on_right || on_left)) apart.1)

pub invariant_of-self : goal.invariant_of-self
invariant_of-self c =
    let right = far c.self.inside.me Clockwise in
    let left = far c.self.inside.me Counterclockwise in (
      subst (Rises right) (sym c.place-on_right.ensures.placed) (rises-side right c.args.id c.self.inside.right c.self.invariant.0),
      subst (Rises left) (sym c.place-on_left.ensures.placed) (rises-side left c.args.id c.self.inside.left c.self.invariant.1),
      subst (All (λ z. z < 2 ^ 128)) (sym c.place-on_right.ensures.placed)
          (all-side (λ z. z < 2 ^ 128) right c.args.id c.self.inside.right (omega arith) c.self.invariant.2),
      subst (All (λ z. z < 2 ^ 128)) (sym c.place-on_left.ensures.placed)
          (all-side (λ z. z < 2 ^ 128) left c.args.id c.self.inside.left (omega arith) c.self.invariant.3),
    )
