use Rattle.std.proofs.Common.{◌≡◌, refl, sym, ap, ◌∙◌}
use Rattle.overlay_rules.specs.State.{State}
use Rattle.node_parts.specs.declared.change.Rest.{Rest}
use Rattle.node_parts.specs.declared.change.Rest.TheVariants as rest
use Rattle.node_parts.specs.declared.change.Wait.{Wait}
use Rattle.node_parts.specs.Change.{changed, waited, rest_after}
use Rattle.node_parts.proofs.Making.{keeps, stands-made}
use Rattle.node_parts.proofs.node.Node.commit.Goals as goal

-- what waits may change before the rest does
in_turn : (r : Rest) (w : Wait) (s : State) → rest_after r (waited w s) ≡ waited w (rest_after r s)
in_turn rest.Keep w s = refl
in_turn (rest.Learnt y) w s = refl
in_turn (rest.Answered from) w s = refl
in_turn (rest.Heard from ys) w s = refl
in_turn (rest.Parts p) w s = refl

pub returns-clause-stands : goal.returns-clause-stands
returns-clause-stands c = λ s t st made sound.
    let change = c.args.change in
    let me = c.commit_rest.new.self.same_me ∙ c.commit_rest.ensures.me ∙ c.commit_waiting.ensures.me ∙ sym (ap (λ (u : State). u.me) st.same) in
    stands-made c.commit_rest.new.self change s t me
    (c.commit_rest.ensures.keeps (waited change.waiting s) (changed change s) (c.commit_waiting.ensures.keeps s (keeps _ s st))
    (in_turn change.rest change.waiting s))
    made sound
