use Rattle.std.proofs.Common.{◌≡◌, List, [], filter, ap, sym, ◌∙◌, subst}
use Rattle.overlay_rules.specs.declared.request.Pending.{Pending}
use Rattle.overlay_rules.specs.Gatekeeper.{is_left_to}
use Rattle.past_core.specs.Waits.{Waits}
use Rattle.past_core.proofs.Passing.{some_pass, on_err}
use Rattle.past_core.proofs.past.Past.in_gap.Goals as goal

pub returns-in_err-push-clause-refused : goal.returns-in_err-push-clause-refused
returns-in_err-push-clause-refused c =
    let test = is_left_to c.args.reach.now c.args.joiner in
    let read : c.as_slice-ask-items.result.now ≡ c.args.self.now.asks =
    c.as_slice-ask-items.ensures.value ∙ ap (λ (w : Waits). w.asks) c.self.view_is in
    on_err c.from_residual.result (filter test c.args.self.now.asks ≡ [] → ⊥)
    (subst (λ (asks : List Pending). filter test asks ≡ [] → ⊥) read
    (some_pass test c.as_slice-ask-items.result.now c.loop-ask.ask-index c.ask-item.result c.loop-ask-test.true c.ask-item.is
    (sym c.is_left.ensures ∙ c.if-is_left.true)))
