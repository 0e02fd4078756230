use Rattle.std.proofs.Common.{rules, filter, not, ap, ◌∙◌}
use Rattle.std.proofs.lemmas.Fn.{filter_same}
use Rattle.overlay_rules.specs.Gatekeeper.{is_left_to}
use Rattle.past_core.specs.Waits.{Waits}
use Rattle.past_core.proofs.past.Past.leave.Goals as goal

pub returns : goal.returns
returns c =
    filter_same _ (λ p. not (is_left_to c.args.reach.now c.args.joiner p)) _ (λ x b f' k. search rules) _ _ c.retain.ensures.filtered
    ∙ ap (λ (w : Waits). filter (λ p. not (is_left_to c.args.reach.now c.args.joiner p)) w.asks) c.self.view_is
