use Rattle.std.proofs.Common.{rules, ◌≡◌, ◌++◌, ◌∷◌, [], List, filter, not, ap, ◌∙◌}
use Rattle.std.proofs.lemmas.Fn.{filter_same}
use Rattle.overlay_rules.specs.declared.request.Pending.{Pending}
use Rattle.overlay_rules.specs.Roots.{is_ask}
use Rattle.past_core.specs.Waits.{Waits}
use Rattle.past_core.proofs.past.Past.add.Goals as goal

pub returns : goal.returns
returns c =
    let kept : c.retain.new.self.items ≡ filter (λ p. not (is_ask c.args.ask.origin c.args.ask.number p)) c.args.self.now.asks =
    filter_same _ (λ p. not (is_ask c.args.ask.origin c.args.ask.number p)) _ (λ x b f' k. search rules) _ _ c.retain.ensures.filtered
    ∙ ap (λ (w : Waits). filter (λ p. not (is_ask c.args.ask.origin c.args.ask.number p)) w.asks) c.self.view_is in
    c.push_within.ensures ∙ ap (λ (xs : List Pending). xs ++ c.args.ask ∷ []) kept
