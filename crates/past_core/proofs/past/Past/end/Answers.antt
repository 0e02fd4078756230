use Rattle.std.proofs.Common.{rules, filter, not, ap, ◌∙◌}
use Rattle.std.proofs.lemmas.Fn.{filter_same}
use Rattle.overlay_rules.specs.Roots.{is_of}
use Rattle.past_core.specs.Waits.{Waits}
use Rattle.past_core.proofs.past.Past.end.Goals as goal

pub returns : goal.returns
returns c =
    filter_same _ (λ p. not (is_of c.args.file.now p)) _ (λ x b f' k. search rules) _ _ c.retain.ensures.filtered
    ∙ ap (λ (w : Waits). filter (λ p. not (is_of c.args.file.now p)) w.asks) c.self.view_is
