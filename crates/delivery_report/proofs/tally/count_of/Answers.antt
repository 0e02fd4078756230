use Rattle.std.proofs.Common.{rules, ◌≡◌, ◌∙◌}
use Rattle.std.specs.List.{count_by}
use Rattle.std.specs.Option.{option_copied}
use Rattle.delivery_report.specs.Tally.{outcome_of, is_same}
use Rattle.delivery_report.proofs.Counted.{count_by-map}
use Rattle.delivery_report.proofs.tally.count_of.Goals as goal

pub returns : goal.returns
returns c =
    let counted : c.count.result ≡ count_by (λ o. is_same (outcome_of (option_copied o)) c.args.outcome) c.args.closings.now = search rules in
    counted ∙ count_by-map (λ o. is_same (outcome_of o) c.args.outcome) option_copied c.args.closings.now
