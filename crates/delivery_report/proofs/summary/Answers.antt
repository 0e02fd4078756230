use Rattle.std.proofs.Common.{◌≡◌, ℕ, IfOk, subst}
use Rattle.schedule.specs.Schedule.{setting_of}
use Rattle.delivery_report.specs.Tally.{brief_of}
use Rattle.delivery_report.proofs.summary.Goals as goal

pub returns : goal.returns
returns c =
    let g = setting_of c.args.scenario.now in
    subst (λ (n : ℕ). IfOk c.brief_of.result (λ text. text ≡ brief_of g n c.args.steps.now.entries c.args.steps.now.skipped))
    c.command_count.ensures (c.brief_of.ensures g c.requires)
