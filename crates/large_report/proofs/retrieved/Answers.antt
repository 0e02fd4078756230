use Rattle.std.proofs.Common.{◌≡◌, IfOk, List, Option, map, subst, arith}
use Rattle.wire_msg.specs.declared.reply.Answer.{Answer}
use Rattle.delivery_report.specs.Answers.{found_by}
use Rattle.large_report.proofs.Tails.{copied_tail}
use Rattle.large_report.proofs.retrieved.Goals as goal

pub returns : goal.returns
returns c =
    subst (λ (closings : List (Option Answer)). IfOk c.each_found.result (λ found. found.items ≡ map found_by closings))
    (copied_tail c.saturating_sub-first.result c.args.fragments c.args.closings.now (omega (arith, c.saturating_sub-first.ensures)))
    c.each_found.ensures
