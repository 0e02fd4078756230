use Rattle.std.proofs.Common.{◌++◌, codes, decimal}
use Rattle.std.proofs.lemmas.Result.{on_ok_weaker}
use Rattle.group_report.proofs.Growing.{Grown, grown_more, grown_pair}
use Rattle.group_report.proofs.counts.Counts.write.Goals as goal

pub returns : goal.returns
returns c =
    let s = c.args.self.now in
    let entries : Grown c.args.text.now (codes "groups entries " ++ decimal s.entries) c.number_after.new.self =
    record { is = c.in_ok-number_after.ensures } in
    let sent = grown_pair entries (codes " sent ") (decimal s.sent) c.in_ok-number_after-2.ensures in
    let undelivered = grown_pair sent (codes " undelivered ") (decimal s.undelivered) c.in_ok-number_after-3.ensures in
    let heard = grown_pair undelivered (codes " heard ") (decimal s.heard) c.in_ok-number_after-4.ensures in
    on_ok_weaker c.put.result (λ last. (grown_more heard (codes "\n") last).is) c.put.ensures
