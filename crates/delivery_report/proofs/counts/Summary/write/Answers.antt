use Rattle.std.proofs.Common.{◌++◌, codes, decimal}
use Rattle.std.proofs.lemmas.Result.{on_ok_weaker}
use Rattle.delivery_report.proofs.Steps.{Grown, Grown-more, Grown-pair}
use Rattle.delivery_report.proofs.counts.Summary.write.Goals as goal

pub returns : goal.returns
returns c =
    let s = c.args.self.now in
    let entries : Grown c.args.text.now (codes "summary entries " ++ decimal s.entries) c.number_after.new.self =
    record { is = c.in_ok-number_after.ensures } in
    let sent = Grown-pair entries (codes " sent ") (decimal s.sent) c.in_ok-number_after-2.ensures in
    let undelivered = Grown-pair sent (codes " undelivered ") (decimal s.undelivered) c.in_ok-number_after-3.ensures in
    let deliveries = Grown-pair undelivered (codes " deliveries ") (decimal s.deliveries) c.in_ok-number_after-4.ensures in
    let skipped = Grown-pair deliveries (codes " skipped ") (decimal s.skipped) c.in_ok-number_after-5.ensures in
    let ready = Grown-pair skipped (codes " ready ") (decimal s.ready) c.in_ok-number_after-6.ensures in
    on_ok_weaker c.put.result (λ last. (Grown-more ready (codes "\n") last).is) c.put.ensures
