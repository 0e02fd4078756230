use Rattle.std.proofs.Common.{◌++◌, codes, decimal}
use Rattle.std.proofs.lemmas.Result.{on_ok_weaker}
use Rattle.delivery_report.proofs.Steps.{Grown, Grown-more, Grown-pair}
use Rattle.delivery_report.proofs.tally.Tally.write.Goals as goal

pub returns : goal.returns
returns c =
    let t = c.args.self.now in
    let joined : Grown c.args.text.now (codes "tally joined " ++ decimal t.joined) c.number_after.new.self = record { is = c.in_ok-number_after.ensures } in
    let denied = Grown-pair joined (codes " denied ") (decimal t.denied) c.in_ok-number_after-2.ensures in
    let stored = Grown-pair denied (codes " stored ") (decimal t.stored) c.in_ok-number_after-3.ensures in
    let found = Grown-pair stored (codes " found ") (decimal t.found) c.in_ok-number_after-4.ensures in
    let missing = Grown-pair found (codes " missing ") (decimal t.missing) c.in_ok-number_after-5.ensures in
    let unanswered = Grown-pair missing (codes " unanswered ") (decimal t.unanswered) c.in_ok-number_after-6.ensures in
    let other = Grown-pair unanswered (codes " other ") (decimal t.other) c.in_ok-number_after-7.ensures in
    on_ok_weaker c.put.result (λ last. (Grown-more other (codes "\n") last).is) c.put.ensures
