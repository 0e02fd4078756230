use Rattle.std.proofs.Common.{◌≡◌, IfOk, Option, sym, subst}
use Rattle.std.proofs.lemmas.Result.{IfOk-weaker}
use Rattle.ring_math.specs.Names.{Content}
use Rattle.fetch_cache.proofs.Placed.{asked_at_place, remembered_nowhere, remembered_there}
use Rattle.fetch_cache.proofs.points.ask.Goals as goal

pub returns-in_default-clause-bytes : goal.returns-in_default-clause-bytes
returns-in_default-clause-bytes c = sym (remembered_nowhere c.args.node c.args.file.now c.args.points.now c.in_default.ensures)

pub returns-clause-bytes : goal.returns-clause-bytes
returns-clause-bytes c =
    subst (λ (o : Option Content). IfOk c.ask.result (λ found. found ≡ o))
    (sym (remembered_there c.args.node c.args.file.now c.args.points.now c.in-Some.place c.index-points-place.result c.in-Some.ensures))
    c.ask.ensures.bytes

pub returns-clause-points : goal.returns-clause-points
returns-clause-points c =
    IfOk-weaker c.ask.result _ _
    (λ found is. asked_at_place c.args.node c.args.file.now c.args.points.now c.in-Some.place c.index-points-place.result c.ask.new.self found
    c.in-Some.ensures is)
    c.ask.ensures.point
