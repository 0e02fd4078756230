use Rattle.std.proofs.Common.{sym}
use Rattle.std.proofs.lemmas.Result.{on_ok_weaker}
use Rattle.fetch_cache.specs.Points.{told}
use Rattle.fetch_cache.proofs.Placed.{changed_at_place, changed_nowhere}
use Rattle.fetch_cache.proofs.points.tell.Goals as goal

pub returns-in_default : goal.returns-in_default
returns-in_default c = sym (changed_nowhere c.args.node (told c.args.file.now c.args.bytes) c.args.points.now c.in_default.ensures)

pub returns : goal.returns
returns c =
    on_ok_weaker c.tell.result
    (λ is. changed_at_place c.args.node (told c.args.file.now c.args.bytes) c.args.points.now c.in-Some.place c.index-points-place.result c.tell.new.self
    c.in-Some.ensures is)
    c.tell.ensures
