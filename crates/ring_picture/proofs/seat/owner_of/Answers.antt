use Rattle.std.proofs.Common.{sym, ap, Some, ◌∙◌}
use Rattle.std.proofs.lemmas.List.{get_or_read}
use Rattle.coverage.proofs.Nearest.{closest_in-first}
use Rattle.ring_picture.proofs.seat.owner_of.Goals as goal

pub returns-in-Some : goal.returns-in-Some
returns-in-Some c =
    ap Some (get_or_read c.args.ready.now _ _ c.in-Some.ensures.nearest.within c.index-ready-place.is 0)
    ∙ sym (closest_in-first c.args.ready.now c.args.key c.in-Some.place c.in-Some.ensures.nearest)
