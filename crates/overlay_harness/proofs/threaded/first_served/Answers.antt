use Rattle.std.proofs.Common.{[], map, take, sym, subst}
use Rattle.overlay_harness.specs.Served.{IsServedTo}
use Rattle.overlay_harness.specs.Shown.{shown}
use Rattle.overlay_harness.proofs.Ending.{served_to_none}
use Rattle.overlay_harness.proofs.threaded.first_served.Goals as goal

pub returns-then-count-eq0 : goal.returns-then-count-eq0
returns-then-count-eq0 g c =
    subst (λ n. IsServedTo c.args.scenario.now (map shown (take n c.args.all.now)) c.in_ok-new_cells.field-0.items) (sym c.if-count-eq0.true)
    (subst (IsServedTo c.args.scenario.now []) (sym c.in_ok-new_cells.ensures) (served_to_none c.args.scenario.now))
