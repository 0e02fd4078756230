use Rattle.std.proofs.Common.{All, subst}
use Rattle.std.proofs.lemmas.Result.{IfOk-weaker}
use Rattle.weave_laws.specs.Woven.{IsWoven}
use Rattle.weave.specs.Cells.{IsLawful, histories}
use Rattle.overlay_harness.specs.Run.{IsRunOf}
use Rattle.overlay_harness.proofs.Ending.{run_of}
use Rattle.overlay_harness.proofs.Made.{own_nodes}
use Rattle.overlay_harness.proofs.runs.woven_run.Goals as goal

pub woven-requires-clause-apart : goal.woven-requires-clause-apart
woven-requires-clause-apart c = own_nodes c.args.scenario.now c.args.cells.items c.founder-founder.ensures.rules c.requires.cells_are

pub returns : goal.returns
returns c =
    IfOk-weaker c.woven.result (IsWoven (histories c.args.cells.items)) (IsRunOf c.args.scenario.now)
    (λ r w. run_of c.args.scenario.now c.args.cells.items r c.founder-founder.ensures.rules c.requires
    (subst (All IsLawful) c.deref.ensures.value c.cells_law.ensures) w)
    c.woven.ensures
