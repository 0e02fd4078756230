use Rattle.std.proofs.Common.{List, subst}
use Rattle.weave_laws.specs.Cells.{History}
use Rattle.wire_msg.specs.Words.{plain_envelope}
use Rattle.weave.specs.Cells.{histories}
use Rattle.weave.specs.Stray.{IsDueTo}
use Rattle.weave.specs.declared.fault.WeaveFault.TheVariants as fault
use Rattle.weave.proofs.Strays.{no_stray}
use Rattle.overlay_harness.proofs.runs.woven.Goals as goal

pub unreachable-requires : goal.unreachable-requires
unreachable-requires c =
    let hs : List History = histories c.args.cells.items in
    let first : IsDueTo hs (fault.Stray c.in-Err-Stray.field-0-0 c.in-Err-Stray.field-0-1 c.in-Err-Stray.field-0-2) =
    subst (IsDueTo hs) c.in-Err-Stray.field-0-is c.in-Err-Stray.ensures.due in
    no_stray hs c.requires.sent c.in-Err-Stray.field-0-0 c.in-Err-Stray.field-0-1 (plain_envelope c.in-Err-Stray.field-0-2) first.stray
