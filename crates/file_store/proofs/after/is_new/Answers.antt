use Rattle.std.proofs.Common.{arith}
use Rattle.std.proofs.lemmas.Grind.{common_steps}
use Rattle.file_store.proofs.Named.{rises-new}
use Rattle.file_store.proofs.after.is_new.Goals as goal

pub returns-then-is_rising : goal.returns-then-is_rising
returns-then-is_rising c =
    let new = rises-new c.args.tombs.now c.args.place (c.requires.rising c.if-is_rising.true) c.requires.within in
    grind (arith, common_steps, new)
