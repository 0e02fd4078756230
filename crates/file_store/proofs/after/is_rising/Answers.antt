use Rattle.std.proofs.Common.{sym, ◌∙◌, ◌-◌, arith}
use Rattle.file_store.proofs.Named.{rises-end}
use Rattle.file_store.proofs.after.is_rising.Goals as goal

pub returns : goal.returns
returns c = sym (rises-end c.args.files.now (c.loop-place.place - 1) (omega arith)) ∙ c.loop-place.invariant
