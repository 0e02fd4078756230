use Rattle.file_laws.proofs.Kept.{file_comes_back}
use Rattle.file_laws.proofs.large_law.Goals as goal

pub returns : goal.returns
returns c = λ f few is. file_comes_back c.args.entries.now c.table_law.ensures.stored_stays f few
