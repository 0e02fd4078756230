use Rattle.trace_picture.proofs.Following.{nowhere}
use Rattle.trace_picture.proofs.replay.come.Goals as goal

pub returns-in-None-clause-stand : goal.returns-in-None-clause-stand
returns-in-None-clause-stand c = λ states stand. nowhere c.args.cells.now states c.args.node _ c.in-None.ensures.none stand
