use Rattle.file_laws.proofs.Right.{hits_right}
use Rattle.file_laws.proofs.hits_law.Goals as goal

pub returns : goal.returns
returns c =
    hits_right c.args.scenario.now c.args.room c.args.run.now.steps.entries c.args.run.now.steps.skipped c.args.run.now.hits
    c.actions-actions.ensures.rules c.requires.run c.requires.legal c.requires.right
