use Rattle.file_laws.proofs.Given.{given}
use Rattle.file_laws.proofs.given_law.Goals as goal

pub returns : goal.returns
returns c =
    given c.args.nodes c.args.seed c.args.size c.requires.size c.args.scenario.now c.args.steps.now.entries c.requires.scenario c.requires.played
    c.requires.legal c.requires.right
