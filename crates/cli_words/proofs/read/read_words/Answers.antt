use Rattle.cli_words.proofs.Answered.{plain_answer}
use Rattle.cli_words.proofs.NumberRange.{read_in_range}
use Rattle.cli_words.proofs.read.read_words.Goals as goal

pub returns-clause-plain : goal.returns-clause-plain
returns-clause-plain c = plain_answer _ c.read.result c.read.ensures

pub returns-clause-range : goal.returns-clause-range
returns-clause-range c = read_in_range _ c.read.result c.read.ensures
