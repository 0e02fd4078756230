use Rattle.weave_laws.proofs.Lawful.{woven_is_legal}
use Rattle.weave_laws.proofs.AtNodes.{histories_are_parts}
use Rattle.weave_laws.proofs.weaving_law.Goals as goal

pub returns-clause-woven_is_legal : goal.returns-clause-woven_is_legal
returns-clause-woven_is_legal c = λ hs. woven_is_legal _ hs _

pub returns-clause-histories_are_parts : goal.returns-clause-histories_are_parts
returns-clause-histories_are_parts c = λ hs. histories_are_parts _ hs _
