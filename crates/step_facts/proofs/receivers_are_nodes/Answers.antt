use Rattle.step_facts.proofs.Always.{by_types}
use Rattle.step_facts.proofs.Receivers.{receivers_are_nodes}
use Rattle.step_facts.proofs.receivers_are_nodes.Goals as goal

pub returns : goal.returns
returns c = receivers_are_nodes _ _ (by_types c.requires.setting c.said_law.ensures c.requires.legal) c.requires.vias
