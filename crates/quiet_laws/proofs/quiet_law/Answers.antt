use Rattle.step_facts.proofs.Always.{by_types}
use Rattle.quiet_laws.proofs.Nobody.{nobody_waits, nobody_waits_with_room}
use Rattle.quiet_laws.proofs.quiet_law.Goals as goal

pub returns-clause-nobody_waits : goal.returns-clause-nobody_waits
returns-clause-nobody_waits c = nobody_waits _ _ (by_types c.requires.setting c.said_law.ensures c.requires.legal)

pub returns-clause-nobody_waits_with_room : goal.returns-clause-nobody_waits_with_room
returns-clause-nobody_waits_with_room c = nobody_waits_with_room _ _ (by_types c.requires.setting c.said_law.ensures c.requires.legal)
