use Rattle.pastry.proofs.ReadToEnd.{read_scenario}
use Rattle.pastry.proofs.reading.read_input.Goals as goal

pub returns-in-Ok-read_scenario-clause-ok : goal.returns-in-Ok-read_scenario-clause-ok
returns-in-Ok-read_scenario-clause-ok g c =
    read_scenario _ _ c.in-Ok.bytes.items c.in-Ok-read_scenario.scenario
    (record { told = c.in-Ok.ensures.bytes; within = c.in-Ok.ensures.limit })
    (rw (← c.deref.ensures.value) c.in-Ok-read_scenario.ensures.read)
