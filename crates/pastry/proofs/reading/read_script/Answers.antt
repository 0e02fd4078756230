use Rattle.pastry.proofs.ReadToEnd.{read_script}
use Rattle.pastry.proofs.reading.read_script.Goals as goal

pub returns-in-Ok-read_groups-clause-ok : goal.returns-in-Ok-read_groups-clause-ok
returns-in-Ok-read_groups-clause-ok g c =
    read_script _ _ c.in-Ok.bytes.items c.in-Ok-read_groups.script
    (record { told = c.in-Ok.ensures.bytes; within = c.in-Ok.ensures.limit })
    (rw (← c.deref.ensures.value) c.in-Ok-read_groups.ensures.read)
