-- Nobody is left waiting: which commands of a quiet record are closed.
use Rattle.std.specs.Prelude.{◌⊎◌, ◌<◌, List, length, Contains}
use Rattle.ring_math.specs.declared.limits.TheConstants.{MOST_ENTRIES}
use Rattle.ring_math.specs.Names.{Id, Number}
use Rattle.wire_msg.specs.declared.command.Command.{Command as NodeCommand}
use Rattle.overlay_rules.specs.declared.entry.Entry.{Entry}
use Rattle.overlay_rules.specs.Record.{Setting, World, world_after}
use Rattle.overlay_rules.specs.Rightly.{WasCommanded}
use Rattle.quiet_laws.specs.Quiet.{IsQuiet}
use Rattle.quiet_laws.specs.Closed.{IsClosed}
use Rattle.quiet_laws.specs.Excuses.{MayWait}

-- the world after the whole record
abbrev pub last_world : Setting → List Entry → World
last_world g es = world_after g es (length es)

-- in a quiet record each command is closed, unless a store is full
abbrev pub NobodyWaits : Setting → List Entry → Type 0
NobodyWaits g es =
    IsQuiet es → (x : Id) (n : Number) (c : NodeCommand) → WasCommanded (last_world g es) x n c → IsClosed es n ⊎ MayWait g (last_world g es) x n c

-- in a quiet record in which no store is full, each command is closed
abbrev pub NobodyWaitsWithRoom : Setting → List Entry → Type 0
NobodyWaitsWithRoom g es =
    IsQuiet es → ((y : Id) → Contains g.nodes y → length ((last_world g es).states y).files < MOST_ENTRIES) →
    (x : Id) (n : Number) (c : NodeCommand) → WasCommanded (last_world g es) x n c → IsClosed es n
