-- What it means that a row was planned.
use Rattle.std.specs.Prelude.{List, Result, IfOk}
use Rattle.ring_math.specs.Names.{Id}
use Rattle.ring_math.specs.declared.memory.OutOfMemory.{OutOfMemory}
use Rattle.overlay_rules.specs.State.{State}
use Rattle.overlay_rules.specs.Outcome.{Outcome}
use Rattle.node_parts.specs.declared.change.Prepared.{Prepared}
use Rattle.node_parts.specs.declared.change.Wait.{Wait}
use Rattle.node_parts.specs.declared.node.Node.{Node}
use Rattle.node_parts.specs.Change.{waited}
use Rattle.node_parts.specs.Seen.{seen, Shows}
use Rattle.node_parts.specs.Plans.{Plans}

-- for each state that the node shows, what was prepared is the row's outcome, once the command's number waits
abbrev pub IsRow : Node → Wait → (State → Outcome) → Result Prepared OutOfMemory → Type 0
IsRow n wait row result =
    (known : List Id) → Shows n known → IfOk result (λ p. Plans (seen n known) p (row (waited wait (seen n known))))
