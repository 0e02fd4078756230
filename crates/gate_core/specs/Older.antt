-- A gate that is its joiner's with an older attempt.
use Rattle.std.specs.Prelude.{Bool, false, Option, Some, None}
use Rattle.ring_math.specs.Names.{Id, Attempt}
use Rattle.overlay_rules.specs.declared.gate.Gate.{Gate}
use Rattle.overlay_rules.specs.Gates.{is_older}

abbrev pub is_older_gate : Id → Attempt → Option Gate → Bool
is_older_gate j a None = false
is_older_gate j a (Some g) = is_older j a g
