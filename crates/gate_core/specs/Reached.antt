-- What coverage sees of a node with these links and gates.
use Rattle.std.specs.Prelude.{Option, Some, None}
use Rattle.ring_math.specs.Names.{Id}
use Rattle.coverage.specs.declared.Reach.{Reach}
use Rattle.overlay_rules.specs.declared.gate.Gate.{Gate}
use Rattle.overlay_rules.specs.Gates.{Links}

abbrev pub joiner_in : Option Gate → Option Id
joiner_in None = None
joiner_in (Some g) = Some g.joiner

abbrev pub reach_of : Links → Id → Reach
reach_of k me =
    record { me = me; left = k.left; right = k.right; left_joiner = joiner_in k.left_gate; right_joiner = joiner_in k.right_gate }
