use Rattle.overlay_harness.proofs.TooOften.{woven_of_these}
use Rattle.overlay_harness.proofs.tests.copies_are_counted.Goals as goal

pub came_at_most-requires : goal.came_at_most-requires
came_at_most-requires g c = woven_of_these _ c.in_ok-steps.steps c.in_ok-steps.ensures.run.woven

pub came_at_most-requires-2 : goal.came_at_most-requires-2
came_at_most-requires-2 g c = woven_of_these _ c.in_ok-steps.steps c.in_ok-steps.ensures.run.woven
