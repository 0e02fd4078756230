use Rattle.std.proofs.Common.{◌∙◌, ap}
use Rattle.scenario_reader.specs.Plain.{ids}
use Rattle.overlay_harness.proofs.threaded.served_by_threads.Goals as goal

pub served_in-requires-clause-nodes : goal.served_in-requires-clause-nodes
served_in-requires-clause-nodes g c κs within =
    c.in_ok-post.ensures.nodes ∙ c.deref.ensures.value ∙ c.in_ok-nodes.ensures ∙ ap ids c.nodes.ensures.value
