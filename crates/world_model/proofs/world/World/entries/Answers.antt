use Rattle.std.proofs.Common.{subst}
use Rattle.world_model.specs.Recorded.{Recorded, setting_of}
use Rattle.world_model.specs.Worlds.{IsWorld}
use Rattle.step_facts.proofs.Receivers.{receivers_are_nodes}
use Rattle.world_model.proofs.world.World.entries.Goals as goal

pub returns-clause-receivers : goal.returns-clause-receivers
returns-clause-receivers c =
    let w : IsWorld c.self.inside.cells c.self.inside.messages c.args.self.now =
    subst (λ (r : Recorded). IsWorld c.self.inside.cells c.self.inside.messages r) c.self.view_is c.self.invariant in
    receivers_are_nodes (setting_of c.args.self.now) c.args.self.now.entries w.legal w.vias
