use Rattle.std.proofs.Common.{◌∙◌, subst}
use Rattle.world_model.specs.Recorded.{Recorded}
use Rattle.world_model.specs.Worlds.{IsWorld}
use Rattle.world_model.proofs.MoreEvents.{oldest-of}
use Rattle.world_model.proofs.world.World.oldest_undelivered.Goals as goal

pub returns-in-Some : goal.returns-in-Some
returns-in-Some c =
    let w : IsWorld c.self.inside.cells c.self.inside.messages c.args.self.now =
    subst (λ (r : Recorded). IsWorld c.self.inside.cells c.self.inside.messages r) c.self.view_is c.self.invariant in
    c.in-Some.ensures ∙ oldest-of c.args.self.now c.self.inside.messages w.listed

pub returns-in-None : goal.returns-in-None
returns-in-None c =
    let w : IsWorld c.self.inside.cells c.self.inside.messages c.args.self.now =
    subst (λ (r : Recorded). IsWorld c.self.inside.cells c.self.inside.messages r) c.self.view_is c.self.invariant in
    c.in-None.ensures ∙ oldest-of c.args.self.now c.self.inside.messages w.listed
