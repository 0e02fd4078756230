use Rattle.std.proofs.Common.{◌≡◌, ◌<◌, ℕ, List, ap, subst, slice_index, length, sym}
use Rattle.overlay_rules.specs.declared.entry.Event.{Event}
use Rattle.world_model.specs.Recorded.{Recorded}
use Rattle.world_model.specs.Worlds.{ComesTo}
use Rattle.world_model.proofs.MoreEvents.{command-comes}
use Rattle.world_model.proofs.world.World.command.Goals as goal

pub happen-requires-clause-comes : goal.happen-requires-clause-comes
happen-requires-clause-comes c =
    let nodes = ap (λ (q : Recorded). q.nodes) c.self.view_is in
    subst (λ (e : Event). ComesTo c.args.self.now e c.place-place.result) (sym c.in_ok-event.ensures)
    (command-comes c.args.self.now c.args.node c.args.number c.in_ok-command.command c.place-place.result
    (subst (λ (ids : List ℕ). c.place-place.result < length ids) nodes c.place-place.ensures.within)
    (subst (λ (ids : List ℕ). slice_index ids c.place-place.result ≡ c.args.node) nodes c.place-place.ensures.id))
