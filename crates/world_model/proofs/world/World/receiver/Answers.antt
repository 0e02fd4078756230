use Rattle.std.proofs.Common.{◌≡◌, ◌<◌, ◌∙◌, List, Some, Contains, length, get_or, sym, ap, subst}
use Rattle.std.proofs.lemmas.List.{length-map, get_or-map}
use Rattle.std.proofs.lemmas.Option.{slice_get-get_or}
use Rattle.wire_msg.specs.Words.{Envelope, plain_envelope}
use Rattle.overlay_rules.specs.declared.entry.Event.TheVariants as event
use Rattle.overlay_rules.specs.Record.{sent_in}
use Rattle.step_facts.proofs.Receivers.{receivers_are_nodes}
use Rattle.world_model.specs.Cells.{ids_of}
use Rattle.world_model.specs.Recorded.{Recorded, setting_of}
use Rattle.world_model.specs.Worlds.{ComesTo}
use Rattle.world_model.proofs.MoreEvents.{delivery-comes}
use Rattle.world_model.proofs.world.World.receiver.Goals as goal
use Rattle.world_model.proofs.world.World.receiver.Goals.{After-index-sent-message}

abbrev past : (c : After-index-sent-message) → Recorded
past c = record { nodes = ids_of c.self.inside.cells; founder = c.self.inside.founder; entries = c.self.inside.entries }

abbrev envelope : (c : After-index-sent-message) → Envelope
envelope c = plain_envelope c.index-sent-message.result

within : (c : After-index-sent-message) → c.args.message < length (sent_in (past c).entries)
within c = subst (λ (q : Recorded). c.args.message < length (sent_in q.entries)) (sym c.self.view_is) c.requires

-- the envelope at hand is the message
read : (c : After-index-sent-message) → get_or (sent_in (past c).entries) c.args.message (envelope c) ≡ envelope c
read c =
    ap (λ (vs : List Envelope). get_or vs c.args.message (envelope c)) (sym c.sent-sent.ensures)
    ∙ get_or-map plain_envelope c.sent-sent.result.now c.args.message c.index-sent-message.result (envelope c)
    (subst (λ k. c.args.message < k) (ap length (sym c.sent-sent.ensures) ∙ length-map c.sent-sent.result.now plain_envelope) (within c))
    ∙ ap plain_envelope (sym c.index-sent-message.is)

pub place-requires : goal.place-requires
place-requires c =
    let here : After-index-sent-message = (goal.at.place-requires c).After-index-sent-message in
    subst (λ (v : Envelope). Contains (past here).nodes v.receiver) (read here)
    (receivers_are_nodes (setting_of (past here)) (past here).entries c.self.invariant.legal c.self.invariant.vias c.args.message (envelope here) (within here))

pub returns : goal.returns
returns c =
    let here : After-index-sent-message = (goal.at.returns c).After-index-sent-message in
    subst (λ (q : Recorded). ComesTo q (event.Deliver c.args.message) c.place.result) c.self.view_is
    (delivery-comes (past here) c.args.message c.place.result (envelope here)
    (slice_get-get_or (sent_in (past here).entries) c.args.message (envelope here) (within here) ∙ ap Some (read here))
    c.place.ensures.within c.place.ensures.id)
