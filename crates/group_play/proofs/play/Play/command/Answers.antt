use Rattle.std.proofs.Common.{◌∙◌, ℕ, List, ap, refl, subst, sym}
use Rattle.scribe_core.specs.declared.entry.GroupEvent.{GroupEvent}
use Rattle.scribe_core.specs.declared.entry.GroupEvent.TheVariants as event
use Rattle.scribe_core.specs.Laws.{groups_in}
use Rattle.scribe_core.specs.Parts.{Command}
use Rattle.scribe_core.specs.Played.{happened}
use Rattle.scribe_core.specs.Record.{Visit}
use Rattle.world_model.specs.Recorded.{world_of}
use Rattle.group_play.specs.declared.seats.Seats.{Seats}
use Rattle.group_play.specs.Seats.{AreSeats, StepsTo}
use Rattle.group_play.proofs.Happening.{fresh_newest, is_happened, still_plays}
use Rattle.group_play.proofs.play.Play.command.Goals as goal

pub returns-clause-plays : goal.returns-clause-plays
returns-clause-plays c =
    let name = c.in_ok-group.group in
    let at : Visit = record { node = c.args.node; group = name; input = Command c.args.number c.args.command.now } in
    let v : GroupEvent = event.Command c.args.node c.args.number name c.args.command.now in
    let parts = (groups_in (world_of c.args.world.now) c.args.self.now.writer.entries).parts in
    let closes = rw (c.in_ok-copy.ensures, c.in_ok-copy-2.ensures) at c.in_ok-close.ensures.entries in
    still_plays c.args.world.now c.args.self.now c.close.new.self v at c.command.new.writer c.requires.plays refl
    (subst (λ (s : Seats). StepsTo (world_of c.args.world.now) s parts at c.args.self.now.writer c.command.new.writer) (sym c.in_ok-close.ensures.seats)
    (c.in_ok-command.ensures.steps parts c.requires.plays.parts)) closes c.requires.member
    (fresh_newest c.args.self.now.writer.entries c.args.node c.args.number name c.args.command.now c.requires.newest)
    (subst AreSeats (sym c.in_ok-close.ensures.seats) c.in_ok-command.ensures.seats) c.in_ok-close.ensures.messages
    c.in_ok-close.ensures.nothing_sent c.in_ok-close.ensures.nothing_noted

pub returns-clause-entries : goal.returns-clause-entries
returns-clause-entries c =
    let name = c.in_ok-group.group in
    let at : Visit = record { node = c.args.node; group = name; input = Command c.args.number c.args.command.now } in
    let v : GroupEvent = event.Command c.args.node c.args.number name c.args.command.now in
    let parts = (groups_in (world_of c.args.world.now) c.args.self.now.writer.entries).parts in
    let closes = rw (c.in_ok-copy.ensures, c.in_ok-copy-2.ensures) at c.in_ok-close.ensures.entries in
    is_happened c.args.world.now c.args.self.now c.close.new.self v at c.command.new.writer c.requires.plays refl
    (subst (λ (s : Seats). StepsTo (world_of c.args.world.now) s parts at c.args.self.now.writer c.command.new.writer) (sym c.in_ok-close.ensures.seats)
    (c.in_ok-command.ensures.steps parts c.requires.plays.parts)) closes
    ∙ ap (λ (n : List ℕ). happened (world_of c.args.world.now) c.args.self.now.writer.entries
    (event.Command c.args.node c.args.number n c.args.command.now)) c.in_ok-group.ensures
