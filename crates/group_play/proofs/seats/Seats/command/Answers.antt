use Rattle.std.proofs.Common.{refl, subst}
use Rattle.scribe_core.specs.Parts.{Command, Part}
use Rattle.scribe_core.specs.Record.{way_in}
use Rattle.scribe_core.specs.Step.{group_step}
use Rattle.world_model.specs.Recorded.{world_of}
use Rattle.group_play.specs.Said.{Gives}
use Rattle.group_play.proofs.Seating.{shown_set, stands_at}
use Rattle.group_play.proofs.seats.Seats.command.Goals as goal

pub returns-clause-steps : goal.returns-clause-steps
returns-clause-steps c = λ parts h.
    let x = c.args.at.now.node in
    let name = c.args.at.now.group.now in
    let shown = c.in_ok-place.ensures.parts parts h in
    let stands = stands_at c.place.new.self x name c.in_ok-place.place c.index_mut-part.result.now parts shown
    c.in_ok-place.ensures.place c.index_mut-part.ensures.value in
    let gives = subst (λ (p : Part). Gives x name c.command.new.self c.args.writer.now c.command.new.writer
    (group_step (way_in (world_of c.args.world.now) x name) name p (Command c.args.number c.args.command.now)))
    stands.is (c.in_ok-command.ensures (parts x name).seen stands.seen) in
    record {
      shown = shown_set c.place.new.self _ x name c.in_ok-place.place c.command.new.self parts _ shown
          c.in_ok-place.ensures.seats c.in_ok-place.ensures.place gives.part refl refl;
      entries = gives.entries;
      messages = gives.messages;
      notes = gives.notes;
    }
