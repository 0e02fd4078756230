use Rattle.std.proofs.Common.{◌∙◌, ap, subst, sym}
use Rattle.scribe_core.specs.declared.entry.GroupEvent.{GroupEvent}
use Rattle.scribe_core.specs.declared.entry.GroupEvent.TheVariants as event
use Rattle.scribe_core.specs.Laws.{groups_in}
use Rattle.scribe_core.specs.Parts.{Comes}
use Rattle.scribe_core.specs.Record.{Visit, visit_of}
use Rattle.scribe_core.proofs.Receivers.{receiver_is_node}
use Rattle.world_model.specs.Recorded.{setting_of, world_of}
use Rattle.group_play.specs.declared.seats.Seats.{Seats}
use Rattle.group_play.specs.Seats.{AreSeats, StepsTo}
use Rattle.group_play.proofs.Happening.{is_happened, still_plays}
use Rattle.group_play.proofs.Listing.{sent_is}
use Rattle.group_play.proofs.play.Play.deliver.Goals as goal

pub message-requires-clause-member : goal.message-requires-clause-member
message-requires-clause-member c =
    let is = sent_is c.args.self.now.writer.entries c.sent.result.now c.args.self.now.writer.messages c.args.message c.index-sent-message.result
    c.in_ok-sent.sent c.sent.ensures c.requires.plays.nothing_sent c.requires.sent c.index-sent-message.is c.in_ok-sent.ensures in
    receiver_is_node (setting_of c.args.world.now) c.args.world.now.entries c.args.self.now.writer.entries c.requires.legal c.requires.plays.legal
    c.args.message c.in_ok-sent.sent is

pub returns-clause-plays : goal.returns-clause-plays
returns-clause-plays c =
    let is = sent_is c.args.self.now.writer.entries c.sent.result.now c.args.self.now.writer.messages c.args.message c.index-sent-message.result
    c.in_ok-sent.sent c.sent.ensures c.requires.plays.nothing_sent c.requires.sent c.index-sent-message.is c.in_ok-sent.ensures in
    let s = c.in_ok-sent.sent in
    let at : Visit = record { node = s.receiver; group = s.group; input = Comes s.sender s.message } in
    let v : GroupEvent = event.Deliver c.args.message in
    let parts = (groups_in (world_of c.args.world.now) c.args.self.now.writer.entries).parts in
    still_plays c.args.world.now c.args.self.now c.close.new.self v at c.message.new.writer c.requires.plays (ap visit_of is)
    (subst (λ (t : Seats). StepsTo (world_of c.args.world.now) t parts at c.args.self.now.writer c.message.new.writer) (sym c.in_ok-close.ensures.seats)
    (c.in_ok-message.ensures.steps parts c.requires.plays.parts)) c.in_ok-close.ensures.entries
    (receiver_is_node (setting_of c.args.world.now) c.args.world.now.entries c.args.self.now.writer.entries c.requires.legal c.requires.plays.legal
    c.args.message s is) tt
    (subst AreSeats (sym c.in_ok-close.ensures.seats) c.in_ok-message.ensures.seats) c.in_ok-close.ensures.messages
    c.in_ok-close.ensures.nothing_sent c.in_ok-close.ensures.nothing_noted

pub returns-clause-entries : goal.returns-clause-entries
returns-clause-entries c =
    let is = sent_is c.args.self.now.writer.entries c.sent.result.now c.args.self.now.writer.messages c.args.message c.index-sent-message.result
    c.in_ok-sent.sent c.sent.ensures c.requires.plays.nothing_sent c.requires.sent c.index-sent-message.is c.in_ok-sent.ensures in
    let s = c.in_ok-sent.sent in
    let at : Visit = record { node = s.receiver; group = s.group; input = Comes s.sender s.message } in
    let v : GroupEvent = event.Deliver c.args.message in
    let parts = (groups_in (world_of c.args.world.now) c.args.self.now.writer.entries).parts in
    is_happened c.args.world.now c.args.self.now c.close.new.self v at c.message.new.writer c.requires.plays (ap visit_of is)
    (subst (λ (t : Seats). StepsTo (world_of c.args.world.now) t parts at c.args.self.now.writer c.message.new.writer) (sym c.in_ok-close.ensures.seats)
    (c.in_ok-message.ensures.steps parts c.requires.plays.parts)) c.in_ok-close.ensures.entries
