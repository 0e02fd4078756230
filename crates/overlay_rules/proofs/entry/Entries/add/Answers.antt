use Rattle.std.proofs.Common.{◌∙◌, ◌++◌, ◌∷◌, [], List, ap, map, length}
use Rattle.wire_msg.specs.Words.{plain_envelope, plain_sent}
use Rattle.wire_msg.specs.declared.note.Note.{Note}
use Rattle.overlay_rules.specs.declared.entry.Entry.{Entry}
use Rattle.overlay_rules.specs.declared.flat.CompactEntry.{CompactEntry}
use Rattle.overlay_rules.specs.Record.{enveloped}
use Rattle.overlay_rules.specs.Flat.{event_kept}
use Rattle.overlay_rules.proofs.Cut.{Adds, cut-adds, well-adds, entry_of_parts}
use Rattle.overlay_rules.proofs.entry.Entries.add.Goals as goal

-- the lists have the entry of the event, with its messages and notes
adds : (c : goal.After-drop-notes-2) → Adds c.self.inside.lists c.close.new.self c.args.event
    (map (enveloped c.args.stamp c.args.sender) c.args.sends) c.args.notes
adds c =
    let same = c.reserve.ensures.same in
    let last : CompactEntry =
    record { event = c.args.event; sent_end = length c.close.new.self.sent.items; noted_end = length c.close.new.self.notes.items } in
    record {
      entries = c.close.ensures.entries ∙ ap (λ (es : List CompactEntry). es ++ last ∷ []) same.entries;
      sent = ap (map plain_envelope) c.close.ensures.sent ∙ c.send_all.ensures.items
          ∙ ap (λ ms. map plain_envelope ms ++ map (enveloped c.args.stamp c.args.sender) (map plain_sent c.into_items-messages.result.items)) same.sent
          ∙ ap (λ ms. map plain_envelope c.self.inside.lists.sent.items ++ map (enveloped c.args.stamp c.args.sender) ms) c.into_items-messages.ensures;
      notes = c.close.ensures.notes ∙ c.move_all.ensures.items ∙ ap (λ (ns : List Note). ns ++ c.into_items-notes.result.items) same.notes
          ∙ ap (λ (ns : List Note). c.self.inside.lists.notes.items ++ ns) c.into_items-notes.ensures;
    }

pub invariant_of-self-2 : goal.invariant_of-self-2
invariant_of-self-2 c =
    well-adds c.self.inside.lists c.close.new.self c.args.event (map (enveloped c.args.stamp c.args.sender) c.args.sends) c.args.notes
    c.self.invariant (adds c) c.said_law.ensures

pub returns-clause-ok : goal.returns-clause-ok
returns-clause-ok c =
    cut-adds c.self.inside.lists c.close.new.self c.args.event (map (enveloped c.args.stamp c.args.sender) c.args.sends) c.args.notes
    c.self.invariant (adds c)
    ∙ ap (λ (es : List Entry). es ++ entry_of_parts (event_kept c.args.event) (map (enveloped c.args.stamp c.args.sender) c.args.sends) c.args.notes ∷ [])
    c.self.view_is
