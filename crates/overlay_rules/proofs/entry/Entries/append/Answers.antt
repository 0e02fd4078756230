use Rattle.std.proofs.Common.{◌∙◌, ◌++◌, ◌∷◌, [], List, ap, map, length}
use Rattle.std.proofs.lemmas.List.{map-append}
use Rattle.wire_msg.specs.Words.{plain_envelope}
use Rattle.wire_msg.specs.declared.message.Envelope.{Envelope as CodeEnvelope}
use Rattle.wire_msg.specs.declared.note.Note.{Note}
use Rattle.overlay_rules.specs.declared.entry.Entry.{Entry}
use Rattle.overlay_rules.specs.declared.flat.CompactEntry.{CompactEntry}
use Rattle.overlay_rules.specs.Flat.{event_kept}
use Rattle.overlay_rules.proofs.Cut.{Adds, cut-adds, well-adds, entry_of_parts}
use Rattle.overlay_rules.proofs.entry.Entries.append.Goals as goal

-- the lists have the entry
adds : (c : goal.After-close) → Adds c.self.inside.lists c.close.new.self c.args.event (map plain_envelope c.args.messages.now.items)
    c.args.notes.now.items
adds c =
    let same = c.reserve.ensures.same in
    let last : CompactEntry =
    record { event = c.args.event; sent_end = length c.close.new.self.sent.items; noted_end = length c.close.new.self.notes.items } in
    record {
      entries = c.close.ensures.entries ∙ ap (λ (es : List CompactEntry). es ++ last ∷ []) same.entries;
      sent = ap (map plain_envelope) (c.close.ensures.sent ∙ c.move_all.ensures.items
          ∙ ap (λ (ms : List CodeEnvelope). ms ++ c.args.messages.now.items) same.sent)
          ∙ map-append plain_envelope c.self.inside.lists.sent.items c.args.messages.now.items;
      notes = c.close.ensures.notes ∙ c.move_all-2.ensures.items ∙ ap (λ (ns : List Note). ns ++ c.args.notes.now.items) same.notes;
    }

pub invariant_of-self-2 : goal.invariant_of-self-2
invariant_of-self-2 c =
    well-adds c.self.inside.lists c.close.new.self c.args.event (map plain_envelope c.args.messages.now.items) c.args.notes.now.items
    c.self.invariant (adds c)
    c.said_law.ensures

pub returns-clause-ok : goal.returns-clause-ok
returns-clause-ok c =
    cut-adds c.self.inside.lists c.close.new.self c.args.event (map plain_envelope c.args.messages.now.items) c.args.notes.now.items
    c.self.invariant (adds c)
    ∙ ap (λ (es : List Entry). es ++ entry_of_parts (event_kept c.args.event) (map plain_envelope c.args.messages.now.items) c.args.notes.now.items ∷ [])
    c.self.view_is
