use Rattle.std.proofs.Common.{◌≡◌, ◌≤◌, ◌∙◌, ℕ, List, Some, sym, ap, subst, length, get_or, map, slice_range}
use Rattle.wire_msg.specs.declared.message.Envelope.{Envelope as CodeEnvelope}
use Rattle.wire_msg.specs.declared.note.Note.{Note}
use Rattle.wire_msg.specs.Words.{Envelope, plain_envelope}
use Rattle.overlay_rules.specs.declared.entry.Event.{Event}
use Rattle.overlay_rules.specs.declared.flat.CompactEntry.{CompactEntry}
use Rattle.overlay_rules.specs.Flat.{event_kept, noted_start, sent_start}
use Rattle.overlay_rules.proofs.Cut.{lies-at, cut-get, entry_of_parts, slice_range-map}
use Rattle.overlay_rules.proofs.flat.Lists.at.Goals as goal

pub between-requires-clause-order : goal.between-requires-clause-order
between-requires-clause-order c =
    subst (λ k. k ≤ c.index-entry.result.now.sent_end) (sym c.starts-starts.ensures.sent)
    (lies-at 0 0 c.args.self.now.entries.items (length c.args.self.now.sent.items) (length c.args.self.now.notes.items) c.args.place c.index-entry.result.now
    c.requires.well.rise c.requires.within c.index-entry.ensures).sent_order

pub between-requires-clause-within : goal.between-requires-clause-within
between-requires-clause-within c =
    subst (λ (ms : List CodeEnvelope). c.index-entry.result.now.sent_end ≤ length ms) (sym c.deref.ensures.value)
    (lies-at 0 0 c.args.self.now.entries.items (length c.args.self.now.sent.items) (length c.args.self.now.notes.items) c.args.place c.index-entry.result.now
    c.requires.well.rise c.requires.within c.index-entry.ensures).sent_within

pub between-requires-2-clause-order : goal.between-requires-2-clause-order
between-requires-2-clause-order c =
    subst (λ k. k ≤ c.index-entry.result.now.noted_end) (sym c.starts-starts.ensures.noted)
    (lies-at 0 0 c.args.self.now.entries.items (length c.args.self.now.sent.items) (length c.args.self.now.notes.items) c.args.place c.index-entry.result.now
    c.requires.well.rise c.requires.within c.index-entry.ensures).noted_order

pub between-requires-2-clause-within : goal.between-requires-2-clause-within
between-requires-2-clause-within c =
    subst (λ (ns : List Note). c.index-entry.result.now.noted_end ≤ length ns) (sym c.deref-2.ensures.value)
    (lies-at 0 0 c.args.self.now.entries.items (length c.args.self.now.sent.items) (length c.args.self.now.notes.items) c.args.place c.index-entry.result.now
    c.requires.well.rise c.requires.within c.index-entry.ensures).noted_within

pub returns : goal.returns
returns c =
    let e : CompactEntry = c.index-entry.result.now in
    let es : List CompactEntry = c.args.self.now.entries.items in
    let read : get_or es c.args.place e ≡ e = sym c.index-entry.ensures in
    let messages : slice_range (map plain_envelope c.args.self.now.sent.items) (sent_start 0 es c.args.place) e.sent_end
    ≡ map plain_envelope c.between.result.now =
    slice_range-map plain_envelope c.args.self.now.sent.items (sent_start 0 es c.args.place) e.sent_end
    ∙ ap (λ (ms : List CodeEnvelope). map plain_envelope (slice_range ms (sent_start 0 es c.args.place) e.sent_end)) (sym c.deref.ensures.value)
    ∙ ap (λ (k : ℕ). map plain_envelope (slice_range c.deref.result.now k e.sent_end)) (sym c.starts-starts.ensures.sent)
    ∙ ap (λ (ms : List CodeEnvelope). map plain_envelope ms) (sym c.between.ensures) in
    let notes : slice_range c.args.self.now.notes.items (noted_start 0 es c.args.place) e.noted_end ≡ c.between-2.result.now =
    ap (λ (ns : List Note). slice_range ns (noted_start 0 es c.args.place) e.noted_end) (sym c.deref-2.ensures.value)
    ∙ ap (λ (k : ℕ). slice_range c.deref-2.result.now k e.noted_end) (sym c.starts-starts.ensures.noted)
    ∙ sym c.between-2.ensures in
    cut-get 0 0 es (map plain_envelope c.args.self.now.sent.items) c.args.self.now.notes.items c.args.place e c.requires.within
    ∙ ap (λ (f : CompactEntry). Some (entry_of_parts (event_kept f.event)
    (slice_range (map plain_envelope c.args.self.now.sent.items) (sent_start 0 es c.args.place) f.sent_end)
    (slice_range c.args.self.now.notes.items (noted_start 0 es c.args.place) f.noted_end))) read
    ∙ ap (λ (ms : List Envelope). Some (entry_of_parts (event_kept e.event) ms
    (slice_range c.args.self.now.notes.items (noted_start 0 es c.args.place) e.noted_end))) messages
    ∙ ap (λ (ns : List Note). Some (entry_of_parts (event_kept e.event) (map plain_envelope c.between.result.now) ns)) notes
    ∙ ap (λ (v : Event). Some (entry_of_parts v (map plain_envelope c.between.result.now) c.between-2.result.now)) (sym c.seen.ensures)
