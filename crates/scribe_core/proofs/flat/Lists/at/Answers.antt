use Rattle.std.proofs.Common.{◌≡◌, ◌≤◌, ◌∙◌, ℕ, List, Some, sym, ap, subst, length, slice_range}
use Rattle.scribe_core.specs.declared.entry.GroupEvent.{GroupEvent}
use Rattle.scribe_core.specs.declared.flat.CompactEntry.{CompactEntry}
use Rattle.scribe_core.specs.declared.message.GroupSent.{GroupSent}
use Rattle.scribe_core.specs.declared.note.GroupNote.{GroupNote}
use Rattle.scribe_core.specs.Flat.{event_kept, noted_ends, sent_ends, start_of}
use Rattle.scribe_core.proofs.Cut.{cut-get, entry_of_parts, lies-at}
use Rattle.scribe_core.proofs.flat.Lists.at.Goals as goal

pub between-requires-clause-order : goal.between-requires-clause-order
between-requires-clause-order c =
    subst (λ k. k ≤ c.index-entry.result.now.sent_end) (sym c.starts-starts.ensures.sent)
    (lies-at c.args.self.now c.args.place c.index-entry.result.now c.requires.order c.requires.within c.index-entry.ensures).sent_order

pub between-requires-clause-within : goal.between-requires-clause-within
between-requires-clause-within c =
    subst (λ (ms : List GroupSent). c.index-entry.result.now.sent_end ≤ length ms) (sym c.deref.ensures.value)
    (lies-at c.args.self.now c.args.place c.index-entry.result.now c.requires.order c.requires.within c.index-entry.ensures).sent_within

pub between-requires-2-clause-order : goal.between-requires-2-clause-order
between-requires-2-clause-order c =
    subst (λ k. k ≤ c.index-entry.result.now.noted_end) (sym c.starts-starts.ensures.noted)
    (lies-at c.args.self.now c.args.place c.index-entry.result.now c.requires.order c.requires.within c.index-entry.ensures).noted_order

pub between-requires-2-clause-within : goal.between-requires-2-clause-within
between-requires-2-clause-within c =
    subst (λ (ns : List GroupNote). c.index-entry.result.now.noted_end ≤ length ns) (sym c.deref-2.ensures.value)
    (lies-at c.args.self.now c.args.place c.index-entry.result.now c.requires.order c.requires.within c.index-entry.ensures).noted_within

pub returns : goal.returns
returns c =
    let e : CompactEntry = c.index-entry.result.now in
    let es : List CompactEntry = c.args.self.now.entries.items in
    let all_sent : List GroupSent = c.args.self.now.sent.items in
    let all_notes : List GroupNote = c.args.self.now.notes.items in
    let messages : slice_range all_sent (start_of 0 (sent_ends es) c.args.place) e.sent_end ≡ c.between.result.now =
    ap (λ (ms : List GroupSent). slice_range ms (start_of 0 (sent_ends es) c.args.place) e.sent_end) (sym c.deref.ensures.value)
    ∙ ap (λ (k : ℕ). slice_range c.deref.result.now k e.sent_end) (sym c.starts-starts.ensures.sent) ∙ sym c.between.ensures in
    let notes : slice_range all_notes (start_of 0 (noted_ends es) c.args.place) e.noted_end ≡ c.between-2.result.now =
    ap (λ (ns : List GroupNote). slice_range ns (start_of 0 (noted_ends es) c.args.place) e.noted_end) (sym c.deref-2.ensures.value)
    ∙ ap (λ (k : ℕ). slice_range c.deref-2.result.now k e.noted_end) (sym c.starts-starts.ensures.noted) ∙ sym c.between-2.ensures in
    cut-get 0 0 es all_sent all_notes c.args.place e c.requires.within
    ∙ ap (λ (f : CompactEntry). Some (entry_of_parts (event_kept f.event) (slice_range all_sent (start_of 0 (sent_ends es) c.args.place) f.sent_end)
    (slice_range all_notes (start_of 0 (noted_ends es) c.args.place) f.noted_end))) (sym c.index-entry.ensures)
    ∙ ap (λ (ms : List GroupSent). Some (entry_of_parts (event_kept e.event) ms
    (slice_range all_notes (start_of 0 (noted_ends es) c.args.place) e.noted_end))) messages
    ∙ ap (λ (ns : List GroupNote). Some (entry_of_parts (event_kept e.event) c.between.result.now ns)) notes
    ∙ ap (λ (v : GroupEvent). Some (entry_of_parts v c.between.result.now c.between-2.result.now)) (sym c.seen.ensures)
