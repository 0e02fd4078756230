-- How entries lie in lists: each with what lies between the end of the entry before it and its own end. What lies behind the last
-- one is the next one's.
use Rattle.std.specs.Prelude.{◌≡◌, ◌≤◌, ℕ, List, [], ◌∷◌, drop, length, map, slice_index_or, slice_range}
use Rattle.scribe_core.specs.declared.entry.GroupEvent.{GroupEvent}
use Rattle.scribe_core.specs.declared.entry.GroupEvent.TheVariants as event
use Rattle.scribe_core.specs.declared.flat.CompactEvent.{CompactEvent}
use Rattle.scribe_core.specs.declared.flat.CompactEvent.TheVariants as compact
use Rattle.scribe_core.specs.declared.flat.CompactEntry.{CompactEntry}
use Rattle.scribe_core.specs.declared.flat.Lists.{Lists}
use Rattle.scribe_core.specs.declared.message.GroupSent.{GroupSent}
use Rattle.scribe_core.specs.declared.note.GroupNote.{GroupNote}
use Rattle.scribe_core.specs.Entry.{GroupEntry, Written}

abbrev pub event_kept : CompactEvent → GroupEvent
event_kept (compact.Deliver m) = event.Deliver m
event_kept (compact.Boxed e) = e.value

-- the entries that lie in these lists, from these places on
abbrev pub cut_from : ℕ → ℕ → List CompactEntry → List GroupSent → List GroupNote → List GroupEntry
cut_from s n [] sent notes = []
cut_from s n (e ∷ es) sent notes =
    record { event = event_kept e.event; messages = slice_range sent s e.sent_end; notes = slice_range notes n e.noted_end }
    ∷ cut_from e.sent_end e.noted_end es sent notes

abbrev pub cut : Lists → List GroupEntry
cut a = cut_from 0 0 a.entries.items a.sent.items a.notes.items

abbrev pub sent_ends : List CompactEntry → List ℕ
sent_ends es = map (λ (e : CompactEntry). e.sent_end) es

abbrev pub noted_ends : List CompactEntry → List ℕ
noted_ends es = map (λ (e : CompactEntry). e.noted_end) es

-- pieces that end there lie behind one another, from this place on, and within a list of that length
abbrev pub Rise : ℕ → List ℕ → ℕ → Type 0
Rise s [] last = s ≤ last
Rise s (e ∷ ends) last = (s ≤ e) × Rise e ends last

-- where piece k begins: at the end of the one before it
abbrev pub start_of : ℕ → List ℕ → ℕ → ℕ
start_of s ends k = slice_index_or (s ∷ ends) k 0

-- where what the next entry sends begins, and what it notes
abbrev pub next_sent : Lists → ℕ
next_sent a = start_of 0 (sent_ends a.entries.items) (length a.entries.items)

abbrev pub next_noted : Lists → ℕ
next_noted a = start_of 0 (noted_ends a.entries.items) (length a.entries.items)

-- the entries lie behind one another
pub record AreInOrder (a : Lists) : Type 0 where
  pub sent : Rise 0 (sent_ends a.entries.items) (length a.sent.items)
  pub noted : Rise 0 (noted_ends a.entries.items) (length a.notes.items)

-- the lists as a record that is being written
abbrev pub written : Lists → Written
written a = record { entries = cut a; messages = drop (next_sent a) a.sent.items; notes = drop (next_noted a) a.notes.items }

-- nothing lies behind the last entry
pub record AreClosed (a : Lists) : Type 0 where
  pub order : AreInOrder a
  pub sent : next_sent a ≡ length a.sent.items
  pub noted : next_noted a ≡ length a.notes.items
