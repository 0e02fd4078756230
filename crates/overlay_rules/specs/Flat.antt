-- How entries lie in lists: each with what lies between the end of the entry before it and its own end.
use Rattle.std.specs.Prelude.{◌≡◌, ◌<◌, ◌≤◌, ◌+◌, ℕ, zero, suc, List, [], ◌∷◌, length, map, slice_range, vec_len, vec_capacity, All}
use Rattle.wire_msg.specs.declared.note.Note.{Note}
use Rattle.wire_msg.specs.Words.{Envelope, plain_envelope}
use Rattle.overlay_rules.specs.declared.entry.Event.{Event}
use Rattle.overlay_rules.specs.declared.entry.Event.TheVariants as event
use Rattle.overlay_rules.specs.declared.entry.Entry.{Entry}
use Rattle.overlay_rules.specs.declared.flat.CompactEvent.{CompactEvent}
use Rattle.overlay_rules.specs.declared.flat.CompactEvent.TheVariants as compact
use Rattle.overlay_rules.specs.declared.flat.CompactEntry.{CompactEntry}
use Rattle.overlay_rules.specs.declared.flat.Lists.{Lists}
use Rattle.overlay_rules.specs.Record.{IsSaidBy}

abbrev pub event_kept : CompactEvent → Event
event_kept (compact.Deliver m) = event.Deliver m
event_kept (compact.Boxed e) = e.value

-- the entries that lie in these lists, from these places on
abbrev pub cut_from : ℕ → ℕ → List CompactEntry → List Envelope → List Note → List Entry
cut_from s n [] sent notes = []
cut_from s n (e ∷ es) sent notes =
    record { event = event_kept e.event; messages = slice_range sent s e.sent_end; notes = slice_range notes n e.noted_end }
    ∷ cut_from e.sent_end e.noted_end es sent notes

abbrev pub cut : Lists → List Entry
cut a = cut_from 0 0 a.entries.items (map plain_envelope a.sent.items) a.notes.items

-- the ends rise from these places to those
abbrev pub EndsRise : ℕ → ℕ → List CompactEntry → ℕ → ℕ → Type 0
EndsRise s n [] sent noted = (s ≡ sent) × (n ≡ noted)
EndsRise s n (e ∷ es) sent noted = (s ≤ e.sent_end) × (n ≤ e.noted_end) × EndsRise e.sent_end e.noted_end es sent noted

-- the ends rise to the ends of the lists, and what the commands say, they can say
pub record CutsWell (a : Lists) : Type 0 where
  pub rise : EndsRise 0 0 a.entries.items (length a.sent.items) (length a.notes.items)
  pub said : All (λ e. IsSaidBy e.event) (cut a)

-- where what an entry sent begins, and what it noted
abbrev pub sent_start : ℕ → List CompactEntry → ℕ → ℕ
sent_start s es zero = s
sent_start s [] (suc k) = s
sent_start s (e ∷ es) (suc k) = sent_start e.sent_end es k

abbrev pub noted_start : ℕ → List CompactEntry → ℕ → ℕ
noted_start n es zero = n
noted_start n [] (suc k) = n
noted_start n (e ∷ es) (suc k) = noted_start e.noted_end es k

-- the same items, whatever the room
pub record SameLists (a b : Lists) : Type 0 where
  pub entries : b.entries.items ≡ a.entries.items
  pub sent : b.sent.items ≡ a.sent.items
  pub notes : b.notes.items ≡ a.notes.items

-- there is room for one more entry, with so many messages and notes
pub record HasRoom (a : Lists) (messages noted : ℕ) : Type 0 where
  pub entry : vec_len a.entries < vec_capacity a.entries
  pub sent : vec_len a.sent + messages ≤ vec_capacity a.sent
  pub notes : vec_len a.notes + noted ≤ vec_capacity a.notes
