-- Entries that lie in lists: each of them, what they sent and noted, what stays where the lists grow, and one entry more.
use Rattle.std.proofs.Common.{◌≡◌, ◌<◌, ◌≤◌, ◌-◌, ℕ, zero, suc, List, [], ◌∷◌, ◌++◌, Some, length, take, drop, map, get_or, slice_get, slice_range}
use Rattle.std.proofs.Common.{refl, sym, ap, subst, ◌∙◌, arith, append-nil, append_assoc, length-append, length-drop, take_all, take-append-drop}
use Rattle.std.proofs.lemmas.List.{append_cancel_right, drop-append-le, drop_all, get_or-map, length-map, map_push, take-append-le}
use Rattle.std.proofs.lemmas.List.Folds.{drop_split}
use Rattle.scribe_core.specs.declared.entry.GroupEvent.{GroupEvent}
use Rattle.scribe_core.specs.declared.flat.CompactEntry.{CompactEntry}
use Rattle.scribe_core.specs.declared.flat.CompactEvent.{CompactEvent}
use Rattle.scribe_core.specs.declared.flat.Lists.{Lists}
use Rattle.scribe_core.specs.declared.message.GroupSent.{GroupSent}
use Rattle.scribe_core.specs.declared.note.GroupNote.{GroupNote}
use Rattle.scribe_core.specs.Entry.{GroupEntry}
use Rattle.scribe_core.specs.Record.{notes_in, sent_in}
use Rattle.scribe_core.specs.Flat.{AreClosed, AreInOrder, Rise, cut, cut_from, event_kept, next_noted, next_sent, noted_ends, sent_ends, start_of}

-- ---- parts of lists

module _ {A : Type 0} where
  -- a part stays where the list grows at its end
  range-left : (xs ys : List A) (a b : ℕ) → a ≤ b → b ≤ length xs → slice_range (xs ++ ys) a b ≡ slice_range xs a b
  range-left xs ys a b order within =
      ap (take (b - a)) (drop-append-le a xs ys (omega arith))
      ∙ take-append-le (b - a) (drop a xs) ys (let l = length-drop a xs in omega arith)

  -- the part up to the end
  range-last : (xs : List A) (a : ℕ) → slice_range xs a (length xs) ≡ drop a xs
  range-last xs a = let l = length-drop a xs in take_all (length xs - a) (drop a xs) (omega arith)

-- ---- where pieces begin and end

rise_last : (s : ℕ) (ends : List ℕ) (last : ℕ) → Rise s ends last → s ≤ last
rise_last s [] last h = h
rise_last s (e ∷ ends) last h = let a = h.0 in let b = rise_last e ends last h.1 in omega arith

rise_longer : (s : ℕ) (ends : List ℕ) (last more : ℕ) → Rise s ends last → last ≤ more → Rise s ends more
rise_longer s [] last more h le = omega arith
rise_longer s (e ∷ ends) last more h le = (h.0, rise_longer e ends last more h.1 le)

rise_push : (s : ℕ) (ends : List ℕ) (last : ℕ) → Rise s ends last → Rise s (ends ++ last ∷ []) last
rise_push s [] last h = (h, omega arith)
rise_push s (e ∷ ends) last h = (h.0, rise_push e ends last h.1)

-- a piece begins within the list
rise_start : (s : ℕ) (ends : List ℕ) (last k : ℕ) → Rise s ends last → k ≤ length ends → start_of s ends k ≤ last
rise_start s ends last zero h l = rise_last s ends last h
rise_start s [] last (suc k) h l = absurd (omega arith)
rise_start s (e ∷ ends) last (suc k) h l = rise_start e ends last k h.1 (omega arith)

rise_piece : (s : ℕ) (ends : List ℕ) (last k d : ℕ) → Rise s ends last → k < length ends →
    (start_of s ends k ≤ get_or ends k d) × (get_or ends k d ≤ last)
rise_piece s [] last k d h l = absurd (omega arith)
rise_piece s (e ∷ ends) last zero d h l = (h.0, rise_last e ends last h.1)
rise_piece s (e ∷ ends) last (suc k) d h l = rise_piece e ends last k d h.1 (omega arith)

-- the last end of pieces with one more
last_start : (s : ℕ) (ends : List ℕ) (last : ℕ) → start_of s (ends ++ last ∷ []) (length (ends ++ last ∷ [])) ≡ last
last_start s [] last = refl
last_start s (e ∷ ends) last = last_start e ends last

-- ---- the entries

abbrev pub entry_of_parts : GroupEvent → List GroupSent → List GroupNote → GroupEntry
entry_of_parts v messages notes = record { event = v; messages = messages; notes = notes }

pub cut-length : (s n : ℕ) (es : List CompactEntry) (sent : List GroupSent) (notes : List GroupNote) → length (cut_from s n es sent notes) ≡ length es
cut-length s n [] sent notes = refl
cut-length s n (e ∷ es) sent notes = ap suc (cut-length e.sent_end e.noted_end es sent notes)

-- each of them
pub cut-get : (s n : ℕ) (es : List CompactEntry) (sent : List GroupSent) (notes : List GroupNote) (k : ℕ) (d : CompactEntry) → k < length es →
    slice_get (cut_from s n es sent notes) k
    ≡ Some (entry_of_parts (event_kept (get_or es k d).event) (slice_range sent (start_of s (sent_ends es) k) (get_or es k d).sent_end)
    (slice_range notes (start_of n (noted_ends es) k) (get_or es k d).noted_end))
cut-get s n [] sent notes k d l = absurd (omega arith)
cut-get s n (e ∷ es) sent notes zero d l = refl
cut-get s n (e ∷ es) sent notes (suc k) d l = cut-get e.sent_end e.noted_end es sent notes k d (omega arith)

-- what the first k sent, and what lies behind that
cut-sent : (s n : ℕ) (es : List CompactEntry) (sent : List GroupSent) (notes : List GroupNote) (k : ℕ) → Rise s (sent_ends es) (length sent) →
    k ≤ length es → sent_in (take k (cut_from s n es sent notes)) ++ drop (start_of s (sent_ends es) k) sent ≡ drop s sent
cut-sent s n es sent notes zero h l = refl
cut-sent s n [] sent notes (suc k) h l = absurd (omega arith)
cut-sent s n (e ∷ es) sent notes (suc k) h l =
    append_assoc (slice_range sent s e.sent_end) (sent_in (take k (cut_from e.sent_end e.noted_end es sent notes)))
    (drop (start_of e.sent_end (sent_ends es) k) sent)
    ∙ ap (λ ms. slice_range sent s e.sent_end ++ ms) (cut-sent e.sent_end e.noted_end es sent notes k h.1 (omega arith))
    ∙ sym (drop_split sent s e.sent_end h.0)

-- what all noted, and what lies behind that
cut-notes : (s n : ℕ) (es : List CompactEntry) (sent : List GroupSent) (notes : List GroupNote) → Rise n (noted_ends es) (length notes) →
    notes_in (cut_from s n es sent notes) ++ drop (start_of n (noted_ends es) (length es)) notes ≡ drop n notes
cut-notes s n [] sent notes h = refl
cut-notes s n (e ∷ es) sent notes h =
    append_assoc (slice_range notes n e.noted_end) (notes_in (cut_from e.sent_end e.noted_end es sent notes))
    (drop (start_of e.noted_end (noted_ends es) (length es)) notes)
    ∙ ap (λ ns. slice_range notes n e.noted_end ++ ns) (cut-notes e.sent_end e.noted_end es sent notes h.1)
    ∙ sym (drop_split notes n e.noted_end h.0)

-- ---- lists that grow

cut-more_sent : (s n : ℕ) (es : List CompactEntry) (sent more : List GroupSent) (notes : List GroupNote) → Rise s (sent_ends es) (length sent) →
    cut_from s n es (sent ++ more) notes ≡ cut_from s n es sent notes
cut-more_sent s n [] sent more notes h = refl
cut-more_sent s n (e ∷ es) sent more notes h =
    ap (λ ms. entry_of_parts (event_kept e.event) ms (slice_range notes n e.noted_end) ∷ cut_from e.sent_end e.noted_end es (sent ++ more) notes)
    (range-left sent more s e.sent_end h.0 (rise_last e.sent_end (sent_ends es) (length sent) h.1))
    ∙ ap (λ (rs : List GroupEntry). entry_of_parts (event_kept e.event) (slice_range sent s e.sent_end) (slice_range notes n e.noted_end) ∷ rs)
    (cut-more_sent e.sent_end e.noted_end es sent more notes h.1)

cut-more_notes : (s n : ℕ) (es : List CompactEntry) (sent : List GroupSent) (notes more : List GroupNote) → Rise n (noted_ends es) (length notes) →
    cut_from s n es sent (notes ++ more) ≡ cut_from s n es sent notes
cut-more_notes s n [] sent notes more h = refl
cut-more_notes s n (e ∷ es) sent notes more h =
    ap (λ ns. entry_of_parts (event_kept e.event) (slice_range sent s e.sent_end) ns ∷ cut_from e.sent_end e.noted_end es sent (notes ++ more))
    (range-left notes more n e.noted_end h.0 (rise_last e.noted_end (noted_ends es) (length notes) h.1))
    ∙ ap (λ (rs : List GroupEntry). entry_of_parts (event_kept e.event) (slice_range sent s e.sent_end) (slice_range notes n e.noted_end) ∷ rs)
    (cut-more_notes e.sent_end e.noted_end es sent notes more h.1)

-- one entry more has what lies behind the others, up to its ends
cut-push : (s n : ℕ) (es : List CompactEntry) (e : CompactEntry) (sent : List GroupSent) (notes : List GroupNote) →
    cut_from s n (es ++ e ∷ []) sent notes
    ≡ cut_from s n es sent notes
    ++ entry_of_parts (event_kept e.event) (slice_range sent (start_of s (sent_ends es) (length es)) e.sent_end)
    (slice_range notes (start_of n (noted_ends es) (length es)) e.noted_end) ∷ []
cut-push s n [] e sent notes = refl
cut-push s n (f ∷ es) e sent notes =
    ap (λ (rs : List GroupEntry). entry_of_parts (event_kept f.event) (slice_range sent s f.sent_end) (slice_range notes n f.noted_end) ∷ rs)
    (cut-push f.sent_end f.noted_end es e sent notes)

-- ---- whole lists

within_ends : (f : CompactEntry → ℕ) (es : List CompactEntry) → length es ≤ length (map f es)
within_ends f es = let l = length-map es f in omega arith

-- the next entry begins within the lists
pub next_sent-within : (a : Lists) → AreInOrder a → next_sent a ≤ length a.sent.items
next_sent-within a o = rise_start 0 (sent_ends a.entries.items) (length a.sent.items) (length a.entries.items) o.sent
    (within_ends (λ (e : CompactEntry). e.sent_end) a.entries.items)

pub next_noted-within : (a : Lists) → AreInOrder a → next_noted a ≤ length a.notes.items
next_noted-within a o = rise_start 0 (noted_ends a.entries.items) (length a.notes.items) (length a.entries.items) o.noted
    (within_ends (λ (e : CompactEntry). e.noted_end) a.entries.items)

-- the place of an entry's messages and notes in the lists
pub record Lies (a : Lists) (k : ℕ) (e : CompactEntry) : Type 0 where
  pub sent_order : start_of 0 (sent_ends a.entries.items) k ≤ e.sent_end
  pub sent_within : e.sent_end ≤ length a.sent.items
  pub noted_order : start_of 0 (noted_ends a.entries.items) k ≤ e.noted_end
  pub noted_within : e.noted_end ≤ length a.notes.items

pub lies-at : (a : Lists) (k : ℕ) (e : CompactEntry) → AreInOrder a → k < length a.entries.items → e ≡ get_or a.entries.items k e → Lies a k e
lies-at a k e o l is = record {
  sent_order = subst (λ (j : ℕ). start_of 0 (sent_ends a.entries.items) k ≤ j) sent_end sent.0;
  sent_within = subst (λ (j : ℕ). j ≤ length a.sent.items) sent_end sent.1;
  noted_order = subst (λ (j : ℕ). start_of 0 (noted_ends a.entries.items) k ≤ j) noted_end noted.0;
  noted_within = subst (λ (j : ℕ). j ≤ length a.notes.items) noted_end noted.1;
} where
  sent : (start_of 0 (sent_ends a.entries.items) k ≤ get_or (sent_ends a.entries.items) k 0)
      × (get_or (sent_ends a.entries.items) k 0 ≤ length a.sent.items)
  sent = rise_piece 0 (sent_ends a.entries.items) (length a.sent.items) k 0 o.sent
      (let n = length-map a.entries.items (λ (f : CompactEntry). f.sent_end) in omega arith)

  noted : (start_of 0 (noted_ends a.entries.items) k ≤ get_or (noted_ends a.entries.items) k 0)
      × (get_or (noted_ends a.entries.items) k 0 ≤ length a.notes.items)
  noted = rise_piece 0 (noted_ends a.entries.items) (length a.notes.items) k 0 o.noted
      (let n = length-map a.entries.items (λ (f : CompactEntry). f.noted_end) in omega arith)

  sent_end : get_or (sent_ends a.entries.items) k 0 ≡ e.sent_end
  sent_end = get_or-map (λ (f : CompactEntry). f.sent_end) a.entries.items k e 0 l ∙ ap (λ (f : CompactEntry). f.sent_end) (sym is)

  noted_end : get_or (noted_ends a.entries.items) k 0 ≡ e.noted_end
  noted_end = get_or-map (λ (f : CompactEntry). f.noted_end) a.entries.items k e 0 l ∙ ap (λ (f : CompactEntry). f.noted_end) (sym is)

-- an entry begins where the one before it ends
pub start-next : (f : CompactEntry → ℕ) (es : List CompactEntry) (k : ℕ) (e : CompactEntry) → k < length es → e ≡ get_or es k e →
    f e ≡ start_of 0 (map f es) (suc k)
start-next f es k e l is = ap f is ∙ sym (get_or-map f es k e 0 l)

-- the place of an entry
pub place-within : (a : Lists) (es : List GroupEntry) (k : ℕ) → cut a ≡ es → k < length es → k < length a.entries.items
place-within a es k is l =
    let all = ap (λ (ds : List GroupEntry). length ds) is in
    let cut = cut-length 0 0 a.entries.items a.sent.items a.notes.items in omega arith

pub start-within : (a : Lists) (k : ℕ) → AreInOrder a → k ≤ length a.entries.items → start_of 0 (sent_ends a.entries.items) k ≤ length a.sent.items
start-within a k o l =
    rise_start 0 (sent_ends a.entries.items) (length a.sent.items) k o.sent
    (let w = within_ends (λ (e : CompactEntry). e.sent_end) a.entries.items in omega arith)

-- what was sent before an entry
pub cut-sent_before : (a : Lists) (k : ℕ) → AreInOrder a → k ≤ length a.entries.items →
    take (start_of 0 (sent_ends a.entries.items) k) a.sent.items ≡ sent_in (take k (cut a))
cut-sent_before a k o l =
    let j : ℕ = start_of 0 (sent_ends a.entries.items) k in
    append_cancel_right (take j a.sent.items) (sent_in (take k (cut a))) (drop j a.sent.items)
    (take-append-drop j a.sent.items ∙ sym (cut-sent 0 0 a.entries.items a.sent.items a.notes.items k o.sent l))

-- all that was sent: by the entries, and by the next one
pub cut-all_sent : (a : Lists) → AreInOrder a → a.sent.items ≡ sent_in (cut a) ++ drop (next_sent a) a.sent.items
cut-all_sent a o =
    sym (cut-sent 0 0 a.entries.items a.sent.items a.notes.items (length a.entries.items) o.sent (omega arith))
    ∙ ap (λ (es : List GroupEntry). sent_in es ++ drop (next_sent a) a.sent.items)
    (take_all (length a.entries.items) (cut a) (let n = cut-length 0 0 a.entries.items a.sent.items a.notes.items in omega arith))

pub cut-all_notes : (a : Lists) → AreInOrder a → a.notes.items ≡ notes_in (cut a) ++ drop (next_noted a) a.notes.items
cut-all_notes a o = sym (cut-notes 0 0 a.entries.items a.sent.items a.notes.items o.noted)

-- lists with the same entries, and more behind them
pub record Extends (a b : Lists) (more : List GroupSent) (noted : List GroupNote) : Type 0 where
  pub entries : b.entries.items ≡ a.entries.items
  pub sent : b.sent.items ≡ a.sent.items ++ more
  pub notes : b.notes.items ≡ a.notes.items ++ noted

module _ (a b : Lists) (more : List GroupSent) (noted : List GroupNote) (o : AreInOrder a) (h : Extends a b more noted) where
  pub order-extends : AreInOrder b
  order-extends = record {
    sent = subst (λ (es : List CompactEntry). Rise 0 (sent_ends es) (length b.sent.items)) (sym h.entries)
        (rise_longer 0 (sent_ends a.entries.items) (length a.sent.items) (length b.sent.items) o.sent
        (let long = ap (λ (ms : List GroupSent). length ms) h.sent ∙ length-append a.sent.items more in omega arith));
    noted = subst (λ (es : List CompactEntry). Rise 0 (noted_ends es) (length b.notes.items)) (sym h.entries)
        (rise_longer 0 (noted_ends a.entries.items) (length a.notes.items) (length b.notes.items) o.noted
        (let long = ap (λ (ns : List GroupNote). length ns) h.notes ∙ length-append a.notes.items noted in omega arith));
  }

  pub entries-extend : cut b ≡ cut a
  entries-extend =
      ap (λ (es : List CompactEntry). cut_from 0 0 es b.sent.items b.notes.items) h.entries
      ∙ ap (λ (ms : List GroupSent). cut_from 0 0 a.entries.items ms b.notes.items) h.sent
      ∙ ap (λ (ns : List GroupNote). cut_from 0 0 a.entries.items (a.sent.items ++ more) ns) h.notes
      ∙ cut-more_sent 0 0 a.entries.items a.sent.items more (a.notes.items ++ noted) o.sent
      ∙ cut-more_notes 0 0 a.entries.items a.sent.items a.notes.items noted o.noted

  pub messages-extend : drop (next_sent b) b.sent.items ≡ drop (next_sent a) a.sent.items ++ more
  messages-extend =
      ap (λ (es : List CompactEntry). drop (start_of 0 (sent_ends es) (length es)) b.sent.items) h.entries
      ∙ ap (λ (ms : List GroupSent). drop (next_sent a) ms) h.sent ∙ drop-append-le (next_sent a) a.sent.items more (next_sent-within a o)

  pub notes-extend : drop (next_noted b) b.notes.items ≡ drop (next_noted a) a.notes.items ++ noted
  notes-extend =
      ap (λ (es : List CompactEntry). drop (start_of 0 (noted_ends es) (length es)) b.notes.items) h.entries
      ∙ ap (λ (ns : List GroupNote). drop (next_noted a) ns) h.notes ∙ drop-append-le (next_noted a) a.notes.items noted (next_noted-within a o)

-- one message more, and one note more
pub one_sent : (a b : Lists) (m : GroupSent) → b.entries.items ≡ a.entries.items → b.sent.items ≡ a.sent.items ++ m ∷ [] →
    b.notes.items ≡ a.notes.items → Extends a b (m ∷ []) []
one_sent a b m entries sent notes = record { entries = entries; sent = sent; notes = notes ∙ sym (append-nil a.notes.items) }

pub one_noted : (a b : Lists) (n : GroupNote) → b.entries.items ≡ a.entries.items → b.sent.items ≡ a.sent.items →
    b.notes.items ≡ a.notes.items ++ n ∷ [] → Extends a b [] (n ∷ [])
one_noted a b n entries sent notes = record { entries = entries; sent = sent ∙ sym (append-nil a.sent.items); notes = notes }

-- lists with one entry more, which has all that lay behind the others
abbrev pub last_entry : Lists → CompactEvent → CompactEntry
last_entry a v = record { event = v; sent_end = length a.sent.items; noted_end = length a.notes.items }

pub record Closes (a b : Lists) (v : CompactEvent) : Type 0 where
  pub entries : b.entries.items ≡ a.entries.items ++ last_entry a v ∷ []
  pub sent : b.sent.items ≡ a.sent.items
  pub notes : b.notes.items ≡ a.notes.items

pub closes-by : (a b : Lists) (v : CompactEvent) (s n : ℕ) → b.entries.items ≡ a.entries.items ++ record { event = v; sent_end = s; noted_end = n } ∷ [] →
    s ≡ length a.sent.items → n ≡ length a.notes.items → b.sent.items ≡ a.sent.items → b.notes.items ≡ a.notes.items → Closes a b v
closes-by a b v s n entries sent_end noted_end sent notes = record {
  entries =
      entries ∙ ap (λ (k : ℕ). a.entries.items ++ record { event = v; sent_end = k; noted_end = n } ∷ []) sent_end
      ∙ ap (λ (k : ℕ). a.entries.items ++ record { event = v; sent_end = length a.sent.items; noted_end = k } ∷ []) noted_end;
  sent = sent;
  notes = notes;
}

module _ (a b : Lists) (v : CompactEvent) (o : AreInOrder a) (h : Closes a b v) where
  abbrev sent_more : List ℕ
  sent_more = sent_ends a.entries.items ++ length a.sent.items ∷ []

  abbrev noted_more : List ℕ
  noted_more = noted_ends a.entries.items ++ length a.notes.items ∷ []

  sent_ends-more : sent_ends b.entries.items ≡ sent_more
  sent_ends-more = ap sent_ends h.entries ∙ map_push (λ (e : CompactEntry). e.sent_end) a.entries.items (last_entry a v)

  noted_ends-more : noted_ends b.entries.items ≡ noted_more
  noted_ends-more = ap noted_ends h.entries ∙ map_push (λ (e : CompactEntry). e.noted_end) a.entries.items (last_entry a v)

  pub order-closes : AreInOrder b
  order-closes = record {
    sent = subst (λ (ends : List ℕ). Rise 0 ends (length b.sent.items)) (sym sent_ends-more)
        (subst (λ (ms : List GroupSent). Rise 0 sent_more (length ms)) (sym h.sent) (rise_push 0 (sent_ends a.entries.items) (length a.sent.items) o.sent));
    noted = subst (λ (ends : List ℕ). Rise 0 ends (length b.notes.items)) (sym noted_ends-more)
        (subst (λ (ns : List GroupNote). Rise 0 noted_more (length ns)) (sym h.notes)
        (rise_push 0 (noted_ends a.entries.items) (length a.notes.items) o.noted));
  }

  pub entries-close : cut b
      ≡ cut a ++ entry_of_parts (event_kept v) (drop (next_sent a) a.sent.items) (drop (next_noted a) a.notes.items) ∷ []
  entries-close =
      ap (λ (es : List CompactEntry). cut_from 0 0 es b.sent.items b.notes.items) h.entries
      ∙ ap (λ (ms : List GroupSent). cut_from 0 0 (a.entries.items ++ last_entry a v ∷ []) ms b.notes.items) h.sent
      ∙ ap (λ (ns : List GroupNote). cut_from 0 0 (a.entries.items ++ last_entry a v ∷ []) a.sent.items ns) h.notes
      ∙ cut-push 0 0 a.entries.items (last_entry a v) a.sent.items a.notes.items
      ∙ ap (λ (ms : List GroupSent). cut a ++ entry_of_parts (event_kept v) ms (slice_range a.notes.items (next_noted a) (length a.notes.items)) ∷ [])
      (range-last a.sent.items (next_sent a))
      ∙ ap (λ (ns : List GroupNote). cut a ++ entry_of_parts (event_kept v) (drop (next_sent a) a.sent.items) ns ∷ [])
      (range-last a.notes.items (next_noted a))

  pub next_sent-close : next_sent b ≡ length b.sent.items
  next_sent-close =
      ap (start_of 0 (sent_ends b.entries.items)) (sym (length-map b.entries.items (λ (e : CompactEntry). e.sent_end)))
      ∙ ap (λ (ends : List ℕ). start_of 0 ends (length ends)) sent_ends-more ∙ last_start 0 (sent_ends a.entries.items) (length a.sent.items)
      ∙ ap (λ (ms : List GroupSent). length ms) (sym h.sent)

  pub next_noted-close : next_noted b ≡ length b.notes.items
  next_noted-close =
      ap (start_of 0 (noted_ends b.entries.items)) (sym (length-map b.entries.items (λ (e : CompactEntry). e.noted_end)))
      ∙ ap (λ (ends : List ℕ). start_of 0 ends (length ends)) noted_ends-more ∙ last_start 0 (noted_ends a.entries.items) (length a.notes.items)
      ∙ ap (λ (ns : List GroupNote). length ns) (sym h.notes)

  pub messages-close : drop (next_sent b) b.sent.items ≡ []
  messages-close = let e = next_sent-close in drop_all (next_sent b) b.sent.items (omega arith)

  pub notes-close : drop (next_noted b) b.notes.items ≡ []
  notes-close = let e = next_noted-close in drop_all (next_noted b) b.notes.items (omega arith)

-- ---- lists behind whose entries there is nothing

module _ {A : Type 0} where
  none-left : (k : ℕ) (xs : List A) → k ≤ length xs → drop k xs ≡ [] → k ≡ length xs
  none-left k xs le none = let l = length-drop k xs in let e = ap (λ (ys : List A). length ys) none in omega arith

pub closed-by : (a : Lists) → AreInOrder a → drop (next_sent a) a.sent.items ≡ [] → drop (next_noted a) a.notes.items ≡ [] → AreClosed a
closed-by a o sent noted = record {
  order = o;
  sent = none-left (next_sent a) a.sent.items (next_sent-within a o) sent;
  noted = none-left (next_noted a) a.notes.items (next_noted-within a o) noted;
}

pub closed-sent : (a : Lists) → AreClosed a → a.sent.items ≡ sent_in (cut a)
closed-sent a h =
    cut-all_sent a h.order
    ∙ ap (λ (ms : List GroupSent). sent_in (cut a) ++ ms) (let e = h.sent in drop_all (next_sent a) a.sent.items (omega arith))
    ∙ append-nil (sent_in (cut a))

pub closed-notes : (a : Lists) → AreClosed a → a.notes.items ≡ notes_in (cut a)
closed-notes a h =
    cut-all_notes a h.order
    ∙ ap (λ (ns : List GroupNote). notes_in (cut a) ++ ns) (let e = h.noted in drop_all (next_noted a) a.notes.items (omega arith))
    ∙ append-nil (notes_in (cut a))
