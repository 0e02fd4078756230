-- Entries that lie in lists: how many they are, what they sent and noted, each of them, and one more.
use Rattle.std.proofs.Common.{◌≡◌, ◌<◌, ◌≤◌, ◌+◌, ◌-◌, ℕ, zero, suc, List, [], ◌∷◌, ◌++◌, Some, length, take, drop, map, get_or, slice_get, slice_range, All}
use Rattle.std.proofs.Common.{refl, sym, ap, subst, ◌∙◌, arith, length-append, length-drop, append-nil}
use Rattle.std.proofs.lemmas.List.{drop-append-le, take-append-le, length-map, take-map, drop-map}
use Rattle.std.proofs.lemmas.List.Folds.{drop_split}
use Rattle.std.proofs.lemmas.List.Elements.{All-push}
use Rattle.std.proofs.Math.Seq.{drop-length, drop-append_seam, take-append_seam}
use Rattle.wire_msg.specs.Words.{Envelope, plain_envelope}
use Rattle.wire_msg.specs.declared.note.Note.{Note}
use Rattle.overlay_rules.specs.declared.entry.Event.{Event}
use Rattle.overlay_rules.specs.declared.entry.Entry.{Entry}
use Rattle.overlay_rules.specs.declared.flat.CompactEntry.{CompactEntry}
use Rattle.overlay_rules.specs.declared.flat.CompactEvent.{CompactEvent}
use Rattle.overlay_rules.specs.declared.flat.Lists.{Lists}
use Rattle.overlay_rules.specs.Record.{IsSaidBy, sent_in}
use Rattle.overlay_rules.specs.Table.{notes_in}
use Rattle.overlay_rules.specs.Flat.{CutsWell, EndsRise, cut, cut_from, event_kept, sent_start, noted_start}

-- ---- parts of lists

module _ {A : Type 0} where
  -- a part stays where the list grows at its end
  range-left : (xs ys : List A) (a b : ℕ) → a ≤ b → b ≤ length xs → slice_range (xs ++ ys) a b ≡ slice_range xs a b
  range-left xs ys a b order within =
      ap (take (b - a)) (drop-append-le a xs ys (omega arith))
      ∙ take-append-le (b - a) (drop a xs) ys (let l = length-drop a xs in omega arith)

  -- the part behind a list is what was added
  range-right : (xs ys : List A) (a b : ℕ) → a ≡ length xs → b ≡ length xs + length ys → slice_range (xs ++ ys) a b ≡ ys
  range-right xs ys a b start end =
      ap (λ k. take (b - k) (drop k (xs ++ ys))) start ∙ ap (take (b - length xs)) (drop-append_seam xs ys)
      ∙ ap (λ k. take k ys) (let e : b - length xs ≡ length ys = omega arith in e)
      ∙ ap (take (length ys)) (sym (append-nil ys)) ∙ take-append_seam ys []

pub slice_range-map : {A B : Type 0} (f : A → B) (xs : List A) (a b : ℕ) → slice_range (map f xs) a b ≡ map f (slice_range xs a b)
slice_range-map f xs a b = ap (take (b - a)) (drop-map f a xs) ∙ take-map f (b - a) (drop a xs)

-- ---- where the entries begin and end

-- the last ends are the greatest
sent-rise : (s n : ℕ) (es : List CompactEntry) (sent noted : ℕ) → EndsRise s n es sent noted → s ≤ sent
sent-rise s n [] sent noted h = let e = h.0 in omega arith
sent-rise s n (e ∷ es) sent noted h = let a = h.0 in let b = sent-rise e.sent_end e.noted_end es sent noted h.2 in omega arith

noted-rise : (s n : ℕ) (es : List CompactEntry) (sent noted : ℕ) → EndsRise s n es sent noted → n ≤ noted
noted-rise s n [] sent noted h = let e = h.1 in omega arith
noted-rise s n (e ∷ es) sent noted h = let a = h.1 in let b = noted-rise e.sent_end e.noted_end es sent noted h.2 in omega arith

-- an entry's start is the end of the one before it
pub sent-start_next : (s : ℕ) (es : List CompactEntry) (k : ℕ) (d : CompactEntry) → k < length es → sent_start s es (suc k) ≡ (get_or es k d).sent_end
sent-start_next s [] k d l = absurd (omega arith)
sent-start_next s (e ∷ es) zero d l = refl
sent-start_next s (e ∷ es) (suc k) d l = sent-start_next e.sent_end es k d (omega arith)

pub noted-start_next : (n : ℕ) (es : List CompactEntry) (k : ℕ) (d : CompactEntry) → k < length es → noted_start n es (suc k) ≡ (get_or es k d).noted_end
noted-start_next n [] k d l = absurd (omega arith)
noted-start_next n (e ∷ es) zero d l = refl
noted-start_next n (e ∷ es) (suc k) d l = noted-start_next e.noted_end es k d (omega arith)

-- the place of one entry's messages and notes in the lists
pub record Lies (s n : ℕ) (es : List CompactEntry) (sent noted k : ℕ) (e : CompactEntry) : Type 0 where
  pub sent_order : sent_start s es k ≤ e.sent_end
  pub sent_within : e.sent_end ≤ sent
  pub noted_order : noted_start n es k ≤ e.noted_end
  pub noted_within : e.noted_end ≤ noted

lies : (s n : ℕ) (es : List CompactEntry) (sent noted k : ℕ) (d : CompactEntry) → EndsRise s n es sent noted → k < length es →
    Lies s n es sent noted k (get_or es k d)
lies s n [] sent noted k d h l = absurd (omega arith)
lies s n (e ∷ es) sent noted zero d h l =
    record {
      sent_order = h.0;
      sent_within = sent-rise e.sent_end e.noted_end es sent noted h.2;
      noted_order = h.1;
      noted_within = noted-rise e.sent_end e.noted_end es sent noted h.2;
    }
lies s n (e ∷ es) sent noted (suc k) d h l =
    let r = lies e.sent_end e.noted_end es sent noted k d h.2 (omega arith) in
    record { sent_order = r.sent_order; sent_within = r.sent_within; noted_order = r.noted_order; noted_within = r.noted_within }

pub lies-at : (s n : ℕ) (es : List CompactEntry) (sent noted k : ℕ) (e : CompactEntry) → EndsRise s n es sent noted → k < length es → e ≡ get_or es k e →
    Lies s n es sent noted k e
lies-at s n es sent noted k e h l is = subst (λ (f : CompactEntry). Lies s n es sent noted k f) (sym is) (lies s n es sent noted k e h l)

-- ---- what the entries are

pub cut-length : (s n : ℕ) (es : List CompactEntry) (sent : List Envelope) (notes : List Note) → length (cut_from s n es sent notes) ≡ length es
cut-length s n [] sent notes = refl
cut-length s n (e ∷ es) sent notes = ap suc (cut-length e.sent_end e.noted_end es sent notes)

-- all that they sent
pub cut-sent : (s n : ℕ) (es : List CompactEntry) (sent : List Envelope) (notes : List Note) → EndsRise s n es (length sent) (length notes) →
    sent_in (cut_from s n es sent notes) ≡ drop s sent
cut-sent s n [] sent notes h = sym (ap (λ k. drop k sent) h.0 ∙ drop-length sent)
cut-sent s n (e ∷ es) sent notes h =
    ap (λ ms. slice_range sent s e.sent_end ++ ms) (cut-sent e.sent_end e.noted_end es sent notes h.2) ∙ sym (drop_split sent s e.sent_end h.0)

-- all that they noted
pub cut-notes : (s n : ℕ) (es : List CompactEntry) (sent : List Envelope) (notes : List Note) → EndsRise s n es (length sent) (length notes) →
    notes_in (cut_from s n es sent notes) ≡ drop n notes
cut-notes s n [] sent notes h = sym (ap (λ k. drop k notes) h.1 ∙ drop-length notes)
cut-notes s n (e ∷ es) sent notes h =
    ap (λ ns. slice_range notes n e.noted_end ++ ns) (cut-notes e.sent_end e.noted_end es sent notes h.2) ∙ sym (drop_split notes n e.noted_end h.1)

abbrev pub entry_of_parts : Event → List Envelope → List Note → Entry
entry_of_parts v messages notes = record { event = v; messages = messages; notes = notes }

-- each of them
pub cut-get : (s n : ℕ) (es : List CompactEntry) (sent : List Envelope) (notes : List Note) (k : ℕ) (d : CompactEntry) → k < length es →
    slice_get (cut_from s n es sent notes) k
    ≡ Some (entry_of_parts (event_kept (get_or es k d).event) (slice_range sent (sent_start s es k) (get_or es k d).sent_end)
    (slice_range notes (noted_start n es k) (get_or es k d).noted_end))
cut-get s n [] sent notes k d l = absurd (omega arith)
cut-get s n (e ∷ es) sent notes zero d l = refl
cut-get s n (e ∷ es) sent notes (suc k) d l = cut-get e.sent_end e.noted_end es sent notes k d (omega arith)

-- ---- one more

pub rise-more : (s n : ℕ) (es : List CompactEntry) (e : CompactEntry) (sent noted : ℕ) → EndsRise s n es sent noted → sent ≤ e.sent_end → noted ≤ e.noted_end →
    EndsRise s n (es ++ e ∷ []) e.sent_end e.noted_end
rise-more s n [] e sent noted h a b = (subst (λ k. k ≤ e.sent_end) (sym h.0) a, subst (λ k. k ≤ e.noted_end) (sym h.1) b, (refl, refl))
rise-more s n (f ∷ es) e sent noted h a b = (h.0, h.1, rise-more f.sent_end f.noted_end es e sent noted h.2 a b)

pub cut-more : (s n : ℕ) (es : List CompactEntry) (e : CompactEntry) (sent more : List Envelope) (notes noted : List Note) →
    EndsRise s n es (length sent) (length notes) → e.sent_end ≡ length sent + length more → e.noted_end ≡ length notes + length noted →
    cut_from s n (es ++ e ∷ []) (sent ++ more) (notes ++ noted) ≡ cut_from s n es sent notes ++ entry_of_parts (event_kept e.event) more noted ∷ []
cut-more s n [] e sent more notes noted h a b =
    ap (λ ms. entry_of_parts (event_kept e.event) ms (slice_range (notes ++ noted) n e.noted_end) ∷ []) (range-right sent more s e.sent_end h.0 a)
    ∙ ap (λ ns. entry_of_parts (event_kept e.event) more ns ∷ []) (range-right notes noted n e.noted_end h.1 b)
cut-more s n (f ∷ es) e sent more notes noted h a b =
    let rest : List Entry = cut_from f.sent_end f.noted_end (es ++ e ∷ []) (sent ++ more) (notes ++ noted) in
    ap (λ ms. entry_of_parts (event_kept f.event) ms (slice_range (notes ++ noted) n f.noted_end) ∷ rest)
    (range-left sent more s f.sent_end h.0 (sent-rise f.sent_end f.noted_end es (length sent) (length notes) h.2))
    ∙ ap (λ ns. entry_of_parts (event_kept f.event) (slice_range sent s f.sent_end) ns ∷ rest)
    (range-left notes noted n f.noted_end h.1 (noted-rise f.sent_end f.noted_end es (length sent) (length notes) h.2))
    ∙ ap (λ rs. entry_of_parts (event_kept f.event) (slice_range sent s f.sent_end) (slice_range notes n f.noted_end) ∷ rs)
    (cut-more f.sent_end f.noted_end es e sent more notes noted h.2 a b)

-- lists that have one entry more, of this event, with these messages and notes
pub record Adds (a b : Lists) (v : CompactEvent) (more : List Envelope) (noted : List Note) : Type 0 where
  pub entries : b.entries.items ≡ a.entries.items ++ record { event = v; sent_end = length b.sent.items; noted_end = length b.notes.items } ∷ []
  pub sent : map plain_envelope b.sent.items ≡ map plain_envelope a.sent.items ++ more
  pub notes : b.notes.items ≡ a.notes.items ++ noted

module _ (a b : Lists) (v : CompactEvent) (more : List Envelope) (noted : List Note) (w : CutsWell a) (h : Adds a b v more noted) where
  plain_rise : EndsRise 0 0 a.entries.items (length (map plain_envelope a.sent.items)) (length a.notes.items)
  plain_rise = subst (λ k. EndsRise 0 0 a.entries.items k (length a.notes.items)) (sym (length-map a.sent.items plain_envelope)) w.rise

  sent_count : length b.sent.items ≡ length (map plain_envelope a.sent.items) + length more
  sent_count = sym (length-map b.sent.items plain_envelope) ∙ ap length h.sent ∙ length-append (map plain_envelope a.sent.items) more

  noted_count : length b.notes.items ≡ length a.notes.items + length noted
  noted_count = ap length h.notes ∙ length-append a.notes.items noted

  pub cut-adds : cut b ≡ cut a ++ entry_of_parts (event_kept v) more noted ∷ []
  cut-adds =
      let e : CompactEntry = record { event = v; sent_end = length b.sent.items; noted_end = length b.notes.items } in
      ap (λ es. cut_from 0 0 es (map plain_envelope b.sent.items) b.notes.items) h.entries
      ∙ ap (λ ms. cut_from 0 0 (a.entries.items ++ e ∷ []) ms b.notes.items) h.sent
      ∙ ap (λ ns. cut_from 0 0 (a.entries.items ++ e ∷ []) (map plain_envelope a.sent.items ++ more) ns) h.notes
      ∙ cut-more 0 0 a.entries.items e (map plain_envelope a.sent.items) more a.notes.items noted plain_rise sent_count noted_count

  pub well-adds : IsSaidBy (event_kept v) → CutsWell b
  well-adds said = record {
    rise =
        let e : CompactEntry = record { event = v; sent_end = length b.sent.items; noted_end = length b.notes.items } in
        subst (λ es. EndsRise 0 0 es (length b.sent.items) (length b.notes.items)) (sym h.entries)
        (rise-more 0 0 a.entries.items e (length (map plain_envelope a.sent.items)) (length a.notes.items) plain_rise
        (let c = sent_count in omega arith) (let c = noted_count in omega arith));
    said =
        subst (λ (es : List Entry). All (λ (e : Entry). IsSaidBy e.event) es) (sym cut-adds)
        (All-push (λ (e : Entry). IsSaidBy e.event) (cut a) (entry_of_parts (event_kept v) more noted) w.said said);
  }

-- all that the entries of lists sent, and noted
pub cut-all-sent : (a : Lists) → CutsWell a → sent_in (cut a) ≡ map plain_envelope a.sent.items
cut-all-sent a w =
    cut-sent 0 0 a.entries.items (map plain_envelope a.sent.items) a.notes.items
    (subst (λ k. EndsRise 0 0 a.entries.items k (length a.notes.items)) (sym (length-map a.sent.items plain_envelope)) w.rise)

pub cut-all-notes : (a : Lists) → CutsWell a → notes_in (cut a) ≡ a.notes.items
cut-all-notes a w =
    cut-notes 0 0 a.entries.items (map plain_envelope a.sent.items) a.notes.items
    (subst (λ k. EndsRise 0 0 a.entries.items k (length a.notes.items)) (sym (length-map a.sent.items plain_envelope)) w.rise)
