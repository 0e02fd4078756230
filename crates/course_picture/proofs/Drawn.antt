-- The arrows of a course: that each is of a message, and that each message of the window has its own.
use Rattle.std.proofs.Common.{◌≡◌, ℕ, zero, suc, ◌+◌, ◌-◌, ◌<◌, ◌≤◌, inl, inr, Bool, true, false, Option, Some, None}
use Rattle.std.proofs.Common.{List, [], ◌∷◌, length, get_or, slice_get, take, drop, refl, sym, ap, subst, ◌∙◌, arith, length-take}
use Rattle.std.specs.Prelude.{All, Contains, if◌then◌else◌}
use Rattle.std.specs.List.{flat_map, range_with_len}
use Rattle.std.proofs.lemmas.Bool.{and_parts, and_from, cases_eq, eqb-true, leb-true, ltb-true, le-leb, lt-ltb, or_from}
use Rattle.std.proofs.lemmas.List.{get_or-take, take-append-drop}
use Rattle.std.proofs.lemmas.List.Elements.{All-nil, All-cons, All-append, Contains-append_left, Contains-append_right}
use Rattle.std.proofs.lemmas.List.Folds.{list_any-append, Any-from_list_any}
use Rattle.std.proofs.lemmas.Option.{slice_get_read, slice_get_within}
use Rattle.wire_msg.specs.Words.{Envelope}
use Rattle.overlay_rules.specs.declared.entry.Entry.{Entry}
use Rattle.overlay_rules.specs.declared.entry.Event.{Event}
use Rattle.overlay_rules.specs.declared.entry.Event.TheVariants as event
use Rattle.overlay_rules.specs.Played.{is_delivery_of}
use Rattle.overlay_rules.specs.Record.{sent_in}
use Rattle.course_picture.specs.declared.fate.Fate.TheVariants as fate
use Rattle.course_picture.specs.Arrows.{Arrow, arrow_at, arrow_if_sent, arrow_into, arrow_of_event, arrow_to, arrows, deliveries, is_delivered}
use Rattle.course_picture.specs.Arrows.{lost_arrow, rest_at, rest_if_sent, rest_of, rests, sent_at}
use Rattle.course_picture.specs.Board.{Board, is_drawn}
use Rattle.course_picture.specs.Laws.{Delivers, HasArrow, IsFateOf, IsInOrder, IsOfMessage, Reaches}
use Rattle.course_picture.proofs.Found.{not_late}
use Rattle.course_picture.proofs.Sending.{sends_listed}

-- ---- lists that are made of numbers

all_ranged : {A : Type 0} (P : A → Type 0) (f : ℕ → List A) (a n : ℕ) → ((k : ℕ) → a ≤ k → k < a + n → All P (f k)) →
    All P (flat_map f (range_with_len a n))
all_ranged P f a zero each = All-nil P
all_ranged P f a (suc n) each =
    All-append P (f a) (flat_map f (range_with_len (a + 1) n)) (each a (omega arith) (omega arith))
    (all_ranged P f (a + 1) n (λ k low high. each k (omega arith) (omega arith)))

ranged-contains : {A : Type 0} (f : ℕ → List A) (a n p : ℕ) (x : A) → a ≤ p → p < a + n → Contains (f p) x →
    Contains (flat_map f (range_with_len a n)) x
ranged-contains f a zero p x low high has = absurd (omega arith)
ranged-contains f a (suc n) p x low high has =
    elim (cases_eq a p) [
      | inl e ↦ Contains-append_left (f a) (flat_map f (range_with_len (a + 1) n)) x (rw e has)
      | inr ne ↦ Contains-append_right (f a) (flat_map f (range_with_len (a + 1) n)) x
          (ranged-contains f (a + 1) n p x (elim (cases_eq a p) [ inl e ↦ absurd (ne e) | inr other ↦ omega arith ]) (omega arith) has)
    ]

only : {A : Type 0} (x : A) → Contains (x ∷ []) x
only x = (0, omega arith, refl)

-- ---- places of the window

drawn-within : (b : Board) (p : ℕ) → is_drawn b p ≡ true → (b.first ≤ p) × (p < b.stop)
drawn-within b p h =
    let parts = and_parts _ _ h in
    (leb-true b.first p parts.0, ltb-true p b.stop parts.1)

within-drawn : (b : Board) (p : ℕ) → b.first ≤ p → p < b.stop → is_drawn b p ≡ true
within-drawn b p low high = and_from _ _ (le-leb b.first p low) (lt-ltb p b.stop high)

-- ---- each arrow is of a message

delivery-fared : (b : Board) (es : List Entry) (m p : ℕ) (t : Bool) → is_delivered (take p es) m ≡ t → Reaches b es m p →
    IsFateOf b es m p (if t then fate.Again else fate.First)
delivery-fared b es m p true e reaches = (reaches, e)
delivery-fared b es m p false e reaches = (reaches, e)

of_arrow_to : (b : Board) (es : List Entry) (m : ℕ) (v : Envelope) (p : ℕ) → slice_get (sent_in es) m ≡ Some v → Reaches b es m p →
    IsOfMessage b es (arrow_to es m v p)
of_arrow_to b es m v p sent reaches = record {
  message = sent;
  sender = sends_listed es m v sent;
  fared = delivery-fared b es m p (is_delivered (take p es) m) refl reaches;
}

-- those that end at an entry
sent_delivery : (b : Board) (es : List Entry) (p m : ℕ) (o : Option Envelope) → slice_get (sent_in es) m ≡ o → Reaches b es m p →
    All (IsOfMessage b es) (arrow_if_sent es p m o)
sent_delivery b es p m None e reaches = All-nil (IsOfMessage b es)
sent_delivery b es p m (Some v) e reaches =
    All-cons (IsOfMessage b es) (arrow_to es m v p) [] (of_arrow_to b es m v p e reaches) (All-nil (IsOfMessage b es))

event_delivery : (b : Board) (es : List Entry) (p : ℕ) (e : Entry) (w : Event) → is_drawn b p ≡ true → slice_get es p ≡ Some e → e.event ≡ w →
    All (IsOfMessage b es) (arrow_of_event es p w)
event_delivery b es p e (event.Command x n c) drawn at is = All-nil (IsOfMessage b es)
event_delivery b es p e (event.Deliver m) drawn at is =
    sent_delivery b es p m (slice_get (sent_in es) m) refl (record { there = inl (drawn, record { entry = e; entry_at = at; event_is = is }) })
event_delivery b es p e (event.Noise x) drawn at is = All-nil (IsOfMessage b es)

entry_delivery : (b : Board) (es : List Entry) (p : ℕ) (o : Option Entry) → is_drawn b p ≡ true → slice_get es p ≡ o →
    All (IsOfMessage b es) (arrow_at es p o)
entry_delivery b es p None drawn at = All-nil (IsOfMessage b es)
entry_delivery b es p (Some e) drawn at = event_delivery b es p e e.event drawn at refl

deliveries-all : (b : Board) (es : List Entry) → All (IsOfMessage b es) (deliveries b es)
deliveries-all b es =
    all_ranged (IsOfMessage b es) (arrow_into es) b.first (b.stop - b.first)
    (λ k low high. entry_delivery b es k (slice_get es k) (within-drawn b k low (omega arith)) refl)

-- those that do not
not_delivered : (es : List Entry) (n m : ℕ) → is_delivered (take n es) m ≡ false → is_delivered (drop n es) m ≡ false → is_delivered es m ≡ false
not_delivered es n m before behind =
    ap (λ (all : List Entry). is_delivered all m) (sym (take-append-drop n es)) ∙
    list_any-append (λ (e : Entry). is_delivery_of m e.event) (take n es) (drop n es) ∙
    or_from (is_delivered (take n es) m) (is_delivered (drop n es) m) before behind

rest_chosen : (b : Board) (es : List Entry) (m : ℕ) (v : Envelope) (behind before : Bool) → slice_get (sent_in es) m ≡ Some v →
    is_delivered (drop b.stop es) m ≡ behind → is_delivered (take b.stop es) m ≡ before →
    All (IsOfMessage b es) (if behind then arrow_to es m v b.stop ∷ [] else (if before then [] else lost_arrow es m v ∷ []))
rest_chosen b es m v true before sent late early =
    All-cons (IsOfMessage b es) (arrow_to es m v b.stop) [] (of_arrow_to b es m v b.stop sent (record { there = inr (refl, late) }))
    (All-nil (IsOfMessage b es))
rest_chosen b es m v false true sent late early = All-nil (IsOfMessage b es)
rest_chosen b es m v false false sent late early =
    All-cons (IsOfMessage b es) (lost_arrow es m v) []
    (record { message = sent; sender = sends_listed es m v sent; fared = not_delivered es b.stop m early late }) (All-nil (IsOfMessage b es))

rest_sent : (b : Board) (es : List Entry) (m : ℕ) (o : Option Envelope) → slice_get (sent_in es) m ≡ o → All (IsOfMessage b es) (rest_if_sent b es m o)
rest_sent b es m None e = All-nil (IsOfMessage b es)
rest_sent b es m (Some v) e = rest_chosen b es m v (is_delivered (drop b.stop es) m) (is_delivered (take b.stop es) m) e refl refl

if_any : {A : Type 0} (P : A → Type 0) (t : Bool) (xs : List A) → All P xs → All P (if t then xs else [])
if_any P true xs all = all
if_any P false xs all = All-nil P

rests-all : (b : Board) (es : List Entry) → All (IsOfMessage b es) (rests b es)
rests-all b es =
    all_ranged (IsOfMessage b es) (rest_at b es) 0 (length (sent_in es))
    (λ k low high. if_any (IsOfMessage b es) (is_drawn b (sent_at es k)) (rest_if_sent b es k (slice_get (sent_in es) k))
    (rest_sent b es k (slice_get (sent_in es) k) refl))

pub arrows-all : (b : Board) (es : List Entry) → All (IsOfMessage b es) (arrows b es)
arrows-all b es = All-append (IsOfMessage b es) (deliveries b es) (rests b es) (deliveries-all b es) (rests-all b es)

-- ---- each message has its arrow

delivery-contained : (b : Board) (es : List Entry) (p m : ℕ) (v : Envelope) → is_drawn b p ≡ true → Delivers es p m → slice_get (sent_in es) m ≡ Some v →
    Contains (deliveries b es) (arrow_to es m v p)
delivery-contained b es p m v drawn d sent =
    let within = drawn-within b p drawn in
    let low = within.0 in
    let high = within.1 in
    let here : arrow_at es p (slice_get es p) ≡ arrow_to es m v p ∷ [] =
    ap (arrow_at es p) d.entry_at ∙ ap (arrow_of_event es p) d.event_is ∙ ap (arrow_if_sent es p m) sent in
    ranged-contains (arrow_into es) b.first (b.stop - b.first) p (arrow_to es m v p) low (omega arith)
    (subst (λ (xs : List Arrow). Contains xs (arrow_to es m v p)) (sym here) (only (arrow_to es m v p)))

pub arrows-delivery : (b : Board) (es : List Entry) (p m : ℕ) (v : Envelope) → is_drawn b p ≡ true → Delivers es p m → slice_get (sent_in es) m ≡ Some v →
    Contains (arrows b es) (arrow_to es m v p)
arrows-delivery b es p m v drawn d sent =
    Contains-append_left (deliveries b es) (rests b es) (arrow_to es m v p) (delivery-contained b es p m v drawn d sent)

rest-contained : (b : Board) (es : List Entry) (m : ℕ) (v : Envelope) (a : Arrow) → slice_get (sent_in es) m ≡ Some v → is_drawn b (sent_at es m) ≡ true →
    Contains (rest_of b es m v) a → Contains (arrows b es) a
rest-contained b es m v a sent drawn has =
    let here : rest_at b es m ≡ rest_of b es m v =
    ap (λ (t : Bool). if t then rest_if_sent b es m (slice_get (sent_in es) m) else []) drawn ∙ ap (rest_if_sent b es m) sent in
    Contains-append_right (deliveries b es) (rests b es) a
    (ranged-contains (rest_at b es) 0 (length (sent_in es)) m a (omega arith) (let l = slice_get_within (sent_in es) m v sent in omega arith)
    (subst (λ (xs : List Arrow). Contains xs a) (sym here) has))

delivery_is : (m : ℕ) (w : Event) → is_delivery_of m w ≡ true → w ≡ event.Deliver m
delivery_is m (event.Command x n c) e = cc
delivery_is m (event.Deliver n) e = ap event.Deliver (eqb-true n m e)
delivery_is m (event.Noise x) e = cc

-- one of the first entries delivers it
record DeliveredBefore (es : List Entry) (stop m : ℕ) : Type 0 where
  place : ℕ
  early : place < stop
  delivers : Delivers es place m

delivered_before : (es : List Entry) (stop m : ℕ) → is_delivered (take stop es) m ≡ true → DeliveredBefore es stop m
delivered_before es stop m e =
    let any = Any-from_list_any (λ (e : Entry). is_delivery_of m e.event) (take stop es) e in
    let k = any.0 in
    let x = any.1 in
    let size = length-take stop es in
    let inside = any.2 in
    let early : k < stop = omega arith in
    let within : k < length es = omega arith in
    let at : x ≡ get_or es k x = sym (sym (get_or-take stop es k x early) ∙ any.3) in
    record {
      place = k;
      early = early;
      delivers = record { entry = x; entry_at = slice_get_read es (length es) k x refl within at; event_is = delivery_is m x.event any.4 };
    }

has_chosen : (b : Board) (es : List Entry) (m : ℕ) (v : Envelope) (behind before : Bool) → IsInOrder es → slice_get (sent_in es) m ≡ Some v →
    is_drawn b (sent_at es m) ≡ true → is_delivered (drop b.stop es) m ≡ behind → is_delivered (take b.stop es) m ≡ before → HasArrow (arrows b es) m
has_chosen b es m v true before order sent drawn late early =
    record {
      arrow = arrow_to es m v b.stop;
      among = rest-contained b es m v (arrow_to es m v b.stop) sent drawn
          (subst (λ (t : Bool). Contains (if t then arrow_to es m v b.stop ∷ [] else (if is_delivered (take b.stop es) m then [] else lost_arrow es m v ∷ []))
          (arrow_to es m v b.stop)) (sym late) (only (arrow_to es m v b.stop)));
      of = refl;
    }
has_chosen b es m v false true order sent drawn late early =
    let d = delivered_before es b.stop m early in
    let within = drawn-within b (sent_at es m) drawn in
    let low = within.0 in
    let after = order.after d.place m v d.delivers sent in
    let first : b.first ≤ d.place = omega arith in
    record {
      arrow = arrow_to es m v d.place;
      among = arrows-delivery b es d.place m v (within-drawn b d.place first d.early) d.delivers sent;
      of = refl;
    }
has_chosen b es m v false false order sent drawn late early =
    record {
      arrow = lost_arrow es m v;
      among = rest-contained b es m v (lost_arrow es m v) sent drawn
          (subst (λ (xs : List Arrow). Contains xs (lost_arrow es m v)) (sym (not_late b es m v false late early)) (only (lost_arrow es m v)));
      of = refl;
    }

pub arrows-sent : (b : Board) (es : List Entry) (m : ℕ) (v : Envelope) → IsInOrder es → slice_get (sent_in es) m ≡ Some v →
    is_drawn b (sent_at es m) ≡ true → HasArrow (arrows b es) m
arrows-sent b es m v order sent drawn =
    has_chosen b es m v (is_delivered (drop b.stop es) m) (is_delivered (take b.stop es) m) order sent drawn refl refl
