-- The messages of a record that has one entry more.
use Rattle.std.proofs.Common.{◌≡◌, ◌≢◌, ◌<◌, ◌≤◌, ◌==◌, ℕ, zero, suc, ◌+◌, ◌-◌, inl, inr, Bool, true, false, cond, ◌||◌, Option, Some, None, List, []}
use Rattle.std.proofs.Common.{◌∷◌, ◌++◌, length, get_or, map, replicate, slice_get, slice_set, nat_lt, get_or-set_same, get_or-set_other}
use Rattle.std.proofs.Common.{refl, sym, ap, subst, ◌∙◌, arith, append-nil, length-append, take, take_all, zero-add, add-zero}
use Rattle.std.proofs.lemmas.Bool.{cases_Bool, cases_lt, ltb-true, ltb-false}
use Rattle.std.proofs.lemmas.Bool.Decides.{Decides-eqb}
use Rattle.std.proofs.lemmas.List.{map-append}
use Rattle.std.proofs.lemmas.List.Folds.{list_any-append}
use Rattle.std.proofs.Math.ListN.{length-set}
use Rattle.scribe_core.specs.Entry.{GroupEntry}
use Rattle.scribe_core.specs.declared.entry.GroupEvent.{GroupEvent}
use Rattle.scribe_core.specs.declared.entry.GroupEvent.TheVariants as event
use Rattle.scribe_core.specs.declared.message.GroupSent.{GroupSent}
use Rattle.scribe_core.specs.Played.{is_delivery_of, oldest_undelivered, undelivered_from, was_delivered}
use Rattle.scribe_core.specs.Record.{sent_in}
use Rattle.scribe_core.proofs.Holding.{sent_in-push}
use Rattle.world_model.specs.Index.{IsBelow, marked}
use Rattle.group_play.specs.declared.messages.Messages.{Messages}
use Rattle.group_play.specs.Messages.{HasMarks, ListsMessages, delivered_by, oldest_of}

-- ---- lists

-- a list to which so many were added
pub grown : {A : Type 0} (xs new : List A) (len count n : ℕ) (x : A) → new ≡ take count xs ++ replicate (count - len) x → len ≡ length xs →
    count ≡ length xs + n → new ≡ xs ++ replicate n x
grown xs new len count n x is long more =
    is ∙ ap (λ ys. ys ++ replicate (count - len) x) (take_all count xs (omega arith))
    ∙ ap (λ k. xs ++ replicate k x) (let e : count - len ≡ n = omega arith in e)

-- the message that was read is the one of this number
pub sent_is : (es : List GroupEntry) (all messages : List GroupSent) (m : ℕ) (read s : GroupSent) → all ≡ sent_in es ++ messages → messages ≡ [] →
    m < length (sent_in es) → read ≡ get_or all m read → s ≡ read → slice_get (sent_in es) m ≡ Some s
sent_is es all messages m read s whole none lt is same =
    get_is (sent_in es) m lt
    ∙ ap (λ (t : GroupSent). Some t) (ap (λ (ss : List GroupSent). get_or ss m read) (sym (whole ∙ ap (λ ms. sent_in es ++ ms) none ∙ append-nil (sent_in es)))
    ∙ sym is ∙ sym same) where
      get_is : (xs : List GroupSent) (k : ℕ) → k < length xs → slice_get xs k ≡ Some (get_or xs k read)
      get_is [] k l = absurd (omega arith)
      get_is (t ∷ xs) zero l = refl
      get_is (t ∷ xs) (suc k) l = get_is xs k (omega arith)

-- ---- marks

-- those that were added are not marked
read_added : (xs : List Bool) (n m : ℕ) → get_or (xs ++ replicate n false) m false ≡ get_or xs m false
read_added [] zero m = refl
read_added [] (suc n) zero = refl
read_added [] (suc n) (suc m) = read_added [] n m
read_added (x ∷ xs) n zero = refl
read_added (x ∷ xs) n (suc m) = read_added xs n m

length-replicated : (n : ℕ) → length (replicate n false) ≡ n
length-replicated zero = refl
length-replicated (suc n) = let r = length-replicated n in omega arith

or_false : (b : Bool) → (b || false) ≡ b
or_false true = refl
or_false false = refl

or_true : (b : Bool) → (b || true) ≡ true
or_true true = refl
or_true false = refl

pub marked-length : (o : Option ℕ) (xs : List Bool) → length (marked o xs) ≡ length xs
marked-length (Some m) xs = length-set xs m true
marked-length None xs = refl

read_marked : (v : GroupEvent) (xs : List Bool) (m : ℕ) → IsBelow (length xs) (delivered_by v) →
    get_or (marked (delivered_by v) xs) m false ≡ (get_or xs m false || is_delivery_of m v)
read_marked (event.Command x n name c) xs m l = sym (or_false (get_or xs m false))
read_marked (event.Deliver d) xs m l = elim (cases_Bool (d == m)) [
  | inl t ↦
      let same : d ≡ m = (Decides-eqb d m).0 t in
      ap (λ k. get_or (slice_set xs d true) k false) (sym same) ∙ get_or-set_same xs d true false l
      ∙ sym (ap (λ b. get_or xs m false || b) t ∙ or_true (get_or xs m false))
  | inr t ↦
      let ne : m ≢ d = λ e. let u : d == m ≡ true = (Decides-eqb d m).1 (sym e) in cc in
      get_or-set_other xs d m true false ne ∙ sym (ap (λ b. get_or xs m false || b) t ∙ or_false (get_or xs m false))
]

-- what is read once an entry's messages were added, and the one that it delivers is marked
read_grown : (marks new : List Bool) (e : GroupEntry) (m : ℕ) → IsBelow (length marks) (delivered_by e.event) →
    new ≡ marked (delivered_by e.event) marks ++ replicate (length e.messages) false →
    get_or new m false ≡ (get_or marks m false || is_delivery_of m e.event)
read_grown marks new e m below is =
    ap (λ (ms : List Bool). get_or ms m false) is ∙ read_added (marked (delivered_by e.event) marks) (length e.messages) m ∙ read_marked e.event marks m below

marks_more : (marks new : List Bool) (es : List GroupEntry) (e : GroupEntry) → HasMarks marks es → IsBelow (length marks) (delivered_by e.event) →
    new ≡ marked (delivered_by e.event) marks ++ replicate (length e.messages) false → HasMarks new (es ++ e ∷ [])
marks_more marks new es e h below is = record {
  count =
      let a = ap (λ (ms : List Bool). length ms) is ∙ length-append (marked (delivered_by e.event) marks) (replicate (length e.messages) false) in
      let b = marked-length (delivered_by e.event) marks in
      let c = length-replicated (length e.messages) in
      let d = ap (λ (ss : List GroupSent). length ss) (sent_in-push es e) ∙ length-append (sent_in es) e.messages in
      let f = h.count in omega arith;
  each = λ m.
      list_any-append (λ (x : GroupEntry). is_delivery_of m x.event) es (e ∷ []) ∙ ap (λ b. was_delivered es m || b) (or_false (is_delivery_of m e.event))
      ∙ ap (λ b. b || is_delivery_of m e.event) (h.each m) ∙ sym (read_grown marks new e m below is);
}

-- ---- all of it

pub messages_more : (a b : Messages) (es : List GroupEntry) (e : GroupEntry) → ListsMessages a es → IsBelow (length a.delivered.items) (delivered_by e.event) →
    b.delivered.items ≡ marked (delivered_by e.event) a.delivered.items ++ replicate (length e.messages) false →
    b.oldest ≤ length b.delivered.items → ((m : ℕ) → a.oldest ≤ m → m < b.oldest → get_or b.delivered.items m false ≡ true) →
    get_or b.delivered.items b.oldest false ≡ false → ListsMessages b (es ++ e ∷ [])
messages_more a b es e h below marks within before here = record {
  marks = marks_more a.delivered.items b.delivered.items es e h.marks below marks;
  oldest = record {
    within = within;
    before = λ m lt. elim (cases_lt m a.oldest) [
      | inl early ↦
          read_grown a.delivered.items b.delivered.items e m below marks ∙ ap (λ t. t || is_delivery_of m e.event) (h.oldest.before m early)
      | inr late ↦ before m late lt
    ];
    here = here;
  };
}

-- ---- the oldest

-- those before were delivered
undelivered_skip : (es : List GroupEntry) (m k n : ℕ) → ((j : ℕ) → m ≤ j → j < m + k → was_delivered es j ≡ true) →
    undelivered_from es m (k + n) ≡ undelivered_from es (m + k) n
undelivered_skip es m zero n h = ap (undelivered_from es m) (zero-add n) ∙ sym (ap (λ k. undelivered_from es k n) (add-zero m))
undelivered_skip es m (suc k) n h =
    let a : suc k + n ≡ suc (k + n) = omega arith in
    let b : m + suc k ≡ suc m + k = omega arith in
    let t : was_delivered es m ≡ true = h m (omega arith) (omega arith) in
    rw (a, b) (ap (λ c. cond c (undelivered_from es (suc m) (k + n)) (Some m)) t ∙ undelivered_skip es (suc m) k n (λ j lo hi. h j (omega arith) (omega arith)))

undelivered_here : (es : List GroupEntry) (m n : ℕ) → was_delivered es m ≡ false → undelivered_from es m (suc n) ≡ Some m
undelivered_here es m n f = ap (λ c. cond c (undelivered_from es (suc m) n) (Some m)) f

pub oldest_listed : (es : List GroupEntry) (a : Messages) → ListsMessages a es → oldest_of a ≡ oldest_undelivered es
oldest_listed es a h = elim (cases_Bool (nat_lt a.oldest (length a.delivered.items))) [
  | inl t ↦
      let lt = ltb-true a.oldest (length a.delivered.items) t in
      let n = length (sent_in es) - a.oldest - 1 in
      let l : length (sent_in es) ≡ a.oldest + suc n = let count = h.marks.count in omega arith in
      let f : was_delivered es a.oldest ≡ false = h.marks.each a.oldest ∙ h.oldest.here in
      ap (λ b. cond b (Some a.oldest) None) t ∙ sym (ap (undelivered_from es 0) l ∙ skip (suc n) ∙ undelivered_here es a.oldest n f)
  | inr t ↦
      let le = ltb-false a.oldest (length a.delivered.items) t in
      let l : length (sent_in es) ≡ a.oldest + 0 = let count = h.marks.count in let within = h.oldest.within in omega arith in
      ap (λ b. cond b (Some a.oldest) None) t ∙ sym (ap (undelivered_from es 0) l ∙ skip 0)
] where
  skip : (n : ℕ) → undelivered_from es 0 (a.oldest + n) ≡ undelivered_from es a.oldest n
  skip n =
      undelivered_skip es 0 a.oldest n (λ j lo hi. h.marks.each j ∙ h.oldest.before j (omega arith))
      ∙ ap (λ k. undelivered_from es k n) (zero-add a.oldest)
