-- The messages of a record that has one entry more.
use Rattle.std.proofs.Common.{◌≡◌, ◌≢◌, ◌<◌, ◌≤◌, ◌==◌, ℕ, zero, suc, ◌+◌, ◌-◌, Bool, true, false, cond, ◌||◌, Option, Some, None, List, [], ◌∷◌, ◌++◌, length}
use Rattle.std.proofs.Common.{get_or, slice_get, slice_set, replicate, nat_lt}
use Rattle.std.proofs.Common.{refl, sym, ap, subst, ◌∙◌, arith, length-append, zero-add, add-zero}
use Rattle.std.proofs.lemmas.Bool.{ltb-true, ltb-false}
use Rattle.std.proofs.lemmas.Bool.Decides.{Decides-eqb}
use Rattle.std.proofs.lemmas.List.Folds.{list_any-append}
use Rattle.overlay_rules.specs.declared.entry.Event.{Event}
use Rattle.overlay_rules.specs.declared.entry.Event.TheVariants as event
use Rattle.overlay_rules.specs.declared.entry.Entry.{Entry}
use Rattle.overlay_rules.specs.Record.{World, sent_in}
use Rattle.overlay_rules.specs.Played.{is_delivery_of, undelivered_from, oldest_undelivered}
use Rattle.overlay_rules.proofs.Histories.{sent_in-push}
use Rattle.overlay_rules.proofs.OneMore.{or_false}
use Rattle.world_model.specs.declared.index.Messages.{Messages}
use Rattle.world_model.specs.Index.{is_delivered, HasMarks, ListsMessages, IsBelow, delivered_by, marked, oldest_of}

by_test : {P : Type 0} (b : Bool) → (b ≡ true → P) → (b ≡ false → P) → P
by_test true f g = f refl
by_test false f g = g refl

-- below or not
by_place : {P : Type 0} (m n : ℕ) → (nat_lt m n ≡ true → m < n → P) → (nat_lt m n ≡ false → n ≤ m → P) → P
by_place m n f g = by_test (nat_lt m n) (λ t. f t (ltb-true m n t)) (λ t. g t (ltb-false m n t))

-- ---- reading lists

pub get-within : {A : Type 0} (xs : List A) (i : ℕ) (x : A) → slice_get xs i ≡ Some x → i < length xs
get-within [] i x e = cc
get-within (y ∷ ys) zero x e = omega arith
get-within (y ∷ ys) (suc i) x e = let l = get-within ys i x e in omega arith

-- ---- marks

read-more : (xs : List Bool) (n m : ℕ) → get_or (xs ++ replicate n false) m false ≡ get_or xs m false
read-more [] zero m = refl
read-more [] (suc n) zero = refl
read-more [] (suc n) (suc m) = read-more [] n m
read-more (x ∷ xs) n zero = refl
read-more (x ∷ xs) n (suc m) = read-more xs n m

set-length : (xs : List Bool) (d : ℕ) (b : Bool) → length (slice_set xs d b) ≡ length xs
set-length [] d b = refl
set-length (x ∷ xs) zero b = refl
set-length (x ∷ xs) (suc d) b = let l = set-length xs d b in omega arith

marked-length : (o : Option ℕ) (xs : List Bool) → length (marked o xs) ≡ length xs
marked-length (Some m) xs = set-length xs m true
marked-length None xs = refl

or_true : (b : Bool) → b || true ≡ true
or_true true = refl
or_true false = refl

-- the test of equality where the numbers differ, and of the next numbers
apart : (d m : ℕ) → d ≢ m → d == m ≡ false
apart d m ne = by_test (d == m) (λ t. absurd (ne ((Decides-eqb d m).0 t))) (λ t. t)

same_test : (d m : ℕ) → d == m ≡ suc d == suc m
same_test d m = by_test (d == m)
    (λ t. let e : d ≡ m = (Decides-eqb d m).0 t in t ∙ sym ((Decides-eqb (suc d) (suc m)).1 (ap suc e)))
    (λ t. let ne : d ≢ m = λ e. let f : d == m ≡ true = (Decides-eqb d m).1 e in cc in t ∙ sym (apart (suc d) (suc m) (omega arith)))

read-set : (xs : List Bool) (d m : ℕ) → d < length xs → get_or (slice_set xs d true) m false ≡ get_or xs m false || (d == m)
read-set [] d m l = absurd (omega arith)
read-set (x ∷ xs) zero zero l = sym (or_true x)
read-set (x ∷ xs) zero (suc m) l = sym (ap (λ b. get_or xs m false || b) (apart 0 (suc m) (omega arith)) ∙ or_false (get_or xs m false))
read-set (x ∷ xs) (suc d) zero l = sym (ap (λ b. x || b) (apart (suc d) 0 (omega arith)) ∙ or_false x)
read-set (x ∷ xs) (suc d) (suc m) l = read-set xs d m (omega arith) ∙ ap (λ b. get_or xs m false || b) (same_test d m)

read-marked : (v : Event) (xs : List Bool) (m : ℕ) → IsBelow (length xs) (delivered_by v) →
    get_or (marked (delivered_by v) xs) m false ≡ get_or xs m false || is_delivery_of m v
read-marked (event.Deliver d) xs m l = read-set xs d m l
read-marked (event.Command x n c) xs m l = sym (or_false (get_or xs m false))
read-marked (event.Noise x) xs m l = sym (or_false (get_or xs m false))

HasMarks-more : (marks : List Bool) (es : List Entry) (e : Entry) → IsBelow (length marks) (delivered_by e.event) → HasMarks marks es →
    HasMarks (marked (delivered_by e.event) marks ++ replicate (length e.messages) false) (es ++ e ∷ [])
HasMarks-more marks es e l h = record {
  count =
      let a = length-append (marked (delivered_by e.event) marks) (replicate (length e.messages) false) in
      let b = marked-length (delivered_by e.event) marks in
      let c = ap length (sent_in-push es e) in
      let d = length-append (sent_in es) e.messages in
      let g = length-replicated (length e.messages) in
      let f = h.count in omega arith;
  each = λ m.
      list_any-append (λ x. is_delivery_of m x.event) es (e ∷ []) ∙ ap (λ b. is_delivered es m || b) (or_false (is_delivery_of m e.event))
      ∙ ap (λ b. b || is_delivery_of m e.event) (h.each m)
      ∙ sym (read-more (marked (delivered_by e.event) marks) (length e.messages) m ∙ read-marked e.event marks m l);
} where
  length-replicated : (n : ℕ) → length (replicate n false) ≡ n
  length-replicated zero = refl
  length-replicated (suc n) = let r = length-replicated n in omega arith

-- ---- the oldest

-- what was marked stays so
still-marked : (v : Event) (xs : List Bool) (n m : ℕ) → IsBelow (length xs) (delivered_by v) → get_or xs m false ≡ true →
    get_or (marked (delivered_by v) xs ++ replicate n false) m false ≡ true
still-marked v xs n m l e = read-more (marked (delivered_by v) xs) n m ∙ read-marked v xs m l ∙ ap (λ b. b || is_delivery_of m v) e

pub ListsMessages-more : (a b : Messages) (es : List Entry) (e : Entry) → IsBelow (length a.delivered.items) (delivered_by e.event) →
    b.delivered.items ≡ marked (delivered_by e.event) a.delivered.items ++ replicate (length e.messages) false →
    b.oldest ≤ length b.delivered.items → ((m : ℕ) → a.oldest ≤ m → m < b.oldest → get_or b.delivered.items m false ≡ true) →
    get_or b.delivered.items b.oldest false ≡ false →
    ListsMessages a es → ListsMessages b (es ++ e ∷ [])
ListsMessages-more a b es e l marks within before here h = record {
  marks = subst (λ ms. HasMarks ms (es ++ e ∷ [])) (sym marks) (HasMarks-more a.delivered.items es e l h.marks);
  oldest = record {
    within = within;
    before = λ m k. by_place m a.oldest
        (λ t lt. ap (λ ms. get_or ms m false) marks ∙ still-marked e.event a.delivered.items (length e.messages) m l (h.oldest.before m lt))
        (λ t le. before m le k);
    here = here;
  };
}

-- those before were delivered
undelivered-skip : (w : World) (m k n : ℕ) → ((j : ℕ) → m ≤ j → j < m + k → is_delivered w.past j ≡ true) →
    undelivered_from w m (k + n) ≡ undelivered_from w (m + k) n
undelivered-skip w m zero n h = ap (undelivered_from w m) (zero-add n) ∙ sym (ap (λ k. undelivered_from w k n) (add-zero m))
undelivered-skip w m (suc k) n h =
    let a : suc k + n ≡ suc (k + n) = omega arith in
    let b : m + suc k ≡ suc m + k = omega arith in
    let t : is_delivered w.past m ≡ true = h m (omega arith) (omega arith) in
    rw (a, b) (ap (λ c. cond c (undelivered_from w (suc m) (k + n)) (Some m)) t ∙ undelivered-skip w (suc m) k n (λ j lo hi. h j (omega arith) (omega arith)))

undelivered-here : (w : World) (m n : ℕ) → is_delivered w.past m ≡ false → undelivered_from w m (suc n) ≡ Some m
undelivered-here w m n f = ap (λ c. cond c (undelivered_from w (suc m) n) (Some m)) f

pub oldest-listed : (w : World) (a : Messages) → ListsMessages a w.past → oldest_of a ≡ oldest_undelivered w
oldest-listed w a h =
    let count = h.marks.count in
    let within = h.oldest.within in
    let skip : (n : ℕ) → undelivered_from w 0 (a.oldest + n) ≡ undelivered_from w a.oldest n =
    λ n. undelivered-skip w 0 a.oldest n (λ j lo hi. h.marks.each j ∙ h.oldest.before j (omega arith)) ∙ ap (λ k. undelivered_from w k n) (zero-add a.oldest) in
    by_place a.oldest (length a.delivered.items)
    (λ t lt.
    let n = length (sent_in w.past) - a.oldest - 1 in
    let l : length (sent_in w.past) ≡ a.oldest + suc n = omega arith in
    let f : is_delivered w.past a.oldest ≡ false = h.marks.each a.oldest ∙ h.oldest.here in
    ap (λ b. cond b (Some a.oldest) None) t ∙ sym (ap (undelivered_from w 0) l ∙ skip (suc n) ∙ undelivered-here w a.oldest n f))
    (λ t le.
    let l : length (sent_in w.past) ≡ a.oldest + 0 = omega arith in
    ap (λ b. cond b (Some a.oldest) None) t ∙ sym (ap (undelivered_from w 0) l ∙ skip 0))
