-- What is kept along a record, and along lists of numbers: with one more.
use Rattle.std.proofs.Common.{◌≡◌, ℕ, zero, suc, ◌+◌, ◌-◌, ◌<◌, ◌≤◌, Bool, Some, List, [], ◌∷◌, ◌++◌, length, get_or, slice_get}
use Rattle.std.proofs.Common.{slice_range, take, drop, replicate, map, refl, sym, ap, subst, ◌∙◌, arith, append_assoc, length-append, length-take}
use Rattle.std.specs.List.{range_with_len}
use Rattle.std.proofs.lemmas.List.{append-nil, length-replicate, map-append, take_all}
use Rattle.std.proofs.lemmas.Option.{slice_get_within}
use Rattle.overlay_rules.specs.declared.entry.Entry.{Entry}
use Rattle.overlay_rules.specs.Record.{sent_in}
use Rattle.overlay_rules.proofs.Prefixes.{take-got, take-next}
use Rattle.course_picture.specs.Arrows.{senders_from}
use Rattle.course_picture.specs.Marks.{AreMarks}

-- ---- parts of lists

-- what a function makes of one element more
pub map-next : {A B : Type 0} (f : A → B) (xs : List A) (i : ℕ) (x : A) → i < length xs → x ≡ get_or xs i x →
    map f (take (i + 1) xs) ≡ map f (take i xs) ++ f x ∷ []
map-next f xs i x within is = ap (map f) (take-next xs i x within is) ∙ map-append f (take i xs) (x ∷ [])

got_behind : {A : Type 0} (a : ℕ) (xs : List A) (k : ℕ) (x : A) → slice_get xs (a + k) ≡ Some x → slice_get (drop a xs) k ≡ Some x
got_behind zero xs k x at = let none : 0 + k ≡ k = omega arith in rw none at at
got_behind (suc a) [] k x at = cc
got_behind (suc a) (y ∷ xs) k x at = let next : suc a + k ≡ suc (a + k) = omega arith in got_behind a xs k x (rw next at at)

-- the part from one place to another, with one element more
pub range-next : {A : Type 0} (xs : List A) (first i : ℕ) (x : A) → first ≤ i → slice_get xs i ≡ Some x →
    slice_range xs first (i + 1) ≡ slice_range xs first i ++ x ∷ []
range-next xs first i x low at =
    let longer : i + 1 - first ≡ i - first + 1 = omega arith in
    let same : first + (i - first) ≡ i = omega arith in
    ap (λ n. take n (drop first xs)) longer ∙
    take-got (drop first xs) (i - first) x (got_behind first xs (i - first) x (ap (slice_get xs) same ∙ at))

pub range_all : {A : Type 0} (xs : List A) (first : ℕ) → slice_range xs first (length xs) ≡ drop first xs
range_all xs first = take_all (length xs - first) (drop first xs) (omega (arith, length_rest xs first)) where
  length_rest : {A : Type 0} (xs : List A) (first : ℕ) → length (drop first xs) ≡ length xs - first
  length_rest xs zero = omega arith
  length_rest [] (suc n) = omega arith
  length_rest (x ∷ xs) (suc n) = let rest = length_rest xs n in omega arith

-- ---- lists of numbers

pub numbers-more : (a n p : ℕ) → a + n ≡ p → range_with_len a (n + 1) ≡ range_with_len a n ++ p ∷ []
numbers-more a zero p e = let same : a ≡ p = omega arith in ap (λ k. k ∷ []) same
numbers-more a (suc n) p e =
    let next : suc n + 1 ≡ suc (n + 1) = omega arith in
    ap (range_with_len a) next ∙ ap (λ ks. a ∷ ks) (numbers-more (a + 1) n p (omega arith))

pub numbers-next : (a i : ℕ) → a ≤ i → range_with_len a (i + 1 - a) ≡ range_with_len a (i - a) ++ i ∷ []
numbers-next a i low =
    let longer : i + 1 - a ≡ i - a + 1 = omega arith in ap (range_with_len a) longer ∙ numbers-more a (i - a) i (omega arith)

-- ---- senders

pub length-senders : (p : ℕ) (es : List Entry) → length (senders_from p es) ≡ length (sent_in es)
length-senders p [] = refl
length-senders p (e ∷ es) =
    let own = length-replicate (length e.messages) p in
    let rest = length-senders (p + 1) es in
    let left = length-append (replicate (length e.messages) p) (senders_from (p + 1) es) in
    let right = length-append e.messages (sent_in es) in omega arith

senders-push : (p : ℕ) (es : List Entry) (e : Entry) →
    senders_from p (es ++ e ∷ []) ≡ senders_from p es ++ replicate (length e.messages) (p + length es)
senders-push p [] e =
    let none : p ≡ p + 0 = omega arith in append-nil (replicate (length e.messages) p) ∙ ap (replicate (length e.messages)) none
senders-push p (x ∷ es) e =
    let further : p + 1 + length es ≡ p + suc (length es) = omega arith in
    ap (λ ps. replicate (length x.messages) p ++ ps) (senders-push (p + 1) es e ∙
    ap (λ q. senders_from (p + 1) es ++ replicate (length e.messages) q) further) ∙
    sym (append_assoc (replicate (length x.messages) p) (senders_from (p + 1) es) (replicate (length e.messages) (p + suc (length es))))

-- of one entry more
pub senders-next : (es : List Entry) (i : ℕ) (e : Entry) → slice_get es i ≡ Some e →
    senders_from 0 (take (i + 1) es) ≡ senders_from 0 (take i es) ++ replicate (length e.messages) i
senders-next es i e at =
    let within = slice_get_within es i e at in
    let size = length-take i es in
    let place : 0 + length (take i es) ≡ i = omega arith in
    ap (senders_from 0) (take-got es i e at) ∙ senders-push 0 (take i es) e ∙ ap (λ q. senders_from 0 (take i es) ++ replicate (length e.messages) q) place

-- ---- marks

pub marks-same : (a b : List Bool) (count : ℕ) (es fs : List Entry) → a ≡ b → es ≡ fs → AreMarks a count es → AreMarks b count fs
marks-same a b count es fs left right marks =
    subst (λ (l : List Bool). AreMarks l count fs) left (subst (AreMarks a count) right marks)
