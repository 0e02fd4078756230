-- What becomes of entries in their order when one comes in, and when one gets another slot.
use Rattle.std.proofs.Common.{◌≡◌, ◌≢◌, get_or-set_other, get_or-set_same, length-set, ◌<◌, ◌≤◌, ℕ, ◌+◌, ◌==◌, Bool, true, false, not, ◌&&◌, nat_lt}
use Rattle.std.proofs.Common.{List, [], ◌∷◌, ◌++◌, length, get_or, zero, suc, refl, sym, subst, inl, inr, ◌∙◌, ap, arith}
use Rattle.std.proofs.Math.ListN.{set}
use Rattle.std.specs.List.{insert}
use Rattle.std.proofs.lemmas.Bool.Decides.{nat_tests}
use Rattle.std.proofs.lemmas.Bool.{cases_lt, lt-ltb, le-ltb}
use Rattle.std.proofs.lemmas.List.{get_or_default}
use Rattle.std.proofs.lemmas.List.Edits.{length-insert}
use Rattle.ring_math.specs.declared.limits.TheConstants.{MOST_ENTRIES}
use Rattle.ring_math.specs.declared.file.Held.{Held}
use Rattle.ring_math.specs.Bytewise.{is_before}
use Rattle.ring_math.specs.Files.{Slot}
use Rattle.file_store.specs.Heads.{IsHead}
use Rattle.file_store.specs.Spread.{blank, entry_at, spread, EachLeads, EachHead, is_free, are_apart, Kept}

both : (a b : Bool) → a && b ≡ true → (a ≡ true) × (b ≡ true)
both true b e = (refl, e)
both false b e = cc

-- where heads differ they decide
pub head-before : (f g : List ℕ) (m n : ℕ) → IsHead f m → IsHead g n → m < n → is_before f g ≡ true
head-before (x ∷ y ∷ f) (v ∷ w ∷ g) m n p q l = let a = p.is in let b = q.is in let c = p.byte in let d = q.byte in grind (arith, nat_tests)
head-before [] g m n p q l = absurd (let a = p.long in omega arith)
head-before (x ∷ []) g m n p q l = absurd (let a = p.long in omega arith)
head-before (x ∷ y ∷ f) [] m n p q l = absurd (let a = q.long in omega arith)
head-before (x ∷ y ∷ f) (v ∷ []) m n p q l = absurd (let a = q.long in omega arith)

pub head-after : (f g : List ℕ) (m n : ℕ) → IsHead f m → IsHead g n → n < m → is_before f g ≡ false
head-after (x ∷ y ∷ f) (v ∷ w ∷ g) m n p q l = let a = p.is in let b = q.is in let c = p.byte in let d = q.byte in grind (arith, nat_tests)
head-after [] g m n p q l = absurd (let a = p.long in omega arith)
head-after (x ∷ []) g m n p q l = absurd (let a = p.long in omega arith)
head-after (x ∷ y ∷ f) [] m n p q l = absurd (let a = q.long in omega arith)
head-after (x ∷ y ∷ f) (v ∷ []) m n p q l = absurd (let a = q.long in omega arith)

pub length-spread : (entries : List Held) (places : List ℕ) → length (spread entries places) ≡ length places
length-spread entries [] = refl
length-spread entries (p ∷ ps) = ap suc (length-spread entries ps)

pub leads-at : (entries : List Held) (places : List ℕ) (i : ℕ) (d : ℕ) → EachLeads entries places → i < length places → get_or places i d < length entries
leads-at entries [] i d e l = absurd (omega arith)
leads-at entries (p ∷ ps) zero d e l = e.0
leads-at entries (p ∷ ps) (suc i) d e l = leads-at entries ps i d e.1 (omega arith)

pub spread-at : (entries : List Held) (places : List ℕ) (i : ℕ) (d : ℕ) (x : Held) → i < length places →
    get_or (spread entries places) i x ≡ entry_at entries (get_or places i d)
spread-at entries [] i d x l = absurd (omega arith)
spread-at entries (p ∷ ps) zero d x l = refl
spread-at entries (p ∷ ps) (suc i) d x l = spread-at entries ps i d x (omega arith)

-- an entry that comes in last leaves the others where they are
get_or-pushed : (entries : List Held) (h d : Held) (e : ℕ) → e < length entries → get_or (entries ++ h ∷ []) e d ≡ get_or entries e d
get_or-pushed [] h d e l = absurd (omega arith)
get_or-pushed (x ∷ xs) h d zero l = refl
get_or-pushed (x ∷ xs) h d (suc e) l = get_or-pushed xs h d e (omega arith)

get_or-last : (entries : List Held) (h d : Held) → get_or (entries ++ h ∷ []) (length entries) d ≡ h
get_or-last [] h d = refl
get_or-last (x ∷ xs) h d = get_or-last xs h d

length-pushed : (entries : List Held) (h : Held) → length (entries ++ h ∷ []) ≡ length entries + 1
length-pushed [] h = refl
length-pushed (x ∷ xs) h = omega (arith, length-pushed xs h)

spread-pushed : (entries : List Held) (h : Held) (places : List ℕ) → EachLeads entries places → spread (entries ++ h ∷ []) places ≡ spread entries places
spread-pushed entries h [] e = refl
spread-pushed entries h (p ∷ ps) e = rw (get_or-pushed entries h blank p e.0, spread-pushed entries h ps e.1) refl

leads-pushed : (entries : List Held) (h : Held) (places : List ℕ) → EachLeads entries places → EachLeads (entries ++ h ∷ []) places
leads-pushed entries h [] e = tt
leads-pushed entries h (p ∷ ps) e = (let l = e.0 in let n = length-pushed entries h in omega arith, leads-pushed entries h ps e.1)

heads-pushed : (entries : List Held) (heads : List ℕ) (h : Held) (n : ℕ) → EachHead entries heads → IsHead h.file n →
    EachHead (entries ++ h ∷ []) (heads ++ n ∷ [])
heads-pushed [] [] h n e q = (q, tt)
heads-pushed [] (m ∷ ms) h n e q = absurd e
heads-pushed (x ∷ xs) [] h n e q = absurd e
heads-pushed (x ∷ xs) (m ∷ ms) h n e q = (e.0, heads-pushed xs ms h n e.1 q)

length-heads : (entries : List Held) (heads : List ℕ) → EachHead entries heads → length heads ≡ length entries
length-heads [] [] e = refl
length-heads [] (m ∷ ms) e = absurd e
length-heads (x ∷ xs) [] e = absurd e
length-heads (x ∷ xs) (m ∷ ms) e = ap suc (length-heads xs ms e.1)

head-at : (entries : List Held) (heads : List ℕ) (i d : ℕ) → EachHead entries heads → i < length entries → IsHead (entry_at entries i).file (get_or heads i d)
head-at [] heads i d e l = absurd (omega arith)
head-at (x ∷ xs) [] i d e l = absurd e
head-at (x ∷ xs) (m ∷ ms) zero d e l = e.0
head-at (x ∷ xs) (m ∷ ms) (suc i) d e l = head-at xs ms i d e.1 (omega arith)

-- the head that was read is that of the entry
pub head-read : (entries : List Held) (heads : List ℕ) (i n : ℕ) → EachHead entries heads → i < length entries → n ≡ get_or heads i n →
    IsHead (entry_at entries i).file n
head-read entries heads i n e l r = subst (IsHead (entry_at entries i).file) (sym r) (head-at entries heads i n e l)

spread-insert : (entries : List Held) (places : List ℕ) (i : ℕ) (p : ℕ) →
    spread entries (insert places i p) ≡ insert (spread entries places) i (entry_at entries p)
spread-insert entries places zero p = refl
spread-insert entries [] (suc i) p = refl
spread-insert entries (q ∷ qs) (suc i) p = ap (λ hs. entry_at entries q ∷ hs) (spread-insert entries qs i p)

leads-insert : (entries : List Held) (places : List ℕ) (i : ℕ) (p : ℕ) → EachLeads entries places → p < length entries → EachLeads entries (insert places i p)
leads-insert entries places zero p e q = (q, e)
leads-insert entries [] (suc i) p e q = (q, tt)
leads-insert entries (x ∷ xs) (suc i) p e q = (e.0, leads-insert entries xs i p e.1 q)

free-insert : (entry : ℕ) (places : List ℕ) (i : ℕ) (p : ℕ) → not (p == entry) ≡ true → is_free entry places ≡ true → is_free entry (insert places i p) ≡ true
free-insert entry places zero p t e = rw (t, e) refl
free-insert entry [] (suc i) p t e = rw t refl
free-insert entry (q ∷ qs) (suc i) p t e =
    let parts = both (not (q == entry)) (is_free entry qs) e in rw parts.0 (free-insert entry qs i p t parts.1)

not_same-turned : (a b : ℕ) → not (a == b) ≡ true → not (b == a) ≡ true
not_same-turned a b e = grind (arith, nat_tests)

apart-insert : (places : List ℕ) (i : ℕ) (p : ℕ) → is_free p places ≡ true → are_apart places ≡ true → are_apart (insert places i p) ≡ true
apart-insert places zero p f e = rw (f, e) refl
apart-insert [] (suc i) p f e = refl
apart-insert (q ∷ qs) (suc i) p f e =
    let frees = both (not (q == p)) (is_free p qs) f in
    let aparts = both (is_free q qs) (are_apart qs) e in
    rw (free-insert q qs i p (not_same-turned q p frees.0) aparts.0) (apart-insert qs i p frees.1 aparts.1)

-- no place leads behind the last entry
free-last : (entries : List Held) (places : List ℕ) → EachLeads entries places → is_free (length entries) places ≡ true
free-last entries [] e = refl
free-last entries (p ∷ ps) e = rw (below p (length entries) e.0) (free-last entries ps e.1) where
  below : (a b : ℕ) → a < b → not (a == b) ≡ true
  below a b l = grind (arith, nat_tests)

pub kept-empty : Kept [] [] []
kept-empty = record { count = refl; beside = refl; limit = omega arith; leads = tt; begins = tt; apart = refl }

-- one more entry, its head, and a place for it
pub kept-insert : (entries : List Held) (heads places : List ℕ) (i : ℕ) (h : Held) (n p : ℕ) → Kept entries heads places → length entries < MOST_ENTRIES →
    i ≤ length places →
    p ≡ length entries → IsHead h.file n → Kept (entries ++ h ∷ []) (heads ++ n ∷ []) (insert places i p)
kept-insert entries heads places i h n p k room l e head = record {
  count = let c = k.count in let more = length-pushed entries h in let m = length-insert places i p l in omega arith;
  beside = length-heads (entries ++ h ∷ []) (heads ++ n ∷ []) (heads-pushed entries heads h n k.begins head);
  limit = let more = length-pushed entries h in omega arith;
  leads = leads-insert (entries ++ h ∷ []) places i p (leads-pushed entries h places k.leads) (let more = length-pushed entries h in omega arith);
  begins = heads-pushed entries heads h n k.begins head;
  apart = apart-insert places i p (rw e (free-last entries places k.leads)) k.apart;
}

pub spread-new : (entries : List Held) (places : List ℕ) (i : ℕ) (h : Held) (p : ℕ) → EachLeads entries places → p ≡ length entries →
    spread (entries ++ h ∷ []) (insert places i p) ≡ insert (spread entries places) i h
spread-new entries places i h p k e =
    spread-insert (entries ++ h ∷ []) places i p
    ∙ ap (λ hs. insert hs i (entry_at (entries ++ h ∷ []) p)) (spread-pushed entries h places k)
    ∙ ap (λ x. insert (spread entries places) i x) (rw e (get_or-last entries h blank))

-- a change of an entry to which no place leads
spread-unled : (entries : List Held) (e : ℕ) (h : Held) (places : List ℕ) → is_free e places ≡ true → spread (set entries e h) places ≡ spread entries places
spread-unled entries e h [] f = refl
spread-unled entries e h (p ∷ ps) f =
    let parts = both (not (p == e)) (is_free e ps) f in
    rw (get_or-set_elsewhere entries e p h parts.0, spread-unled entries e h ps parts.1) refl
  where
    get_or-set_elsewhere : (xs : List Held) (i j : ℕ) (x : Held) → not (j == i) ≡ true → get_or (set xs i x) j blank ≡ get_or xs j blank
    get_or-set_elsewhere xs i j x t = get_or-set_other xs i j x blank (differs j i t) where
      differs : (a b : ℕ) → not (a == b) ≡ true → a ≢ b
      differs a b t e = grind (arith, nat_tests)

apart-at : (p : ℕ) (ps : List ℕ) (i : ℕ) (d : ℕ) → is_free p ps ≡ true → i < length ps → not ((get_or ps i d) == p) ≡ true
apart-at p [] i d f l = absurd (omega arith)
apart-at p (q ∷ qs) zero d f l = (both (not (q == p)) (is_free p qs) f).0
apart-at p (q ∷ qs) (suc i) d f l = apart-at p qs i d (both (not (q == p)) (is_free p qs) f).1 (omega arith)

-- an entry that is changed in its store is changed in its place of the order
pub spread-set : (entries : List Held) (places : List ℕ) (i : ℕ) (d : ℕ) (h : Held) → EachLeads entries places → are_apart places ≡ true → i < length places →
    spread (set entries (get_or places i d) h) places ≡ set (spread entries places) i h
spread-set entries [] i d h e a l = absurd (omega arith)
spread-set entries (p ∷ ps) zero d h e a l =
    rw (get_or-set_same entries p h blank e.0, spread-unled entries p h ps (both (is_free p ps) (are_apart ps) a).0) refl
spread-set entries (p ∷ ps) (suc i) d h e a l =
    let parts = both (is_free p ps) (are_apart ps) a in
    let apart = not_same-turned (get_or ps i d) p (apart-at p ps i d parts.0 (omega arith)) in
    rw (get_or-set_other entries (get_or ps i d) p h blank (differs p (get_or ps i d) apart), spread-set entries ps i d h e.1 parts.1 (omega arith)) refl
  where
    differs : (a b : ℕ) → not (a == b) ≡ true → a ≢ b
    differs a b t e = grind (arith, nat_tests)

leads-set : (entries : List Held) (e : ℕ) (h : Held) (places : List ℕ) → EachLeads entries places → EachLeads (set entries e h) places
leads-set entries e h [] l = tt
leads-set entries e h (p ∷ ps) l = (let n = length-set entries e h in let w = l.0 in omega arith, leads-set entries e h ps l.1)

heads-set : (entries : List Held) (heads : List ℕ) (e : ℕ) (h : Held) → h.file ≡ (get_or entries e blank).file → EachHead entries heads →
    EachHead (set entries e h) heads
heads-set [] heads e h f k = k
heads-set (x ∷ xs) [] e h f k = absurd k
heads-set (x ∷ xs) (m ∷ ms) zero h f k = (subst (λ (g : List ℕ). IsHead g m) (sym f) k.0, k.1)
heads-set (x ∷ xs) (m ∷ ms) (suc e) h f k = (k.0, heads-set xs ms e h f k.1)

pub kept-set : (entries : List Held) (heads places : List ℕ) (e : ℕ) (h : Held) → Kept entries heads places → h.file ≡ (get_or entries e blank).file →
    Kept (set entries e h) heads places
kept-set entries heads places e h k f = record {
  count = let n = length-set entries e h in let c = k.count in omega arith;
  beside = length-heads (set entries e h) heads (heads-set entries heads e h f k.begins);
  limit = let n = length-set entries e h in let c = k.limit in omega arith;
  leads = leads-set entries e h places k.leads;
  begins = heads-set entries heads e h f k.begins;
  apart = k.apart;
}

-- the place that was read leads to an entry
pub leads-read : (entries : List Held) (places : List ℕ) (i : ℕ) (p : ℕ) → EachLeads entries places → i < length (spread entries places) →
    p ≡ get_or places i p → p < length entries
leads-read entries places i p k l r = subst (λ (q : ℕ). q < length entries) (sym r)
    (leads-at entries places i p k (let n = length-spread entries places in omega arith))

-- and the entry is the one of the order
pub spread-read : (entries : List Held) (places : List ℕ) (i : ℕ) (p : ℕ) (d : Held) → i < length (spread entries places) → p ≡ get_or places i p →
    get_or (spread entries places) i d ≡ entry_at entries p
spread-read entries places i p d l r = spread-at entries places i p d (let n = length-spread entries places in omega arith) ∙ ap (entry_at entries) (sym r)

pub entry-read : (entries : List Held) (places : List ℕ) (i : ℕ) (p : ℕ) (x : Held) → EachLeads entries places → i < length (spread entries places) →
    p ≡ get_or places i p →
    x ≡ get_or entries p x → x ≡ get_or (spread entries places) i x
entry-read entries places i p x k l r e =
    let leads = leads-read entries places i p k l r in
    e ∙ get_or_default entries p x blank leads ∙ sym (spread-read entries places i p x l r)

pub head-decides : (f g : List ℕ) (m n : ℕ) → IsHead f m → IsHead g n → m ≢ n → nat_lt m n ≡ is_before f g
head-decides f g m n p q d = elim (cases_lt m n) [
  | inl l ↦ lt-ltb m n l ∙ sym (head-before f g m n p q l)
  | inr l ↦ le-ltb m n l ∙ sym (head-after f g m n p q (omega arith))
]

-- another slot for the entry at a place of the order
pub slot-set : (entries : List Held) (places : List ℕ) (i : ℕ) (p : ℕ) (s : Slot) → EachLeads entries places → are_apart places ≡ true →
    i < length (spread entries places) → p ≡ get_or places i p →
    spread (set entries p (record (get_or entries p blank) { slot = s })) places ≡ set (spread entries places) i
    (record (get_or (spread entries places) i blank) { slot = s })
slot-set entries places i p s k a l r =
    ap (λ (q : ℕ). spread (set entries q (record (get_or entries p blank) { slot = s })) places) r
    ∙ spread-set entries places i p (record (get_or entries p blank) { slot = s }) k a (let n = length-spread entries places in omega arith)
    ∙ ap (λ (h : Held). set (spread entries places) i (record h { slot = s })) (sym (spread-read entries places i p blank l r))
