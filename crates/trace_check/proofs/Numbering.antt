-- The numbers of commands: which of them may come next, and what is kept of them with one entry more.
use Rattle.std.proofs.Common.{◌≡◌, ◌≢◌, ◌<◌, ℕ, ◌==◌, cond, Bool, true, false, ◌&&◌, nat_lt, Option, Some, is_none, List, [], ◌∷◌, ◌++◌, All}
use Rattle.std.proofs.Common.{refl, sym, subst, ap, ◌∙◌, arith}
use Rattle.std.specs.Bool.{Decides}
use Rattle.std.specs.Cmp.{unsigned_tied}
use Rattle.std.specs.Ordering.{nat_cmp}
use Rattle.std.specs.BTreeMap.{get, is_at}
use Rattle.std.specs.Map.{lookup}
use Rattle.std.proofs.lemmas.Bool.Decides.{Decides-and, Decides-at, Decides-eqb, Decides-like, Decides-ltb}
use Rattle.std.proofs.lemmas.List.Elements.{All-push, All-weaker}
use Rattle.wire_msg.specs.declared.command.Command.{Command as NodeCommand}
use Rattle.overlay_rules.specs.declared.entry.Event.{Event}
use Rattle.overlay_rules.specs.declared.entry.Event.TheVariants as event
use Rattle.overlay_rules.specs.declared.entry.Entry.{Entry}
use Rattle.overlay_rules.specs.Record.{IsFresh, IsFreshAfter}
use Rattle.trace_check.specs.declared.numbers.Numbers.{Numbers}
use Rattle.trace_check.specs.Numbers.{AreNumbersOf, IsAbove, IsUnused, is_above}
use Rattle.trace_check.proofs.Growing.{All-both, All-parts, Decides-kept, Decides-lost}

by_test : {P : Type 0} (b : Bool) → (b ≡ true → P) → (b ≡ false → P) → P
by_test true f g = f refl
by_test false f g = g refl

-- ---- new numbers

fresh-parts : (x n : ℕ) (v : Event) → IsFreshAfter x n v → IsUnused n v × IsAbove x n v
fresh-parts x n (event.Command y m c) h = h
fresh-parts x n (event.Deliver m) h = (tt, tt)
fresh-parts x n (event.Noise y) h = (tt, tt)

parts-fresh : (x n : ℕ) (v : Event) → IsUnused n v × IsAbove x n v → IsFreshAfter x n v
parts-fresh x n (event.Command y m c) h = h
parts-fresh x n (event.Deliver m) h = tt
parts-fresh x n (event.Noise y) h = tt

pub new-exactly : (a : Numbers) (past : List Entry) (x n : ℕ) (c : NodeCommand) → AreNumbersOf a past →
    Decides (is_none (get nat_cmp a.used n) && is_above n (get nat_cmp a.greatest x)) (IsFresh past (event.Command x n c))
new-exactly a past x n c h = Decides-like (is_none (get nat_cmp a.used n) && is_above n (get nat_cmp a.greatest x))
    (λ both. All-weaker (λ (e : Entry). IsUnused n e.event × IsAbove x n e.event) (λ (e : Entry). IsFreshAfter x n e.event) (λ e. parts-fresh x n e.event) past
    (All-both (λ (e : Entry). IsUnused n e.event) (λ (e : Entry). IsAbove x n e.event) past both.0 both.1))
    (λ all. (
      All-weaker (λ (e : Entry). IsFreshAfter x n e.event) (λ (e : Entry). IsUnused n e.event) (λ e f. (fresh-parts x n e.event f).0) past all,
      All-weaker (λ (e : Entry). IsFreshAfter x n e.event) (λ (e : Entry). IsAbove x n e.event) (λ e f. (fresh-parts x n e.event f).1) past all,
    ))
    (Decides-and (is_none (get nat_cmp a.used n)) (is_above n (get nat_cmp a.greatest x)) (h.used n) (h.greatest x n))

-- before the first entry
pub AreNumbersOf-none : (a : Numbers) → a.used.entries ≡ [] → a.greatest.entries ≡ [] → AreNumbersOf a []
AreNumbersOf-none a used greatest = record {
  used = λ n. Decides-at (is_none (get nat_cmp a.used n)) true (ap (λ es. is_none (lookup (is_at (nat_cmp n)) es)) used)
      (λ _. λ i d l. absurd (omega arith), λ _. refl);
  greatest = λ x n. Decides-at (is_above n (get nat_cmp a.greatest x)) true (ap (λ es. is_above n (lookup (is_at (nat_cmp x)) es)) greatest)
      (λ _. λ i d l. absurd (omega arith), λ _. refl);
}

-- ---- one entry more

-- it has no command
pub AreNumbersOf-quiet : (a : Numbers) (past : List Entry) (e : Entry) → ((n : ℕ) → IsUnused n e.event) → ((x n : ℕ) → IsAbove x n e.event) →
    AreNumbersOf a past → AreNumbersOf a (past ++ e ∷ [])
AreNumbersOf-quiet a past e unused above h = record {
  used = λ n. Decides-kept (λ (d : Entry). IsUnused n d.event) past e (is_none (get nat_cmp a.used n)) (unused n) (h.used n);
  greatest = λ x n. Decides-kept (λ (d : Entry). IsAbove x n d.event) past e (is_above n (get nat_cmp a.greatest x)) (above x n) (h.greatest x n);
}

-- a map with one more pair
abbrev Updates : (ℕ → Option ℕ) → (ℕ → Option ℕ) → ℕ → ℕ → Type 0
Updates old new k v = (q : ℕ) → new q ≡ cond (is_at (nat_cmp k) q) (Some v) (old q)

updated : (old new : ℕ → Option ℕ) (k v q : ℕ) → Updates old new k v → new q ≡ cond (k == q) (Some v) (old q)
updated old new k v q u = u q ∙ ap (λ b. cond b (Some v) (old q)) (unsigned_tied k q)

differ : (k q : ℕ) → k == q ≡ false → k ≢ q
differ k q t = λ e. let f : k == q ≡ true = (Decides-eqb k q).1 e in cc

-- greater than a number that is new at its node, and so than all before it there
above-all : (past : List Entry) (x n m : ℕ) → All (λ (d : Entry). IsFreshAfter x n d.event) past → n < m → All (λ (d : Entry). IsAbove x m d.event) past
above-all past x n m f l = All-weaker (λ (d : Entry). IsFreshAfter x n d.event) (λ (d : Entry). IsAbove x m d.event) (λ d. one d.event) past f where
  one : (v : Event) → IsFreshAfter x n v → IsAbove x m v
  one (event.Command y k c) h = λ e. let less = h.1 e in omega arith
  one (event.Deliver k) h = tt
  one (event.Noise y) h = tt

-- it has the command with this number at this node, which is new
pub AreNumbersOf-add : (a b : Numbers) (past : List Entry) (e : Entry) (x n : ℕ) (c : NodeCommand) → e.event ≡ event.Command x n c → IsFresh past e.event →
    Updates (get nat_cmp a.used) (get nat_cmp b.used) n x → Updates (get nat_cmp a.greatest) (get nat_cmp b.greatest) x n →
    AreNumbersOf a past → AreNumbersOf b (past ++ e ∷ [])
AreNumbersOf-add a b past e x n c is fresh used greatest h =
    record {
      used = λ q.
          let p : Type 0 = Decides (is_none (get nat_cmp b.used q)) (All (λ (d : Entry). IsUnused q d.event) (past ++ e ∷ [])) in
          let now = ap (is_none {T = ℕ}) (updated (get nat_cmp a.used) (get nat_cmp b.used) n x q used) in
          by_test {P = p} (n == q)
          (λ t. Decides-at (is_none (get nat_cmp b.used q)) false (now ∙ ap (λ s. is_none (cond s (Some x) (get nat_cmp a.used q))) t)
          (Decides-lost (λ (d : Entry). IsUnused q d.event) past e (λ u. (subst (IsUnused q) is u) (sym ((Decides-eqb n q).0 t)))))
          (λ t. Decides-at (is_none (get nat_cmp b.used q)) (is_none (get nat_cmp a.used q))
          (now ∙ ap (λ s. is_none (cond s (Some x) (get nat_cmp a.used q))) t)
          (Decides-kept (λ (d : Entry). IsUnused q d.event) past e (is_none (get nat_cmp a.used q))
          (subst (IsUnused q) (sym is) (λ s. differ n q t (sym s))) (h.used q)));
      greatest = λ y m.
          let p : Type 0 = Decides (is_above m (get nat_cmp b.greatest y)) (All (λ (d : Entry). IsAbove y m d.event) (past ++ e ∷ [])) in
          let now = ap (is_above m) (updated (get nat_cmp a.greatest) (get nat_cmp b.greatest) x n y greatest) in
          by_test {P = p} (x == y)
          (λ t. Decides-at (is_above m (get nat_cmp b.greatest y)) (nat_lt n m) (now ∙ ap (λ s. is_above m (cond s (Some n) (get nat_cmp a.greatest y))) t)
          (here m y ((Decides-eqb x y).0 t)))
          (λ t. Decides-at (is_above m (get nat_cmp b.greatest y)) (is_above m (get nat_cmp a.greatest y))
          (now ∙ ap (λ s. is_above m (cond s (Some n) (get nat_cmp a.greatest y))) t)
          (Decides-kept (λ (d : Entry). IsAbove y m d.event) past e (is_above m (get nat_cmp a.greatest y))
          (subst (IsAbove y m) (sym is) (λ s. absurd (differ x y t (sym s)))) (h.greatest y m)));
    }
  where
    fresh-here : All (λ (d : Entry). IsFreshAfter x n d.event) past
    fresh-here = subst (IsFresh past) is fresh

    here : (m y : ℕ) → x ≡ y → Decides (nat_lt n m) (All (λ (d : Entry). IsAbove y m d.event) (past ++ e ∷ []))
    here m y same = subst (λ z. Decides (nat_lt n m) (All (λ (d : Entry). IsAbove z m d.event) (past ++ e ∷ []))) same
        (Decides-like (nat_lt n m)
        (λ l. All-push (λ (d : Entry). IsAbove x m d.event) past e (above-all past x n m fresh-here l) (subst (IsAbove x m) (sym is) (λ s. l)))
        (λ all. (subst (IsAbove x m) is (All-parts (λ (d : Entry). IsAbove x m d.event) past e all).1) refl)
        (Decides-ltb n m))
