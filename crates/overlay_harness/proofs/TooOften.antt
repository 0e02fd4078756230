-- A message of which nothing is left, and that is delivered once more, came too often.
use Rattle.std.proofs.Common.{◌≡◌, ◌<◌, ◌⊎◌, ◌≢◌, inl, inr, ℕ, suc, ◌+◌, ◌==◌, cond, Some, List, [], ◌∷◌, ◌++◌, All, take, get_or, set, slice_get, length}
use Rattle.std.proofs.Common.{replicate, refl, sym, subst, ap, ◌∙◌, arith}
use Rattle.std.specs.List.{AllZip}
use Rattle.std.proofs.lemmas.Bool.{cases_eq, cond-true, cond-false, ne_eqb}
use Rattle.std.proofs.lemmas.Bool.Decides.{Decides-eqb}
use Rattle.std.proofs.lemmas.List.{get_or-set_same, get_or-set_other, get_or-replicate, length-replicate}
use Rattle.std.proofs.lemmas.List.Sums.{sum_by_push, sum_by_more_le}
use Rattle.std.proofs.lemmas.Option.{get_or_from_slice_get, slice_get_within}
use Rattle.std.proofs.Math.ListN.{length-set}
use Rattle.ring_math.specs.Names.{Id}
use Rattle.wire_msg.specs.Words.{Envelope}
use Rattle.overlay_rules.specs.declared.entry.Event.{Event}
use Rattle.overlay_rules.specs.declared.entry.Event.TheVariants as event
use Rattle.overlay_rules.specs.declared.entry.Entry.{Entry}
use Rattle.overlay_rules.specs.declared.entry.Record.{Record}
use Rattle.overlay_rules.specs.Record.{sent_in}
use Rattle.overlay_rules.proofs.Each.{Each, Each-all}
use Rattle.weave_laws.specs.Cells.{CellInput, Command, Comes, Noise, History}
use Rattle.weave_laws.specs.Woven.{Act, IsEntryOf, IsEventOf, IsWoven}
use Rattle.overlay_harness.specs.Enough.{AreLeftOf, CameTooOften, IsCountedDown, IsOfThese, IsUsedUp, delivers, deliveries_of}

-- 1 for an event that delivers the message, and 0 for any other
abbrev one_for : ℕ → Event → ℕ
one_for m v = cond (delivers m v) 1 0

abbrev weight : ℕ → Entry → ℕ
weight m e = one_for m e.event

-- ---- what is left after one entry more

pub left_at_first : (copies n : ℕ) → AreLeftOf copies [] (replicate n copies)
left_at_first copies n = record { each = λ m lt. left m lt } where
  left : (m : ℕ) → m < length (replicate n copies) → get_or (replicate n copies) m 0 + deliveries_of m [] ≡ copies
  left m lt =
      let long : length (replicate n copies) ≡ n = length-replicate n copies in
      let all : get_or (replicate n copies) m 0 ≡ copies = get_or-replicate n m copies 0 (omega arith) in
      omega arith

one_delivered : (m : ℕ) (es : List Entry) (e : Entry) (v : Event) → e.event ≡ v → deliveries_of m (es ++ e ∷ []) ≡ deliveries_of m es + one_for m v
one_delivered m es e v is = sum_by_push (weight m) es e ∙ ap (λ (w : Event). deliveries_of m es + one_for m w) is

pub left_more : (copies : ℕ) (es : List Entry) (e : Entry) (left new : List ℕ) → AreLeftOf copies es left → IsCountedDown left e.event new →
    AreLeftOf copies (es ++ e ∷ []) new
left_more copies es e left new k h = by e.event refl h where
  same : (v : Event) → e.event ≡ v → ((m : ℕ) → one_for m v ≡ 0) → new ≡ left → AreLeftOf copies (es ++ e ∷ []) new
  same v is none stays = record {
    each = λ m lt.
        let long : length new ≡ length left = ap length stays in
        let here : get_or new m 0 ≡ get_or left m 0 = ap (λ ns. get_or ns m 0) stays in
        let more = one_delivered m es e v is in
        let nothing = none m in
        let before = k.each m (omega arith) in
        omega arith;
  }

  at : (p n m : ℕ) → e.event ≡ event.Deliver p → slice_get left p ≡ Some (suc n) → m < length left → (p ≡ m) ⊎ (p ≢ m) →
      get_or (set left p n) m 0 + deliveries_of m (es ++ e ∷ []) ≡ copies
  at p n m is there lt (inl here) =
      let more = one_delivered m es e (event.Deliver p) is in
      let one : one_for m (event.Deliver p) ≡ 1 = cond-true (p == m) 1 0 ((Decides-eqb p m).1 here) in
      let was : get_or left p 0 ≡ suc n = get_or_from_slice_get left p (suc n) 0 there in
      let old : get_or left m 0 ≡ get_or left p 0 = ap (λ k. get_or left k 0) (sym here) in
      let now : get_or (set left p n) m 0 ≡ n = ap (λ k. get_or (set left p n) k 0) (sym here) ∙ get_or-set_same left p n 0 (omega arith) in
      let before = k.each m lt in
      omega arith
  at p n m is there lt (inr other) =
      let more = one_delivered m es e (event.Deliver p) is in
      let none : one_for m (event.Deliver p) ≡ 0 = cond-false (p == m) 1 0 (ne_eqb p m other) in
      let now : get_or (set left p n) m 0 ≡ get_or left m 0 = get_or-set_other left p m n 0 (λ same. other (sym same)) in
      let before = k.each m lt in
      omega arith

  by : (v : Event) → e.event ≡ v → IsCountedDown left v new → AreLeftOf copies (es ++ e ∷ []) new
  by (event.Command x n c) is stays = same (event.Command x n c) is (λ m. refl) stays
  by (event.Noise x) is stays = same (event.Noise x) is (λ m. refl) stays
  by (event.Deliver p) is less =
      subst (AreLeftOf copies (es ++ e ∷ [])) (sym less.less)
      (record {
        each = λ m lt.
            let long : length (set left p less.n) ≡ length left = length-set left p less.n in
            at p less.n m is less.there (omega arith) (cases_eq p m);
      })

-- ---- nothing is left of it

pub came_too_often : (copies : ℕ) (es : List Entry) (i : ℕ) (e : Entry) (left : List ℕ) → i < length es → e ≡ get_or es i e →
    AreLeftOf copies (take i es) left → IsOfThese (length left) e.event → IsUsedUp left e.event → CameTooOften copies es
came_too_often copies es i e left lt there k these used = by e.event refl these used where
  by : (v : Event) → e.event ≡ v → IsOfThese (length left) v → IsUsedUp left v → CameTooOften copies es
  by (event.Command x n c) is o u = absurd u
  by (event.Noise x) is o u = absurd u
  by (event.Deliver m) is o (inl past) = absurd (omega arith)
  by (event.Deliver m) is o (inr none) = record {
    message = m;
    more = (
        let so_far = k.each m o in
        let one : weight m (get_or es i e) ≡ 1 =
        ap (weight m) (sym there) ∙ ap (one_for m) is ∙ cond-true (m == m) 1 0 ((Decides-eqb m m).1 refl) in
        let all = sum_by_more_le (weight m) es i e lt in
        omega arith
        );
  }

-- ---- a woven record delivers only what was sent

pub woven_of_these : (hs : List History) (r : Record) → IsWoven hs r → All (λ (e : Entry). IsOfThese (length (sent_in r.entries)) e.event) r.entries
woven_of_these hs r w = Each-all (λ (e : Entry). IsOfThese (length sent) e.event) r.entries (each w.acts r.entries w.entries) where
  sent : List Envelope
  sent = sent_in r.entries

  one : (x : Id) (i : CellInput) (v : Event) → IsEventOf sent x i v → IsOfThese (length sent) v
  one x (Command n c) v is = subst (IsOfThese (length sent)) (sym is) tt
  one x (Comes o) v is = subst (IsOfThese (length sent)) (sym is.1) (slice_get_within sent is.0 o is.2.here)
  one x Noise v is = subst (IsOfThese (length sent)) (sym is) tt

  each : (acts : List Act) (es : List Entry) → AllZip (IsEntryOf sent) acts es → Each (λ (e : Entry). IsOfThese (length sent) e.event) es
  each [] [] z = tt
  each [] (e ∷ es) z = absurd z
  each (a ∷ acts) [] z = absurd z
  each (a ∷ acts) (e ∷ es) z = (one a.node a.entry.input e.event z.0.event, each acts es z.1)
