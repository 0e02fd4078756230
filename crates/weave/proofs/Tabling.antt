-- What a table tells of envelopes, and how it grows with them.
use Rattle.std.proofs.Common.{◌≡◌, ◌≢◌, ◌⊎◌, ◌<◌, ◌≤◌, ◌+◌, ◌-◌, ◌∙◌, ℕ, zero, suc, min}
use Rattle.std.proofs.Common.{Option, Some, None, IfSome, List, [], ◌∷◌, ◌++◌, length, map, replicate, drop}
use Rattle.std.proofs.Common.{get_or, slice_get, slice_range, All, option_map, inl, inr, refl, sym, ap, subst, arith}
use Rattle.std.proofs.lemmas.Bool.{cases_lt}
use Rattle.std.proofs.lemmas.List.{get_or_append_left, get_or-append_right, get_or-replicate, get_or_past, get_or-drop}
use Rattle.std.proofs.lemmas.List.{get_or-take, length-append, length-map, length-replicate, map-append}
use Rattle.std.proofs.lemmas.Option.{get_or_from_slice_get, slice_get-map}
use Rattle.overlay_rules.proofs.OneMore.{slice_get-more}
use Rattle.wire_msg.specs.Words.{Envelope}
use Rattle.weave.specs.declared.ahead.Ahead.{Ahead}
use Rattle.weave.specs.declared.ahead.Sight.{Sight}
use Rattle.weave.specs.declared.starts.Starts.{Starts}
use Rattle.weave.specs.Table.{AreSeen, HasNoneBefore, HasNoneSuch, IsTableOf, mark_of}

-- ---- a guess

-- where none with an envelope's stamp and mark stands, it does not stand itself
pub not_before : (vs : List Envelope) (w : Envelope) (g : Option ℕ) → IfSome g (HasNoneSuch vs w.stamp (mark_of w)) → IfSome g (HasNoneBefore vs w)
not_before vs w None h = tt
not_before vs w (Some place) h = λ k lt e. h.none k w lt e refl refl

-- of more envelopes it tells the same
such-more : (vs ws : List Envelope) (stamp mark : ℕ) (g : Option ℕ) → IfSome g (HasNoneSuch vs stamp mark) → IfSome g (HasNoneSuch (vs ++ ws) stamp mark)
such-more vs ws stamp mark None h = tt
such-more vs ws stamp mark (Some place) h =
    let within : place ≤ length vs = h.within in
    record {
      within = let long = length-append vs ws in omega (arith, within, long);
      none = λ k v lt e. h.none k v lt (sym (slice_get-more vs ws k (omega (arith, lt, within))) ∙ e);
    }

pub seen-more : (vs ws : List Envelope) (a : Ahead) → AreSeen vs a → AreSeen (vs ++ ws) a
seen-more vs ws a h k d lt =
    let s : Sight = get_or a.sights k d in such-more vs ws s.stamp s.mark s.guess (h k d lt)

-- nothing is told of it by what guesses nothing
pub unguessed : (vs : List Envelope) (s : Sight) → s.guess ≡ None → IfSome s.guess (HasNoneSuch vs s.stamp s.mark)
unguessed vs s e = subst (λ g. IfSome g (HasNoneSuch vs s.stamp s.mark)) (sym e) tt

pub all_same : (P : Sight → Type 0) (s : Sight) → P s → (n : ℕ) → All P (replicate n s)
all_same P s p n k d lt = subst P (sym (get_or-replicate n k s d (let size = length-replicate n s in omega (arith, lt, size)))) p

-- ---- rows that begin

-- what a row holds, if the last have just begun
row_at : (rows : List ℕ) (more b n : ℕ) →
    ((n < length rows) × (get_or (rows ++ replicate more b) n 0 ≡ get_or rows n 0))
    ⊎ (((length rows ≤ n) × (n < length rows + more) × (get_or (rows ++ replicate more b) n 0 ≡ b))
    ⊎ ((length rows + more ≤ n) × (get_or (rows ++ replicate more b) n 0 ≡ 0)))
row_at rows more b n =
    elim (cases_lt n (length rows)) [
      | inl lt ↦ inl (lt, get_or_append_left rows (replicate more b) 0 n lt)
      | inr ge ↦ elim (cases_lt n (length rows + more)) [
        | inl lt ↦ inr (inl (
          ge,
          lt,
          get_or-append_right rows (replicate more b) (length rows) n 0 refl ge ∙ get_or-replicate more (n - length rows) b 0 (omega (arith, ge, lt)),
        ))
        | inr past ↦ inr (inr (
          past,
          get_or_past (rows ++ replicate more b) n 0
              (let long = length-append rows (replicate more b) in let size = length-replicate more b in omega (arith, past, long, size)),
        ))
      ]
    ]

module _ (s t : Starts) (more b : ℕ) (rows : t.rows.items ≡ s.rows.items ++ replicate more b) (marks : t.marks.items ≡ s.marks.items)
    (last : t.last_row ≡ s.last_row) (low : b ≤ length s.marks.items) (end : length s.rows.items + more ≤ s.last_row + 1) where
  pub table-begun : (vs : List Envelope) → IsTableOf s vs → IsTableOf t vs
  table-begun vs h = record { marks = marks ∙ h.marks; within = within; lower = lower; begun = begun } where
    size : length s.marks.items ≡ length vs
    size = ap length h.marks ∙ length-map vs mark_of

    longer : length s.rows.items ≤ length t.rows.items
    longer = let is = ap length rows in let long = length-append s.rows.items (replicate more b) in omega (arith, is, long)

    at : (n x : ℕ) → get_or (s.rows.items ++ replicate more b) n 0 ≡ x → get_or t.rows.items n 0 ≡ x
    at n x e = ap (λ rs. get_or rs n 0) rows ∙ e

    within : (n : ℕ) → get_or t.rows.items n 0 ≤ length vs
    within n = elim (row_at s.rows.items more b n) [
      | inl (lt, e) ↦ let is = at n (get_or s.rows.items n 0) e in let w = h.within n in omega (arith, is, w)
      | inr (inl (ge, lt, e)) ↦ let is = at n b e in omega (arith, is, low, size)
      | inr (inr (past, e)) ↦ let is = at n 0 e in omega (arith, is)
    ]

    lower : (n k : ℕ) (v : Envelope) → k < get_or t.rows.items n 0 → slice_get vs k ≡ Some v → v.stamp < n
    lower n k v lt e = elim (row_at s.rows.items more b n) [
      | inl (in_rows, f) ↦ let is = at n (get_or s.rows.items n 0) f in h.lower n k v (omega (arith, lt, is)) e
      | inr (inl (ge, upto, f)) ↦ let known = h.begun k v e in omega (arith, known, ge, upto, end)
      | inr (inr (past, f)) ↦ let is = at n 0 f in absurd (omega (arith, lt, is))
    ]

    begun : (k : ℕ) (v : Envelope) → slice_get vs k ≡ Some v → min v.stamp t.last_row < length t.rows.items
    begun k v e =
        let known : min v.stamp s.last_row < length s.rows.items = h.begun k v e in
        subst (λ n. min v.stamp n < length t.rows.items) (sym last) (omega (arith, known, longer))

-- ---- one envelope more

last_or_before : (vs : List Envelope) (v : Envelope) (k : ℕ) (w : Envelope) → slice_get (vs ++ v ∷ []) k ≡ Some w →
    ((k < length vs) × (slice_get vs k ≡ Some w)) ⊎ (v ≡ w)
last_or_before [] v zero w e = inr cc
last_or_before [] v (suc k) w e = cc
last_or_before (x ∷ vs) v zero w e = inl (omega arith, e)
last_or_before (x ∷ vs) v (suc k) w e =
    elim (last_or_before vs v k w e) [ inl (lt, f) ↦ inl (omega (arith, lt), f) | inr same ↦ inr same ]

module _ (s t : Starts) (v : Envelope) (rows : t.rows.items ≡ s.rows.items) (marks : t.marks.items ≡ s.marks.items ++ mark_of v ∷ [])
    (last : t.last_row ≡ s.last_row) (row : min v.stamp s.last_row < length s.rows.items) where
  pub table-push : (vs : List Envelope) → IsTableOf s vs → IsTableOf t (vs ++ v ∷ [])
  table-push vs h = record {
    marks = marks ∙ ap (λ ms. ms ++ mark_of v ∷ []) h.marks ∙ sym (map-append mark_of vs (v ∷ []));
    within = λ n.
        let is = ap (λ rs. get_or rs n 0) rows in
        let w = h.within n in
        let long = length-append vs (v ∷ []) in
        omega (arith, is, w, long);
    lower = λ n k w lt e.
        let is = ap (λ rs. get_or rs n 0) rows in
        let few = h.within n in
        let k_lt : k < length vs = omega (arith, lt, is, few) in
        h.lower n k w (omega (arith, lt, is)) (sym (slice_get-more vs (v ∷ []) k k_lt) ∙ e);
    begun = λ k w e.
        let long = ap length rows in
        elim (last_or_before vs v k w e) [
          | inl (lt, f) ↦ let known = h.begun k w f in subst (λ n. min w.stamp n < length t.rows.items) (sym last) (omega (arith, known, long))
          | inr same ↦ subst (λ u. min u.stamp t.last_row < length t.rows.items) same
              (subst (λ n. min v.stamp n < length t.rows.items) (sym last) (omega (arith, row, long)))
        ];
  }

-- ---- what is found in it

get_or-range : (xs : List ℕ) (from upto k : ℕ) → k < upto - from → get_or (slice_range xs from upto) k 0 ≡ get_or xs (from + k) 0
get_or-range xs from upto k lt = get_or-take (upto - from) (drop from xs) k 0 lt ∙ get_or-drop from xs k 0

module _ (s : Starts) (stamp mark from upto behind : ℕ) (order : from ≤ upto) (end : upto ≤ length s.marks.items) (few : behind ≤ upto - from)
    (before : (k : ℕ) → k < behind → get_or (slice_range s.marks.items from upto) k 0 ≢ mark)
    (vs : List Envelope) (h : IsTableOf s vs) (lower : (k : ℕ) (v : Envelope) → k < from → slice_get vs k ≡ Some v → v.stamp < stamp) where
  pub none_such : HasNoneSuch vs stamp mark (from + behind)
  none_such = record {
    within = let size = ap length h.marks ∙ length-map vs mark_of in omega (arith, size, order, end, few);
    none = λ k v lt e same is. elim (cases_lt k from) [
      | inl low ↦ let less = lower k v low e in omega (arith, less, same)
      | inr ge ↦ before (k - from) (omega (arith, lt, ge)) (there k v lt ge e ∙ is)
    ];
  } where
    there : (k : ℕ) (v : Envelope) → k < from + behind → from ≤ k → slice_get vs k ≡ Some v →
        get_or (slice_range s.marks.items from upto) (k - from) 0 ≡ mark_of v
    there k v lt ge e =
        let at : from + (k - from) ≡ k = omega (arith, ge) in
        get_or-range s.marks.items from upto (k - from) (omega (arith, lt, ge, few))
        ∙ ap (λ n. get_or s.marks.items n 0) at
        ∙ ap (λ ms. get_or ms k 0) h.marks
        ∙ get_or_from_slice_get (map mark_of vs) k (mark_of v) 0 (slice_get-map mark_of vs k ∙ ap (option_map mark_of) e)
