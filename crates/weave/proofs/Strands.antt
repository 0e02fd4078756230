-- Strands as the histories that they are, and what handing out of one leaves as it was.
use Rattle.std.proofs.Common.{◌≡◌, ◌≢◌, ◌<◌, ◌≤◌, ◌+◌, ◌⊎◌, inl, inr, ℕ, zero, suc, List, [], ◌∷◌, map, length, get_or, All, refl, sym, subst, ap, ◌∙◌, arith}
use Rattle.std.proofs.Common.{◌-◌, ◌++◌, length-append, length-set, replicate, reverse}
use Rattle.std.proofs.Math.ListN.{set}
use Rattle.std.specs.List.Sorted.{IsNonDecreasingBy}
use Rattle.std.proofs.lemmas.Bool.{cases_eq, cases_lt}
use Rattle.std.proofs.lemmas.List.{get_or-append-add, get_or-replicate, get_or-reverse, get_or_append_left, get_or_past, length-map, length-replicate}
use Rattle.std.proofs.lemmas.List.{length-reverse, map-append, reverse-append, reverse-reverse}
use Rattle.ring_math.specs.Names.{Id}
use Rattle.overlay_rules.proofs.Each.{Each, Each-all, Each-get_or, Each-map, Each-from_all}
use Rattle.weave_laws.specs.Cells.{CellEntry, History}
use Rattle.weave_laws.specs.Woven.{AreInOrder, ComesBefore}
use Rattle.node_cell.specs.Cell.{Cell}
use Rattle.weave.specs.declared.acts.Act.{Act as CodeAct}
use Rattle.weave.specs.Cells.{AreKept, IsKept, IsLawful, histories, kept_history}
use Rattle.node_cell.specs.declared.entry.CellEntry.{CellEntry as CodeEntry}
use Rattle.node_cell.specs.Entries.{plain_entry, plain_history}
use Rattle.weave.specs.Growing.{KeepsOthers, StillStand}
use Rattle.weave.specs.Placed.{IsWithin, act_at, acts_in, entry_at, history_at, no_entry, placed}
use Rattle.weave.specs.Strands.{left_of}
use Rattle.weave.proofs.Placing.{NodesRise}
use Rattle.weave.proofs.Standing.{never_both}

-- ---- what lawful cells keep

pub all_kept : (cells : List Cell) → All IsLawful cells → AreKept (histories cells)
all_kept cells l =
    Each-all IsKept (histories cells) (Each-map IsKept kept_history cells (each cells (Each-from_all IsLawful cells l))) where
      each : (cs : List Cell) → Each IsLawful cs → Each (λ (c : Cell). IsKept (kept_history c)) cs
      each [] h = tt
      each (c ∷ cs) h = (record { is_founder = c.is_founder; history = h.0.history }, each cs h.1)

module _ {S : Type 0} (history : S → History) where
  pub nodes_rise : (ss : List S) → IsNonDecreasingBy (λ s. (history s).node) ss → NodesRise (map history ss)
  nodes_rise [] r = tt
  nodes_rise (s ∷ ss) r = (
    Each-map (λ (k : History). (history s).node ≤ k.node) history ss
        (Each-from_all (λ t. (history s).node ≤ (history t).node) ss (λ k d lt. r 0 (suc k) d (omega arith) (omega arith))),
    nodes_rise ss (λ i j d le lt. r (suc i) (suc j) d (omega arith) (omega arith)),
  )

  pub at_map : (ss : List S) (n : ℕ) (s : S) → n < length ss → s ≡ get_or ss n s → history_at (map history ss) n ≡ history s
  at_map [] n s lt is = absurd (omega arith)
  at_map (t ∷ ss) zero s lt is = ap history (sym is)
  at_map (t ∷ ss) (suc n) s lt is = at_map ss n s (omega arith) is

  -- ---- one in the place of another

  at_set : (ss : List S) (n : ℕ) (s : S) → n < length ss → history_at (map history (set ss n s)) n ≡ history s
  at_set [] n s lt = absurd (omega arith)
  at_set (t ∷ ss) zero s lt = refl
  at_set (t ∷ ss) (suc n) s lt = at_set ss n s (omega arith)

  beside_set : (ss : List S) (n m : ℕ) (s : S) → n ≢ m → history_at (map history (set ss n s)) m ≡ history_at (map history ss) m
  beside_set [] n m s ne = refl
  beside_set (t ∷ ss) zero zero s ne = absurd (ne refl)
  beside_set (t ∷ ss) zero (suc m) s ne = refl
  beside_set (t ∷ ss) (suc n) zero s ne = refl
  beside_set (t ∷ ss) (suc n) (suc m) s ne = beside_set ss n m s (λ e. ne (ap suc e))

  -- what handing out of one leaves as it was
  pub keeps_others : (ss : List S) (a : CodeAct) (s t : S) → a.history < length ss → s ≡ get_or ss a.history s → (history t).node ≡ (history s).node →
      length (history t).entries ≡ length (history s).entries →
      ((k : ℕ) → k ≢ a.place → entry_at (history t).entries k ≡ entry_at (history s).entries k) →
      KeepsOthers a (map history ss) (map history (set ss a.history t))
  keeps_others ss a s t lt is node long others = record { within = within; same = same } where
    before : List History
    before = map history ss

    after : List History
    after = map history (set ss a.history t)

    as_long : length after ≡ length before
    as_long = length-map (set ss a.history t) history ∙ length-set ss a.history t ∙ sym (length-map ss history)

    here : history_at before a.history ≡ history s
    here = at_map ss a.history s lt is

    there : history_at after a.history ≡ history t
    there = at_set ss a.history t lt

    same_history : (b : CodeAct) → a.history ≢ b.history → history_at after b.history ≡ history_at before b.history
    same_history b ne = beside_set ss a.history b.history t ne

    long_at : (n : ℕ) → length (history_at after n).entries ≡ length (history_at before n).entries
    long_at n =
        elim (cases_eq a.history n) [
          | inl e ↦ subst (λ m. length (history_at after m).entries ≡ length (history_at before m).entries) e
              (ap (λ (h : History). length h.entries) there ∙ long ∙ sym (ap (λ (h : History). length h.entries) here))
          | inr ne ↦ ap (λ (h : History). length h.entries) (beside_set ss a.history n t ne)
        ]

    within : (b : CodeAct) → IsWithin before b → IsWithin after b
    within b w = let same_long = long_at b.history in let l = w.history in let p = w.place in record { history = omega (arith, as_long); place = omega arith }

    same_place : (b : CodeAct) → a.history ≡ b.history → a.place ≢ b.place → act_at after b ≡ act_at before b
    same_place b e ne =
        let other : entry_at (history t).entries b.place ≡ entry_at (history s).entries b.place = others b.place (λ f. ne (sym f)) in
        let now : history_at after b.history ≡ history t = subst (λ n. history_at after n ≡ history t) e there in
        let then : history_at before b.history ≡ history s = subst (λ n. history_at before n ≡ history s) e here in
        ap (λ (h : History). record { node = h.node; entry = entry_at h.entries b.place }) now
        ∙ (λ i. record { node = node i; entry = other i })
        ∙ sym (ap (λ (h : History). record { node = h.node; entry = entry_at h.entries b.place }) then)

    same : (b : CodeAct) → (a.history ≢ b.history) ⊎ (a.place ≢ b.place) → act_at after b ≡ act_at before b
    same b (inl ne) = ap (λ (h : History). record { node = h.node; entry = entry_at h.entries b.place }) (same_history b ne)
    same b (inr ne) =
        elim (cases_eq a.history b.history) [
          | inl e ↦ same_place b e ne
          | inr other ↦ ap (λ (h : History). record { node = h.node; entry = entry_at h.entries b.place }) (same_history b other)
        ]

-- ---- entries in order are apart

apart : (hs : List History) (a b : CodeAct) → ComesBefore (act_at hs a) (act_at hs b) → (a.history ≢ b.history) ⊎ (a.place ≢ b.place)
apart hs a b c =
    elim (cases_eq a.history b.history) [
      | inl e ↦ elim (cases_eq a.place b.place) [
        | inl f ↦
            let one : act_at hs a ≡ act_at hs b = λ i. record { node = (history_at hs (e i)).node; entry = entry_at (history_at hs (e i)).entries (f i) } in
            let itself : ComesBefore (act_at hs b) (act_at hs b) = subst (λ x. ComesBefore x (act_at hs b)) one c in
            absurd (never_both (act_at hs b) (act_at hs b) itself itself)
        | inr ne ↦ inr ne
      ]
      | inr ne ↦ inl ne
    ]

each_before : (hs : List History) (x : CodeAct) (acts : List CodeAct) → Each (ComesBefore (act_at hs x)) (acts_in (map (placed hs) acts)) →
    Each (λ (b : CodeAct). ComesBefore (act_at hs x) (act_at hs b)) acts
each_before hs x [] h = tt
each_before hs x (b ∷ acts) h = (h.0, each_before hs x acts h.1)

pub all_apart : (hs : List History) (acts : List CodeAct) → AreInOrder (acts_in (map (placed hs) acts)) → (i k : ℕ) (d : CodeAct) → i < k → k < length acts →
    ((get_or acts i d).history ≢ (get_or acts k d).history) ⊎ ((get_or acts i d).place ≢ (get_or acts k d).place)
all_apart hs [] o i k d lt within = absurd (omega arith)
all_apart hs (x ∷ acts) o i zero d lt within = absurd (omega arith)
all_apart hs (x ∷ acts) o zero (suc k) d lt within =
    apart hs x (get_or acts k d)
    (Each-get_or (λ (b : CodeAct). ComesBefore (act_at hs x) (act_at hs b)) acts k d
    (each_before hs x acts (Each-from_all (ComesBefore (act_at hs x)) (acts_in (map (placed hs) acts)) o.0)) (omega arith))
all_apart hs (x ∷ acts) o (suc i) (suc k) d lt within = all_apart hs acts o.1 i k d (omega arith) (omega arith)

-- those that are still to come stand as before, when one more was handed out
pub still_stand : (first before after : List History) (acts : List CodeAct) (i : ℕ) (x : CodeAct) → AreInOrder (acts_in (map (placed first) acts)) →
    i < length acts → x ≡ get_or acts i x → KeepsOthers x before after → StillStand first before acts i → StillStand first after acts (i + 1)
still_stand first before after acts i x o lt is keeps still = record {
  within = λ k d le within. keeps.within (get_or acts k d) (still.within k d (omega arith) within);
  same = λ k d le within.
      let other : (x.history ≢ (get_or acts k d).history) ⊎ (x.place ≢ (get_or acts k d).place) =
      subst (λ (y : CodeAct). (y.history ≢ (get_or acts k d).history) ⊎ (y.place ≢ (get_or acts k d).place)) (sym (is ∙ default acts i x d lt))
      (all_apart first acts o i k d (omega arith) within) in
      keeps.same (get_or acts k d) other ∙ still.same k d (omega arith) within;
} where
  default : (ys : List CodeAct) (n : ℕ) (d e : CodeAct) → n < length ys → get_or ys n d ≡ get_or ys n e
  default [] n d e lt = absurd (omega arith)
  default (y ∷ ys) zero d e lt = refl
  default (y ∷ ys) (suc n) d e lt = default ys n d e (omega arith)

-- ---- entries of which the last stand first, and the first are gone

pub length-left_of : (n : ℕ) (es : List CellEntry) → length es ≤ n → length (left_of n es) ≡ n
length-left_of n es le =
    let both = length-append (replicate (n - length es) no_entry) (reverse es) in
    let gone = length-replicate (n - length es) no_entry in
    let left = length-reverse es in
    omega arith

-- an entry stands as far from the end of these as its place is from the front
pub at_left_of : (n : ℕ) (es : List CellEntry) (place index : ℕ) → length es ≤ n → index + place + 1 ≡ n → entry_at (left_of n es) place ≡ entry_at es index
at_left_of n es place index le is =
    elim (cases_lt place (n - length es)) [
      | inl lt ↦
          get_or_append_left (replicate (n - length es) no_entry) (reverse es) no_entry place
          (let gone = length-replicate (n - length es) no_entry in omega arith)
          ∙ get_or-replicate (n - length es) place no_entry no_entry lt
          ∙ sym (get_or_past es index no_entry (omega arith))
      | inr ge ↦
          let gone = length-replicate (n - length es) no_entry in
          let behind : n - length es + (place - (n - length es)) ≡ place = omega arith in
          let mirrored : length es - 1 - (place - (n - length es)) ≡ index = omega arith in
          ap (entry_at (left_of n es)) (sym behind)
          ∙ ap (λ m. entry_at (left_of n es) (m + (place - (n - length es)))) (sym gone)
          ∙ get_or-append-add (replicate (n - length es) no_entry) (reverse es) (place - (n - length es)) no_entry
          ∙ get_or-reverse es (place - (n - length es)) no_entry (omega arith)
          ∙ ap (entry_at es) mirrored
    ]

-- the same of a history that is seen so
pub entry_left : (n : ℕ) (es : List CellEntry) (x : Id) (h : History) (place index : ℕ) → length es ≤ n → record { node = x; entries = left_of n es } ≡ h →
    index + place + 1 ≡ length h.entries → (index + place + 1 ≡ n) × (entry_at es index ≡ entry_at h.entries place)
entry_left n es x h place index le seen is =
    let long = length-left_of n es le in
    let same = ap (λ (k : History). length k.entries) seen in
    let stands : index + place + 1 ≡ n = omega arith in
    (stands, sym (at_left_of n es place index le stands) ∙ ap (λ (k : History). entry_at k.entries place) seen)

-- and past them all is nothing
pub past_left_of : (n : ℕ) (es : List CellEntry) (place : ℕ) → length es ≤ n → n ≤ place → entry_at (left_of n es) place ≡ no_entry
past_left_of n es place le past = let long = length-left_of n es le in get_or_past (left_of n es) place no_entry (omega arith)

map_reverse : (es : List CodeEntry) → plain_history (reverse es) ≡ reverse (plain_history es)
map_reverse [] = refl
map_reverse (e ∷ es) =
    ap plain_history (reverse-append (e ∷ []) es)
    ∙ map-append plain_entry (reverse es) (e ∷ [])
    ∙ ap (λ (ds : List CellEntry). ds ++ plain_entry e ∷ []) (map_reverse es)
    ∙ sym (reverse-append (plain_entry e ∷ []) (plain_history es))

-- all are left, if all stand there
pub all_left : (es : List CodeEntry) → left_of (length (reverse es)) (plain_history (reverse es)) ≡ plain_history es
all_left es =
    let long : length (reverse es) - length (plain_history (reverse es)) ≡ 0 = let same = length-map (reverse es) plain_entry in omega arith in
    ap (λ n. replicate n no_entry ++ reverse (plain_history (reverse es))) long
    ∙ ap reverse (map_reverse es)
    ∙ reverse-reverse (plain_history es)

-- what is as before but for one of these is so as they are seen
pub others_left : (n : ℕ) (before after : List CellEntry) (place index : ℕ) → length before ≤ n → length after ≤ n → index + place + 1 ≡ n →
    ((k : ℕ) → k ≢ index → entry_at after k ≡ entry_at before k) → (k : ℕ) → k ≢ place → entry_at (left_of n after) k ≡ entry_at (left_of n before) k
others_left n before after place index l m is others k ne =
    elim (cases_lt k n) [
      | inl lt ↦
          let mirrored : (n - 1 - k) + k + 1 ≡ n = omega arith in
          at_left_of n after k (n - 1 - k) m mirrored
          ∙ others (n - 1 - k) (λ same. ne (let index_is : n - 1 - k ≡ index = same in omega arith))
          ∙ sym (at_left_of n before k (n - 1 - k) l mirrored)
      | inr past ↦ past_left_of n after k m past ∙ sym (past_left_of n before k l past)
    ]
