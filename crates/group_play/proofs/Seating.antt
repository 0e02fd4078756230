-- Seats: how one is found, how one more is taken, and how the part at one changes.
use Rattle.std.proofs.Common.{◌≡◌, ◌<◌, ◌≤◌, ◌+◌, inl, inr, ℕ, Option, Some, None, List, [], ◌∷◌, ◌++◌, length, get_or}
use Rattle.std.proofs.Common.{slice_index_or, get_or-set_same, get_or-set_other, refl, sym, ap, subst, ◌∙◌, arith}
use Rattle.std.specs.Prelude.{◌≢◌, ◌==◌, ◌&&◌, cond, nat_eq}
use Rattle.std.specs.HashMap.{HashMap, get}
use Rattle.std.specs.Str.{bytes_eq}
use Rattle.std.proofs.Math.ListN.{set}
use Rattle.std.proofs.lemmas.Bool.{and_parts, cases_eq, cases_lt, cond_both, true≢false}
use Rattle.std.proofs.lemmas.Bool.Decides.{Decides-eqb}
use Rattle.std.proofs.lemmas.List.{get_or_append_left, get_or_push, length_push}
use Rattle.std.proofs.lemmas.Slice.Eq.{bytes_eq-Decides}
use Rattle.ring_math.specs.Keys.{id_of}
use Rattle.ring_math.specs.Names.{Id}
use Rattle.ring_math.specs.Ring.{cw_of}
use Rattle.scribe_core.specs.Parts.{GroupName, Part, no_part}
use Rattle.scribe_core.specs.Record.{part_at}
use Rattle.scribe_core.proofs.Holding.{part_at-itself}
use Rattle.group_play.specs.declared.part.Part.{Part as KeptPart}
use Rattle.group_play.specs.declared.seats.Seat.{Seat}
use Rattle.group_play.specs.declared.seats.Seats.{Seats}
use Rattle.group_play.specs.Seats.{AreLinked, AreSeats, IsLastOf, IsPlaceOf, IsSeatOf, NoneFrom, ShowParts, slot_of}
use Rattle.group_play.specs.Shown.{Stands}

-- ---- finding

-- what a seat is looked up by
its_slot : (s : Seat) (x : Id) (name : GroupName) → IsSeatOf s x name → slot_of s ≡ cw_of x (id_of name)
its_slot s x name is = ap (λ (other : GroupName). cw_of s.node (id_of other)) is.1 ∙ ap (λ (y : ℕ). cw_of y (id_of name)) is.0

-- no seat behind this one is the node's in the group, and this one is looked up as that would be
abbrev pub NoneBehind : List Seat → Option ℕ → Id → GroupName → Type 0
NoneBehind seats None x name = NoneFrom seats 0 x name
NoneBehind seats (Some k) x name =
    (k < length seats) × ((d : Seat) → slot_of (slice_index_or seats k d) ≡ cw_of x (id_of name)) × NoneFrom seats (k + 1) x name

abbrev pub places_left : Option ℕ → ℕ
places_left None = 0
places_left (Some k) = k + 1

pub none_behind : (seats : List Seat) (n : ℕ) (o : Option ℕ) (x : Id) (name : GroupName) → n ≤ length seats →
    IsLastOf seats n (cw_of x (id_of name)) o → NoneFrom seats n x name → NoneBehind seats o x name
none_behind seats n None x name le last none = λ j d lo l is. elim (cases_lt j n) [
  | inl lt ↦ last j d lt (its_slot (get_or seats j d) x name is)
  | inr ge ↦ none j d ge l is
]
none_behind seats n (Some k) x name le last none = (
  (let lt = last.0 in omega arith),
  last.1,
  λ j d lo l is. elim (cases_lt j n) [
    | inl lt ↦ last.2 j d (omega arith) lt (its_slot (get_or seats j d) x name is)
    | inr ge ↦ none j d ge l is
  ],
)

-- ---- taking

-- the last of a number among the first of these, where one seat more stands behind all
last_within : (seats : List Seat) (s : Seat) (n slot : ℕ) (o : Option ℕ) → n ≤ length seats → IsLastOf seats n slot o → IsLastOf (seats ++ s ∷ []) n slot o
last_within seats s n slot None le h = λ j d lt e. h j d lt (sym (ap slot_of (get_or_append_left seats (s ∷ []) d j (omega arith))) ∙ e)
last_within seats s n slot (Some k) le h = (
  h.0,
  (λ d. ap slot_of (get_or_append_left seats (s ∷ []) d k (let lt = h.0 in omega arith)) ∙ h.1 d),
  λ j d lo lt e. h.2 j d lo lt (sym (ap slot_of (get_or_append_left seats (s ∷ []) d j (omega arith))) ∙ e),
)

-- the last of a number stays the last, where a seat of another is behind it
last_beyond : (seats : List Seat) (s : Seat) (slot : ℕ) (o : Option ℕ) → IsLastOf seats (length seats) slot o → slot_of s ≢ slot →
    IsLastOf (seats ++ s ∷ []) (length seats + 1) slot o
last_beyond seats s slot None h other = λ j d lt e. elim (cases_lt j (length seats)) [
  | inl l ↦ h j d l (sym (ap slot_of (get_or_append_left seats (s ∷ []) d j l)) ∙ e)
  | inr ge ↦ other (sym (ap slot_of (get_or_push seats s d j (omega arith))) ∙ e)
]
last_beyond seats s slot (Some k) h other = (
  (let lt = h.0 in omega arith),
  (λ d. ap slot_of (get_or_append_left seats (s ∷ []) d k h.0) ∙ h.1 d),
  λ j d lo lt e. elim (cases_lt j (length seats)) [
    | inl l ↦ h.2 j d lo l (sym (ap slot_of (get_or_append_left seats (s ∷ []) d j l)) ∙ e)
    | inr ge ↦ other (sym (ap slot_of (get_or_push seats s d j (omega arith))) ∙ e)
  ],
)

-- the last of a number, where one seat more is behind all
last_more : (seats : List Seat) (s : Seat) (slot : ℕ) (o p : Option ℕ) → IsLastOf seats (length seats) slot o →
    p ≡ cond (nat_eq (slot_of s) slot) (Some (length seats)) o → IsLastOf (seats ++ s ∷ []) (length seats + 1) slot p
last_more seats s slot o p h is =
    let last : Option ℕ → Type 0 = IsLastOf (seats ++ s ∷ []) (length seats + 1) slot in
    subst last (sym is)
    (cond_both (nat_eq (slot_of s) slot) (Some (length seats)) o last
    (λ e. (
      omega arith,
      (λ d. ap slot_of (get_or_push seats s d (length seats) refl) ∙ (Decides-eqb (slot_of s) slot).0 e),
      λ j d lo lt no. absurd (omega arith),
    ))
    (λ e. last_beyond seats s slot o h (λ same. true≢false (sym ((Decides-eqb (slot_of s) slot).1 same) ∙ e))))

-- seats stay linked with one more, which knows the last one before it of its number, and is now the last of it
pub linked_more : {S : Type 0} (seats : List Seat) (s : Seat) (before after : HashMap ℕ ℕ S) → AreLinked seats before →
    s.before ≡ get nat_eq before (slot_of s) →
    ((slot : ℕ) → get nat_eq after slot ≡ cond (nat_eq (slot_of s) slot) (Some (length seats)) (get nat_eq before slot)) → AreLinked (seats ++ s ∷ []) after
linked_more seats s before after h own updates = record {
  last = λ slot.
      subst (λ (n : ℕ). IsLastOf (seats ++ s ∷ []) n slot (get nat_eq after slot)) (sym (length_push seats s))
      (last_more seats s slot (get nat_eq before slot) (get nat_eq after slot) (h.last slot) (updates slot));
  before = λ k d l. elim (cases_lt k (length seats)) [
    | inl lt ↦
        subst (λ (t : Seat). IsLastOf (seats ++ s ∷ []) k (slot_of t) t.before) (sym (get_or_append_left seats (s ∷ []) d k lt))
        (last_within seats s k _ _ (omega arith) (h.before k d lt))
    | inr ge ↦
        let last : length seats ≡ k = let long = length_push seats s in omega arith in
        subst (λ (t : Seat). IsLastOf (seats ++ s ∷ []) k (slot_of t) t.before) (sym (get_or_push seats s d k last))
        (subst (λ (n : ℕ). IsLastOf (seats ++ s ∷ []) n (slot_of s) s.before) last
        (last_within seats s (length seats) (slot_of s) s.before (omega arith)
        (subst (IsLastOf seats (length seats) (slot_of s)) (sym own) (h.last (slot_of s)))))
  ];
}

-- one seat more shows no part yet
pub shown_more : (a b : Seats) (s : Seat) (p : KeptPart) (parts : Id → GroupName → Part) → ShowParts a parts → length a.parts.items ≡ length a.items.items →
    NoneFrom a.items.items 0 s.node s.group → Stands p no_part → b.items.items ≡ a.items.items ++ s ∷ [] → b.parts.items ≡ a.parts.items ++ p ∷ [] →
    ShowParts b parts
shown_more a b s p parts h count none new seats kept = record {
  each = λ k d e l.
      let long = ap (λ (xs : List Seat). length xs) seats ∙ length_push a.items.items s in
      elim (cases_lt k (length a.items.items)) [
        | inl lt ↦
            let seat : get_or a.items.items k d ≡ get_or b.items.items k d =
            sym (ap (λ (xs : List Seat). get_or xs k d) seats ∙ get_or_append_left a.items.items (s ∷ []) d k lt) in
            let part : get_or a.parts.items k e ≡ get_or b.parts.items k e =
            sym (ap (λ (xs : List KeptPart). get_or xs k e) kept ∙ get_or_append_left a.parts.items (p ∷ []) e k (omega arith)) in
            subst (λ (q : KeptPart). Stands q (parts (get_or b.items.items k d).node (get_or b.items.items k d).group)) part
            (subst (λ (t : Seat). Stands (get_or a.parts.items k e) (parts t.node t.group)) seat (h.each k d e lt))
        | inr ge ↦
            let last : length a.items.items ≡ k = omega arith in
            let seat : s ≡ get_or b.items.items k d = sym (ap (λ (xs : List Seat). get_or xs k d) seats ∙ get_or_push a.items.items s d k last) in
            let part : p ≡ get_or b.parts.items k e =
            sym (ap (λ (xs : List KeptPart). get_or xs k e) kept ∙ get_or_push a.parts.items p e k (count ∙ last)) in
            subst (λ (q : KeptPart). Stands q (parts (get_or b.items.items k d).node (get_or b.items.items k d).group)) part
            (subst (λ (t : Seat). Stands p (parts t.node t.group)) seat (subst (Stands p) (sym (h.others s.node s.group none)) new))
      ];
  others = λ x name away. h.others x name (λ j d lo l is.
      let long = ap (λ (xs : List Seat). length xs) seats ∙ length_push a.items.items s in
      away j d lo (omega arith)
      (subst (λ (t : Seat). IsSeatOf t x name) (sym (ap (λ (xs : List Seat). get_or xs j d) seats ∙ get_or_append_left a.items.items (s ∷ []) d j l)) is));
}

-- ---- changing

part_at-other : (parts : Id → GroupName → Part) (x : Id) (name : GroupName) (p : Part) (y : Id) (other : GroupName) → (y ≡ x → other ≡ name → ⊥) →
    part_at parts x name p y other ≡ parts y other
part_at-other parts x name p y other ne =
    cond_both ((y == x) && bytes_eq other name) p (parts y other) (λ q. q ≡ parts y other)
    (λ e. let both = and_parts (y == x) (bytes_eq other name) e in
    absurd (ne ((Decides-eqb y x).0 both.0) ((bytes_eq-Decides other name).0 both.1)))
    (λ _. refl)

-- the part at a node's seat in a group changes
pub shown_set : (a b : Seats) (x : Id) (name : GroupName) (place : ℕ) (p : KeptPart) (parts : Id → GroupName → Part) (q : Part) → ShowParts a parts →
    AreSeats a → IsPlaceOf a x name place → Stands p q → b.items.items ≡ a.items.items → b.parts.items ≡ set a.parts.items place p →
    ShowParts b (part_at parts x name q)
shown_set a b x name place p parts q h seats at new same kept = record {
  each = λ k d e l.
      let count = seats.count in
      let within = at.within in
      let long = ap (λ (xs : List Seat). length xs) same in
      let seat : get_or a.items.items k d ≡ get_or b.items.items k d = sym (ap (λ (xs : List Seat). get_or xs k d) same) in
      subst (λ (t : Seat). Stands (get_or b.parts.items k e) (part_at parts x name q t.node t.group)) seat
      (subst (λ (r : KeptPart). Stands r (part_at parts x name q (get_or a.items.items k d).node (get_or a.items.items k d).group))
      (sym (ap (λ (xs : List KeptPart). get_or xs k e) kept)) (elim (cases_eq k place) [
        | inl here ↦
            let is : IsSeatOf (get_or a.items.items k d) x name =
            subst (λ (j : ℕ). IsSeatOf (get_or a.items.items j d) x name) (sym here) (at.is d) in
            let part : p ≡ get_or (set a.parts.items place p) k e =
            sym (ap (λ (j : ℕ). get_or (set a.parts.items place p) j e) here ∙ get_or-set_same a.parts.items place p e (omega arith)) in
            subst (λ (r : KeptPart). Stands r (part_at parts x name q (get_or a.items.items k d).node (get_or a.items.items k d).group)) part
            (subst (λ (y : ℕ). Stands p (part_at parts x name q y (get_or a.items.items k d).group)) (sym is.0)
            (subst (λ (other : List ℕ). Stands p (part_at parts x name q x other)) (sym is.1)
            (subst (Stands p) (sym (part_at-itself parts x name q)) new)))
        | inr there ↦
            let part : get_or a.parts.items k e ≡ get_or (set a.parts.items place p) k e = sym (get_or-set_other a.parts.items place k p e there) in
            subst (λ (r : KeptPart). Stands r (part_at parts x name q (get_or a.items.items k d).node (get_or a.items.items k d).group)) part
            (subst (Stands (get_or a.parts.items k e))
            (sym (part_at-other parts x name q (get_or a.items.items k d).node (get_or a.items.items k d).group (λ node group.
            there (seats.single.each k place d (omega arith) within (node ∙ sym (at.is d).0, group ∙ sym (at.is d).1)))))
            (h.each k d e (omega arith)))
      ]));
  others = λ y other away.
      let none : NoneFrom a.items.items 0 y other = subst (λ (xs : List Seat). NoneFrom xs 0 y other) same away in
      let d : Seat = record { node = 0; group = []; before = None } in
      part_at-other parts x name q y other (λ node group. none place d (omega arith) at.within ((at.is d).0 ∙ sym node, (at.is d).1 ∙ sym group))
      ∙ h.others y other none;
}

-- the part at a node's seat stands for its part in the group
pub stands_at : (a : Seats) (x : Id) (name : GroupName) (place : ℕ) (p : KeptPart) (parts : Id → GroupName → Part) → ShowParts a parts →
    IsPlaceOf a x name place → p ≡ get_or a.parts.items place p → Stands p (parts x name)
stands_at a x name place p parts h at is =
    let d : Seat = record { node = 0; group = []; before = None } in
    subst (λ (q : KeptPart). Stands q (parts x name)) (sym is)
    (subst (λ (y : ℕ). Stands (get_or a.parts.items place p) (parts y name)) (at.is d).0
    (subst (λ (other : List ℕ). Stands (get_or a.parts.items place p) (parts (get_or a.items.items place d).node other)) (at.is d).1
    (h.each place d p at.within)))
