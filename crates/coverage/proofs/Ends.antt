-- Coverage and gap by the ends of a node's two arcs, one form for both sides.
-- A node covers what the arcs up to its ends have; standing alone is no case of its own.
use Rattle.std.proofs.Common.{◌≡◌, ℕ, Bool, true, false, ◌&&◌, not, ◌^◌, ◌<◌, ◌≤◌, ◌⊎◌, ◌≢◌, Option, Some, None, refl, sym, ◌∙◌, ap, subst, arith, inl, inr}
use Rattle.std.proofs.lemmas.Bool.{cases_Bool, cases_eq, cond-true, cond-false}
use Rattle.std.proofs.lemmas.Bool.Decides.{nat_tests}
use Rattle.std.proofs.lemmas.Option.{same_Some}
use Rattle.coverage.specs.declared.Reach.{Reach}
use Rattle.coverage.specs.Coverage.{in_arcs, covers_of, gap_of, gap_for, or_else, in_gap_of, taken_of, without, is_alone, left_end, right_end}
use Rattle.coverage.specs.Coverage.{left_with, right_with}
use Rattle.coverage.specs.Links.{stands}
use Rattle.coverage.proofs.Ways.{way, before_from_stands}
use Rattle.coverage.proofs.Arcs.{InHalf, arcs_true, arcs_itself, arcs_by_right, arcs_by_left, arcs_or_nearer, half_longer}

-- ---- the parts of a reach on a side

abbrev pub link_on : Bool → Reach → ℕ
link_on true r = r.right
link_on false r = r.left

abbrev pub joiner_on : Bool → Reach → Option ℕ
joiner_on true r = r.right_joiner
joiner_on false r = r.left_joiner

abbrev pub end_on : Bool → Reach → ℕ
end_on true r = right_end r
end_on false r = left_end r

-- its node and links are identifiers
pub record IsReach (r : Reach) : Type 0 where
  pub me : r.me < 2 ^ 128
  pub link : (right : Bool) → link_on right r < 2 ^ 128
  pub joiner : (right : Bool) (j : ℕ) → joiner_on right r ≡ Some j → j < 2 ^ 128

pub cases_Option : (o : Option ℕ) → (o ≡ None) ⊎ ((j : ℕ) × (o ≡ Some j))
cases_Option None = inl refl
cases_Option (Some j) = inr (j, refl)

pub cases_joiner : (o : Option ℕ) (j : ℕ) → (o ≡ Some j) ⊎ (o ≡ Some j → ⊥)
cases_joiner None j = inr (λ e. cc)
cases_joiner (Some i) j = elim (cases_eq i j) [ inl e ↦ inl (ap Some e) | inr ne ↦ inr (λ e. ne (same_Some i j e)) ]

-- ---- where the arcs end

pub end_on-free : (right : Bool) (r : Reach) → joiner_on right r ≡ None → end_on right r ≡ link_on right r
end_on-free true r e = grind (arith, e)
end_on-free false r e = grind (arith, e)

pub end_on-joiner : (right : Bool) (r : Reach) (j : ℕ) → joiner_on right r ≡ Some j → stands right r.me j (link_on right r) ≡ true →
    end_on right r ≡ j
end_on-joiner true r j e b = grind (arith, nat_tests, e, b)
end_on-joiner false r j e b = grind (arith, nat_tests, e, b)

pub end_on-beside : (right : Bool) (r : Reach) (j : ℕ) → joiner_on right r ≡ Some j → stands right r.me j (link_on right r) ≡ false →
    end_on right r ≡ link_on right r
end_on-beside true r j e b = grind (arith, nat_tests, e, b)
end_on-beside false r j e b = grind (arith, nat_tests, e, b)

-- without the side's joiner the arc ends at the link
pub end_on-without : (right : Bool) (r : Reach) (j : ℕ) → joiner_on right r ≡ Some j → end_on right (without r j) ≡ link_on right r
end_on-without true r j e = grind (arith, nat_tests, e)
end_on-without false r j e = grind (arith, nat_tests, e)

-- it rests on the node, its link and its joiner on that side
pub end_on-same : (right : Bool) (r q : Reach) → r.me ≡ q.me → link_on right r ≡ link_on right q → joiner_on right r ≡ joiner_on right q →
    end_on right r ≡ end_on right q
end_on-same true r q me link joiner = ap (λ m. right_with m r.right r.right_joiner) me ∙ ap (λ l. right_with q.me l r.right_joiner) link
    ∙ ap (right_with q.me q.right) joiner
end_on-same false r q me link joiner = ap (λ m. left_with m r.left r.left_joiner) me ∙ ap (λ l. left_with q.me l r.left_joiner) link
    ∙ ap (left_with q.me q.left) joiner

taken_of-other : (o : Option ℕ) (j : ℕ) → (o ≡ Some j → ⊥) → taken_of o j ≡ o
taken_of-other None j ne = refl
taken_of-other (Some i) j ne = grind (arith, nat_tests, ne, cases_eq i j)

pub joiner_on-other : (right : Bool) (r : Reach) (i j : ℕ) → joiner_on right r ≡ Some i → i ≢ j → joiner_on right (without r j) ≡ Some i
joiner_on-other true r i j e ne = taken_of-other r.right_joiner j (λ f. ne (same_Some i j (sym e ∙ f))) ∙ e
joiner_on-other false r i j e ne = taken_of-other r.left_joiner j (λ f. ne (same_Some i j (sym e ∙ f))) ∙ e

-- and without a joiner of the other side alone it ends where it did
pub end_on-other : (right : Bool) (r : Reach) (j : ℕ) → (joiner_on right r ≡ Some j → ⊥) → end_on right (without r j) ≡ end_on right r
end_on-other true r j ne = ap (right_with r.me r.right) (taken_of-other r.right_joiner j ne)
end_on-other false r j ne = ap (left_with r.me r.left) (taken_of-other r.left_joiner j ne)

-- the end is the link or the joiner, and no farther than the link
pub end_on-bound : (right : Bool) (r : Reach) → IsReach r → end_on right r < 2 ^ 128
end_on-bound right r range =
    elim (cases_Option (joiner_on right r)) [
      | inl e ↦ rw (end_on-free right r e) (range.link right)
      | inr (j, e) ↦ elim (cases_Bool (stands right r.me j (link_on right r))) [
        | inl b ↦ rw (end_on-joiner right r j e b) (range.joiner right j e)
        | inr b ↦ rw (end_on-beside right r j e b) (range.link right)
      ]
    ]

pub end_on-le : (right : Bool) (r : Reach) → IsReach r → way right r.me (end_on right r) ≤ way right r.me (link_on right r)
end_on-le right r range =
    elim (cases_Option (joiner_on right r)) [
      | inl e ↦ rw (end_on-free right r e) (omega arith)
      | inr (j, e) ↦ elim (cases_Bool (stands right r.me j (link_on right r))) [
        | inl b ↦
            let lt = before_from_stands right r.me j (link_on right r) range.me (range.joiner right j e) (range.link right) b in
            rw (end_on-joiner right r j e b) (omega arith)
        | inr b ↦ rw (end_on-beside right r j e b) (omega arith)
      ]
    ]

-- ---- coverage

pub covers_by_arcs : (r : Reach) (key : ℕ) → in_arcs r.me (left_end r) (right_end r) key ≡ true → covers_of r key ≡ true
covers_by_arcs r key h = grind (arith, nat_tests, h)

pub covers_itself : (r : Reach) → covers_of r r.me ≡ true
covers_itself r = covers_by_arcs r r.me (arcs_itself r.me (left_end r) (right_end r))

arcs_of_one : (x key : ℕ) → x < 2 ^ 128 → key < 2 ^ 128 → in_arcs x x x key ≡ true
arcs_of_one x key hx hk = grind (arith, cases_Bool (in_arcs x x x key), arcs_or_nearer x x x key hx hx hx hk)

alone_ends : (r : Reach) → is_alone r ≡ true → (left_end r ≡ r.me) × (right_end r ≡ r.me)
alone_ends r h = grind (arith, nat_tests)

-- alone a node has every key in its arcs
pub covers-arcs : (r : Reach) (key : ℕ) → r.me < 2 ^ 128 → key < 2 ^ 128 → covers_of r key ≡ in_arcs r.me (left_end r) (right_end r) key
covers-arcs r key hx hk =
    elim (cases_Bool (is_alone r)) [
      | inl yes' ↦ grind (arith, nat_tests, arcs_of_one r.me key hx hk, alone_ends r yes')
      | inr no' ↦ grind (arith, nat_tests, no')
    ]

arcs-same : (x y l m r s key : ℕ) → x ≡ y → l ≡ m → r ≡ s → in_arcs x l r key ≡ in_arcs y m s key
arcs-same x y l m r s key e f g = rw (e, f, g) refl

-- so it rests on the ends alone: it stays where a joiner before the link becomes the link
pub covers-ends : (r q : Reach) (key : ℕ) → r.me < 2 ^ 128 → key < 2 ^ 128 → r.me ≡ q.me → ((right : Bool) → end_on right r ≡ end_on right q) →
    covers_of r key ≡ covers_of q key
covers-ends r q key hx hk me ends =
    let hq : q.me < 2 ^ 128 = rw (← me) hx in
    let left : left_end r ≡ left_end q = ends false in
    let right : right_end r ≡ right_end q = ends true in
    covers-arcs r key hx hk ∙ arcs-same r.me q.me (left_end r) (left_end q) (right_end r) (right_end q) key me left right ∙ sym (covers-arcs q key hq hk)

-- what half of an arc has is covered
pub covers_by_half : (right : Bool) (r : Reach) (key : ℕ) → r.me < 2 ^ 128 → end_on right r < 2 ^ 128 → key < 2 ^ 128 →
    InHalf right r.me (end_on right r) key → covers_of r key ≡ true
covers_by_half true r key hx he hk h = covers_by_arcs r key (arcs_by_right r.me (left_end r) (right_end r) key hx he hk h.before h.near)
covers_by_half false r key hx he hk h = covers_by_arcs r key (arcs_by_left r.me (left_end r) (right_end r) key hx he hk h.before h.near)

-- and what is covered is the node, or in half of an arc
pub data WhereCovered (r : Reach) (key : ℕ) : Type 0 where
  itself : key ≡ r.me → WhereCovered r key
  half : (right : Bool) → InHalf right r.me (end_on right r) key → WhereCovered r key

pub where_covered : (r : Reach) (key : ℕ) → IsReach r → key < 2 ^ 128 → covers_of r key ≡ true → WhereCovered r key
where_covered r key range hk h =
    elim (arcs_true r.me (left_end r) (right_end r) key range.me (end_on-bound false r range) (end_on-bound true r range) hk
    (sym (covers-arcs r key range.me hk) ∙ h)) [
      | inl e ↦ itself e
      | inr (inl p) ↦ half true (record { before = p.0; near = p.1 })
      | inr (inr p) ↦ half false (record { before = p.0; near = p.1 })
    ]

-- ---- the gap of a joiner

or_else-some : (a b : Option ℕ) (j : ℕ) → or_else a b ≡ Some j → (a ≡ Some j) ⊎ (b ≡ Some j)
or_else-some None b j e = inr e
or_else-some (Some x) b j e = inl e

or_else-none : (a b : Option ℕ) → or_else a b ≡ None → (a ≡ None) × (b ≡ None)
or_else-none None b e = (refl, e)
or_else-none (Some x) b e = cc

gap_for-some : (r : Reach) (key : ℕ) (o : Option ℕ) (j : ℕ) → gap_for r key o ≡ Some j → (o ≡ Some j) × (in_gap_of r j key ≡ true)
gap_for-some r key None j e = cc
gap_for-some r key (Some i) j e =
    elim (cases_Bool (in_gap_of r i key)) [
      | inl a ↦
          let given : gap_for r key (Some i) ≡ Some i = cond-true (in_gap_of r i key) (Some i) None a in
          let same : i ≡ j = cc in
          (ap Some same, rw same at a)
      | inr b ↦ let none : gap_for r key (Some i) ≡ None = cond-false (in_gap_of r i key) (Some i) None b in cc
    ]

gap_for-none : (r : Reach) (key j : ℕ) → gap_for r key (Some j) ≡ None → in_gap_of r j key ≡ false
gap_for-none r key j e =
    elim (cases_Bool (in_gap_of r j key)) [
      | inl a ↦ let given : gap_for r key (Some j) ≡ Some j = cond-true (in_gap_of r j key) (Some j) None a in cc
      | inr b ↦ b
    ]

-- what `gap_of` answers is the joiner of a side, with the key in its gap
pub gap_of-some : (r : Reach) (key j : ℕ) → gap_of r key ≡ Some j → ((right : Bool) × (joiner_on right r ≡ Some j)) × (in_gap_of r j key ≡ true)
gap_of-some r key j e =
    elim (or_else-some (gap_for r key r.right_joiner) (gap_for r key r.left_joiner) j e) [
      | inl f ↦ let g = gap_for-some r key r.right_joiner j f in ((true, g.0), g.1)
      | inr f ↦ let g = gap_for-some r key r.left_joiner j f in ((false, g.0), g.1)
    ]

-- where it answers none the key is in the gap of no joiner
pub gap_of-none : (right : Bool) (r : Reach) (key j : ℕ) → gap_of r key ≡ None → joiner_on right r ≡ Some j → in_gap_of r j key ≡ false
gap_of-none true r key j e f = let none = or_else-none (gap_for r key r.right_joiner) (gap_for r key r.left_joiner) e in
    gap_for-none r key j (ap (gap_for r key) (sym f) ∙ none.0)
gap_of-none false r key j e f = let none = or_else-none (gap_for r key r.right_joiner) (gap_for r key r.left_joiner) e in
    gap_for-none r key j (ap (gap_for r key) (sym f) ∙ none.1)

-- a gap is what its joiner takes away
pub in_gap-parts : (r : Reach) (j key : ℕ) → in_gap_of r j key ≡ true → (covers_of (without r j) key ≡ true) × (covers_of r key ≡ false)
in_gap-parts r j key h = grind (arith, nat_tests, h, cases_Bool (covers_of (without r j) key), cases_Bool (covers_of r key))

pub in_gap_by : (r : Reach) (j key : ℕ) → covers_of (without r j) key ≡ true → covers_of r key ≡ false → in_gap_of r j key ≡ true
in_gap_by r j key a b = grind (arith, nat_tests, a, b)

half_to : (right : Bool) (r : Reach) (end key : ℕ) → end_on right r ≡ end → InHalf right r.me end key → InHalf right r.me (end_on right r) key
half_to right r end key e h = subst (λ n. InHalf right r.me n key) (sym e) h

-- a joiner takes away and never gives: without it the node covers no less
half_without : (right : Bool) (r : Reach) (j key : ℕ) → IsReach r → key < 2 ^ 128 → InHalf right r.me (end_on right r) key →
    covers_of (without r j) key ≡ true
half_without right r j key range hk h =
    elim (cases_joiner (joiner_on right r) j) [
      | inl e ↦
          let at_link = end_on-without right r j e in
          let longer = half_longer right r.me (end_on right r) (link_on right r) key range.me (end_on-bound right r range) (range.link right) hk
          (end_on-le right r range) h in
          covers_by_half right (without r j) key range.me (rw at_link (range.link right)) hk (half_to right (without r j) (link_on right r) key at_link longer)
      | inr ne ↦
          let same = end_on-other right r j ne in
          covers_by_half right (without r j) key range.me (rw same (end_on-bound right r range)) hk (half_to right (without r j) (end_on right r) key same h)
    ]

pub covers-without : (r : Reach) (j key : ℕ) → IsReach r → key < 2 ^ 128 → covers_of r key ≡ true → covers_of (without r j) key ≡ true
covers-without r j key range hk h = by (where_covered r key range hk h) where
  by : WhereCovered r key → covers_of (without r j) key ≡ true
  by (itself e) = subst (λ k. covers_of (without r j) k ≡ true) (sym e) (covers_itself (without r j))
  by (half right g) = half_without right r j key range hk g

-- so a gate uncovers exactly the gap of its joiner
pub covers-but_gap : (r : Reach) (j key : ℕ) → IsReach r → key < 2 ^ 128 → covers_of r key ≡ covers_of (without r j) key && not (in_gap_of r j key)
covers-but_gap r j key range hk = grind (
  arith,
  nat_tests,
  cases_Bool (covers_of r key),
  cases_Bool (covers_of (without r j) key),
  covers-without r j key range hk,
)
