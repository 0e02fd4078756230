-- Progress: who neither covers a key nor has it in a gap has a link that is nearer to it; and where anybody known is nearer, so is the first leaf of a side.
use Rattle.std.proofs.Common.{◌≡◌, ◌≢◌, ℕ, Bool, true, false, ◌^◌, ◌<◌, ◌≤◌, ◌⊎◌, List, None, sym, subst, arith, inl, inr}
use Rattle.std.specs.List.{Contains}
use Rattle.std.proofs.lemmas.Bool.{cases_Bool}
use Rattle.std.proofs.lemmas.Bool.Decides.{nat_tests}
use Rattle.ring_math.specs.Ring.{is_nearer}
use Rattle.ring_math.specs.Members.{InRing}
use Rattle.ring_math.specs.Sides.{first_or, right_side, left_side}
use Rattle.ring_math.proofs.Distances.{turn, turn-cw}
use Rattle.ring_math.proofs.Nearness.{rank, is_nearer-rank}
use Rattle.coverage.specs.declared.Reach.{Reach}
use Rattle.coverage.specs.Coverage.{in_arcs, covers_of, gap_of, without}
use Rattle.coverage.proofs.Arcs.{InHalf, arcs_nearest, arcs_or_nearer, arcs_true}
use Rattle.coverage.proofs.Ends.{link_on, joiner_on, cases_Option, end_on-free, end_on-without, covers_itself, covers_by_half, gap_of-none, in_gap_by}
use Rattle.coverage.proofs.Leaves.{first_right, first_left}

-- ---- a link is nearer

-- the half of the bare arc to the link is covered, or in the joiner's gap
half_kept : (right : Bool) (r : Reach) (key : ℕ) → r.me < 2 ^ 128 → link_on right r < 2 ^ 128 → key < 2 ^ 128 →
    covers_of r key ≡ false → gap_of r key ≡ None → InHalf right r.me (link_on right r) key → ⊥
half_kept right r key hx hl hk out none h =
    elim (cases_Option (joiner_on right r)) [
      | inl e ↦
          let at_link = end_on-free right r e in
          let covered : covers_of r key ≡ true = covers_by_half right r key hx (rw at_link hl) hk (rw at_link h) in cc
      | inr (j, e) ↦
          let at_link = end_on-without right r j e in
          let covered : covers_of (without r j) key ≡ true = covers_by_half right (without r j) key hx (rw at_link hl) hk (rw at_link h) in
          let kept = in_gap_by r j key covered out in
          let not_kept = gap_of-none right r key j none e in cc
    ]

bare_arcs : (r : Reach) (key : ℕ) → r.me < 2 ^ 128 → r.left < 2 ^ 128 → r.right < 2 ^ 128 → key < 2 ^ 128 →
    covers_of r key ≡ false → gap_of r key ≡ None → in_arcs r.me r.left r.right key ≡ true → ⊥
bare_arcs r key hx hl hr hk out none h =
    elim (arcs_true r.me r.left r.right key hx hl hr hk h) [
      | inl e ↦ let covered : covers_of r key ≡ true = subst (λ k. covers_of r k ≡ true) (sym e) (covers_itself r) in cc
      | inr (inl p) ↦ half_kept true r key hx hr hk out none (record { before = p.0; near = p.1 })
      | inr (inr p) ↦ half_kept false r key hx hl hk out none (record { before = p.0; near = p.1 })
    ]

pub link_is_nearer : (r : Reach) (key : ℕ) → r.me < 2 ^ 128 → r.left < 2 ^ 128 → r.right < 2 ^ 128 → key < 2 ^ 128 →
    covers_of r key ≡ false → gap_of r key ≡ None → (is_nearer r.left r.me key ≡ true) ⊎ (is_nearer r.right r.me key ≡ true)
link_is_nearer r key hx hl hr hk out none =
    elim (cases_Bool (in_arcs r.me r.left r.right key)) [
      | inl in' ↦ absurd (bare_arcs r key hx hl hr hk out none in')
      | inr out' ↦
          grind (
            arith,
            nat_tests,
            arcs_or_nearer r.me r.left r.right key hx hl hr hk out',
            is_nearer-rank r.left r.me key hl hx hk,
            is_nearer-rank r.right r.me key hr hx hk,
          )
    ]

-- ---- the first leaf of a side is nearer

-- where y is nearer to the key than x, so is one of a and b, which y is no nearer to x than on their sides
pub end_is_nearer : (x b a y key : ℕ) → x < 2 ^ 128 → b < 2 ^ 128 → a < 2 ^ 128 → y < 2 ^ 128 → key < 2 ^ 128 →
    turn x a ≤ turn x y → turn b x ≤ turn y x → is_nearer y x key ≡ true → (is_nearer b x key ≡ true) ⊎ (is_nearer a x key ≡ true)
end_is_nearer x b a y key hx hb ha hy hk fa fb h =
    let lt : rank key y < rank key x = grind (arith, nat_tests, is_nearer-rank y x key hy hx hk) in
    elim (cases_Bool (in_arcs x b a key)) [
      | inl in' ↦ let le : rank key x ≤ rank key y = arcs_nearest x b a key y hx hb ha hk hy in' fa fb in absurd (omega arith)
      | inr out' ↦ grind (arith, nat_tests, arcs_or_nearer x b a key hx hb ha hk out', is_nearer-rank a x key ha hx hk, is_nearer-rank b x key hb hx hk)
    ]

pub leaf_is_nearer : (me : ℕ) (known : List ℕ) (y key : ℕ) → InRing (Contains known) → me < 2 ^ 128 → key < 2 ^ 128 → (Contains known me → ⊥) →
    Contains known y →
    is_nearer y me key ≡ true →
    (is_nearer (first_or me (left_side me known)) me key ≡ true) ⊎ (is_nearer (first_or me (right_side me known)) me key ≡ true)
leaf_is_nearer me known y key range hm hk unknown c h =
    let right = first_right me y known c in
    let left = first_left me y known c in
    let apart : (z : ℕ) → Contains known z → me ≢ z = λ z cz e. unknown (subst (Contains known) (sym e) cz) in
    let apart' : (z : ℕ) → Contains known z → z ≢ me = λ z cz e. unknown (subst (Contains known) e cz) in
    let a : ℕ = first_or me (right_side me known) in
    let b : ℕ = first_or me (left_side me known) in
    let fa : turn me a ≤ turn me y = rw (turn-cw me a (apart a right.member), turn-cw me y (apart y c)) (right.least y c) in
    let fb : turn b me ≤ turn y me = rw (turn-cw b me (apart' b left.member), turn-cw y me (apart' y c)) (left.least y c) in
    end_is_nearer me b a y key hm (range b left.member) (range a right.member) (range y c) hk fa fb h
