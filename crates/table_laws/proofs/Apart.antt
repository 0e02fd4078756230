-- A key beside a gate: what the gatekeeper covers is no nearer to the joiner; what it is the closest to and the joiner is nearer to is in the joiner's gap;
-- and what a new member is the closest to belonged to one of the two between whom it stands.
use Rattle.std.proofs.Common.{◌≡◌, ◌≢◌, ◌⊎◌, inl, inr, Bool, true, false, not, ◌^◌, ◌<◌, ◌≤◌, Some, refl, sym, subst, ap, ◌∙◌, arith}
use Rattle.std.proofs.lemmas.Bool.{cases_Bool, cases_eq, cases_lt}
use Rattle.std.proofs.lemmas.Bool.Decides.{nat_tests}
use Rattle.ring_math.specs.Names.{Id, Key, Attempt}
use Rattle.ring_math.specs.Ring.{cw_of, is_nearer}
use Rattle.ring_math.specs.Members.{IsClosest, InRing, with}
use Rattle.ring_math.proofs.Distances.{turn, turn_cases}
use Rattle.ring_math.proofs.Nearness.{rank, same_from_rank, is_nearer-rank}
use Rattle.ring_math.proofs.Neighbours.{closest_least, least_closest}
use Rattle.coverage.specs.declared.Reach.{Reach}
use Rattle.coverage.specs.Coverage.{in_arcs, covers_of, in_gap_of, without, left_end, right_end}
use Rattle.coverage.specs.Links.{IsNext, stands, Lease, Side, HasSide, IsRing, joiner_of, reach_of}
use Rattle.coverage.proofs.Ways.{way, next_least, next_member, before_from_stands}
use Rattle.coverage.proofs.Arcs.{InHalf, arcs_true, arcs_by_left, arcs_by_right, arcs_nearest, arcs_or_nearer}
use Rattle.coverage.proofs.Ends.{link_on, joiner_on, end_on, end_on-joiner, end_on-other, covers-arcs, in_gap-parts}
use Rattle.coverage.proofs.Owner.{EndsRight, IsEnded, Owns, covers, keeps, closest_owns, ended-without}
use Rattle.coverage.proofs.RingSteps.{ring-ended}

-- ---- a reach whose arcs end no farther than i covers nothing that i is nearer to

pub covered_apart : (x i : Id) (key : Key) (q : Reach) → x < 2 ^ 128 → i < 2 ^ 128 → key < 2 ^ 128 → q.me ≡ x → ((right : Bool) → end_on right q < 2 ^ 128) →
    ((right : Bool) → way right x (end_on right q) ≤ way right x i) → covers_of q key ≡ true → is_nearer i x key ≡ false
covered_apart x i key q hx hi hk me ends near h =
    let hm : q.me < 2 ^ 128 = subst (λ m. m < 2 ^ 128) (sym me) hx in
    let arcs : in_arcs x (left_end q) (right_end q) key ≡ true =
    subst (λ m. in_arcs m (left_end q) (right_end q) key ≡ true) me (sym (covers-arcs q key hm hk) ∙ h) in
    let le : rank key x ≤ rank key i = arcs_nearest x (left_end q) (right_end q) key i hx (ends false) (ends true) hk hi arcs (near true) (near false) in
    grind (arith, nat_tests, is_nearer-rank i x key hi hx hk)

-- ---- where the arcs of a gatekeeper end

link_at : (right : Bool) (x : Id) (s : Bool → Side) → link_on right (reach_of x s) ≡ (s right).link
link_at true x s = refl
link_at false x s = refl

joiner_at : (right : Bool) (x : Id) (s : Bool → Side) → joiner_on right (reach_of x s) ≡ joiner_of (s right).gate
joiner_at true x s = refl
joiner_at false x s = refl

end_at_gate : (right : Bool) (P : Id → Type 0) (attempt_of : Id → Attempt) (x : Id) (s : Bool → Side) (gate : Lease) → HasSide right P attempt_of x (s right) →
    (s right).gate ≡ Some gate →
    end_on right (reach_of x s) ≡ gate.joiner
end_at_gate right P attempt_of x s gate h e =
    end_on-joiner right (reach_of x s) gate.joiner (joiner_at right x s ∙ ap joiner_of e)
    (subst (λ l. stands right x gate.joiner l ≡ true) (sym (link_at right x s)) (h.gated gate e).between)

-- each member is at the end of an arc or beyond
end_before : (right : Bool) (P : Id → Type 0) (x : Id) (q : Reach) (z : Id) → EndsRight right P x q → P z → way right x (end_on right q) ≤ way right x z
end_before right P x q z (inl n) pz = (next_least right P x (end_on right q) n).least z pz
end_before right P x q z (inr (j, w)) pz =
    let lt = w.before in let le = (next_least right P x (link_on right q) w.next).least z pz in
    subst (λ e. way right x e ≤ way right x z) (sym w.at_end) (omega arith)

end_bound : (right : Bool) (P : Id → Type 0) (x : Id) (q : Reach) → InRing P → EndsRight right P x q → end_on right q < 2 ^ 128
end_bound right P x q range (inl n) = range (end_on right q) (next_member right P x (end_on right q) n)
end_bound right P x q range (inr (j, w)) = subst (λ e. e < 2 ^ 128) (sym w.at_end) w.bound

-- who stands before another member on one side stands behind it on the other
past_link : (right : Bool) (x i y : Id) → x < 2 ^ 128 → i < 2 ^ 128 → y < 2 ^ 128 → y ≢ x → way right x i < way right x y →
    way (not right) x y ≤ way (not right) x i
past_link true x i y hx hi hy ne lt = omega (arith, turn_cases x i hx hi, turn_cases x y hx hy, turn_cases y x hy hx, turn_cases i x hi hx)
past_link false x i y hx hi hy ne lt = omega (arith, turn_cases x i hx hi, turn_cases x y hx hy, turn_cases y x hy hx, turn_cases i x hi hx)

both_sides : (P : Bool → Type 0) (right : Bool) → P right → P (not right) → (side : Bool) → P side
both_sides P true p q true = p
both_sides P true p q false = q
both_sides P false p q true = q
both_sides P false p q false = p

-- x has a gate on that side whose joiner is no member; where the link there is x itself, the gate stands on both sides
pub record Gated (right : Bool) (P : Id → Type 0) (attempt_of : Id → Attempt) (sides : Id → Bool → Side) (x : Id) (gate : Lease) : Type 0 where
  pub member : (j : Id) → P j ⊎ (P j → ⊥)
  pub ring : IsRing P attempt_of sides
  pub at : P x
  pub is : (sides x right).gate ≡ Some gate
  pub absent : P gate.joiner → ⊥
  pub twin : (sides x right).link ≡ x → (sides x (not right)).gate ≡ Some gate

-- of a reach whose arcs end rightly, and at the gate's joiner where it has its gate
apart_at : (right : Bool) (P : Id → Type 0) (attempt_of : Id → Attempt) (sides : Id → Bool → Side) (x : Id) (gate : Lease) (q : Reach) (key : Key) →
    Gated right P attempt_of sides x gate → key < 2 ^ 128 → IsEnded P x q →
    ((side : Bool) → (sides x side).gate ≡ Some gate → end_on side q ≡ gate.joiner) → covers_of q key ≡ true → is_nearer gate.joiner x key ≡ false
apart_at right P attempt_of sides x gate q key h hk ended ends c =
    covered_apart x gate.joiner key q hx hi hk ended.me (λ side. end_bound side P x q h.ring.in_ring (ended.side side))
    (both_sides (λ side. way side x (end_on side q) ≤ way side x gate.joiner) right (same right (ends right h.is)) other) c where
      hx : x < 2 ^ 128
      hx = h.ring.in_ring x h.at

      has : HasSide right P attempt_of x (sides x right)
      has = h.ring.side right x h.at

      hi : gate.joiner < 2 ^ 128
      hi = (has.gated gate h.is).bound

      next : IsNext right P x (sides x right).link
      next = (has.gated gate h.is).before h.absent

      hl : (sides x right).link < 2 ^ 128
      hl = h.ring.in_ring _ (next_member right P x (sides x right).link next)

      same : (side : Bool) → end_on side q ≡ gate.joiner → way side x (end_on side q) ≤ way side x gate.joiner
      same side e = subst (λ z. way side x z ≤ way side x gate.joiner) (sym e) (omega arith)

      other : way (not right) x (end_on (not right) q) ≤ way (not right) x gate.joiner
      other = elim (cases_eq (sides x right).link x) [
        | inl e ↦ same (not right) (ends (not right) (h.twin e))
        | inr ne ↦
            let before : way right x gate.joiner < way right x (sides x right).link =
            before_from_stands right x gate.joiner (sides x right).link hx hi hl (has.gated gate h.is).between in
            let a = end_before (not right) P x q (sides x right).link (ended.side (not right)) (next_member right P x (sides x right).link next) in
            let b = past_link right x gate.joiner (sides x right).link hx hi hl ne before in
            omega arith
      ]

ended : (right : Bool) (P : Id → Type 0) (attempt_of : Id → Attempt) (sides : Id → Bool → Side) (x : Id) (gate : Lease) →
    Gated right P attempt_of sides x gate → IsEnded P x (reach_of x (sides x))
ended right P attempt_of sides x gate h = ring-ended P attempt_of sides x h.member h.ring h.at

ends_at : (right : Bool) (P : Id → Type 0) (attempt_of : Id → Attempt) (sides : Id → Bool → Side) (x : Id) (gate : Lease) →
    Gated right P attempt_of sides x gate → (side : Bool) → (sides x side).gate ≡ Some gate →
    end_on side (reach_of x (sides x)) ≡ gate.joiner
ends_at right P attempt_of sides x gate h side e = end_at_gate side P attempt_of x (sides x) gate (h.ring.side side x h.at) e

-- what the gatekeeper covers is no nearer to the joiner
pub covers_apart : (right : Bool) (P : Id → Type 0) (attempt_of : Id → Attempt) (sides : Id → Bool → Side) (x : Id) (gate : Lease) (key : Key) →
    Gated right P attempt_of sides x gate → key < 2 ^ 128 →
    covers_of (reach_of x (sides x)) key ≡ true → is_nearer gate.joiner x key ≡ false
covers_apart right P attempt_of sides x gate key h hk c =
    apart_at right P attempt_of sides x gate (reach_of x (sides x)) key h hk (ended right P attempt_of sides x gate h)
    (ends_at right P attempt_of sides x gate h) c

-- nor is what it keeps for another joiner that is no member
others_apart : (right : Bool) (P : Id → Type 0) (attempt_of : Id → Attempt) (sides : Id → Bool → Side) (x : Id) (gate : Lease) (key : Key) (j : Id) →
    Gated right P attempt_of sides x gate → key < 2 ^ 128 → (P j → ⊥) → gate.joiner ≢ j →
    in_gap_of (reach_of x (sides x)) j key ≡ true → is_nearer gate.joiner x key ≡ false
others_apart right P attempt_of sides x gate key j h hk absent ne gap =
    apart_at right P attempt_of sides x gate (without (reach_of x (sides x)) j) key h hk
    (ended-without P x j (reach_of x (sides x)) absent (ended right P attempt_of sides x gate h))
    (λ side e. end_on-other side (reach_of x (sides x)) j (other side e) ∙ ends_at right P attempt_of sides x gate h side e)
    (in_gap-parts (reach_of x (sides x)) j key gap).0 where
      other : (side : Bool) → (sides x side).gate ≡ Some gate → joiner_on side (reach_of x (sides x)) ≡ Some j → ⊥
      other side e f = let same : Some gate.joiner ≡ Some j = sym (joiner_at side x (sides x) ∙ ap joiner_of e) ∙ f in ne (cc)

-- so what it is the closest to, and the joiner is nearer to, is in the joiner's gap
pub nearer_in_gap : (right : Bool) (P : Id → Type 0) (attempt_of : Id → Attempt) (sides : Id → Bool → Side) (x : Id) (gate : Lease) (key : Key) →
    Gated right P attempt_of sides x gate → key < 2 ^ 128 →
    IsClosest P key x → is_nearer gate.joiner x key ≡ true → in_gap_of (reach_of x (sides x)) gate.joiner key ≡ true
nearer_in_gap right P attempt_of sides x gate key h hk c near =
    by (closest_owns P x key (reach_of x (sides x)) h.ring.in_ring hk (ended right P attempt_of sides x gate h) c) where
      by : Owns P (reach_of x (sides x)) key → in_gap_of (reach_of x (sides x)) gate.joiner key ≡ true
      by (covers d) = let far = covers_apart right P attempt_of sides x gate key h hk d in cc
      by (keeps j k) = elim (cases_eq gate.joiner j) [
        | inl e ↦ subst (λ z. in_gap_of (reach_of x (sides x)) z key ≡ true) (sym e) k.gap
        | inr ne ↦ let far = others_apart right P attempt_of sides x gate key j h hk k.absent ne k.gap in cc
      ]

-- ---- a new member

-- who is in the half of the arc of x is no nearer to each beyond its end
half_nearest : (right : Bool) (x y : Id) (key : Key) (m : Id) → x < 2 ^ 128 → y < 2 ^ 128 → key < 2 ^ 128 → m < 2 ^ 128 → InHalf right x y key →
    way right x y ≤ way right x m → rank key x ≤ rank key m
half_nearest true x y key m hx hy hk hm h le = arcs_nearest x m y key m hx hm hy hk hm (arcs_by_right x m y key hx hy hk h.before h.near) le (omega arith)
half_nearest false x y key m hx hy hk hm h le = arcs_nearest x y m key m hx hy hm hk hm (arcs_by_left x y m key hx hy hk h.before h.near) (omega arith) le

half_closest : (right : Bool) (P : Id → Type 0) (x y : Id) (key : Key) → InRing P → key < 2 ^ 128 → P x → IsNext right P x y → InHalf right x y key →
    IsClosest P key x
half_closest right P x y key range hk px n h =
    least_closest P key x hk range (record {
      member = px;
      least = λ z pz. half_nearest right x y key z (range x px) (range y (next_member right P x y n)) hk (range z pz) h ((next_least right P x y n).least z pz);
    })

-- the key stands between the two neighbours of who is nearer to it than they
inside : (l r z : Id) (key : Key) → l < 2 ^ 128 → r < 2 ^ 128 → z < 2 ^ 128 → key < 2 ^ 128 → turn l z < turn l r → rank key z < rank key l →
    rank key z < rank key r → turn l key < turn l r
inside l r z key hl hr hz hk between a b =
    elim (arcs_true z l r key hz hl hr hk (grind (arith, cases_Bool (in_arcs z l r key), arcs_or_nearer z l r key hz hl hr hk))) [
      | inl e ↦ subst (λ k. turn l k < turn l r) (sym e) between
      | inr (inl p) ↦ let lt = p.0 in omega (
        arith,
        turn_cases l z hl hz,
        turn_cases l r hl hr,
        turn_cases z key hz hk,
        turn_cases z r hz hr,
        turn_cases l key hl hk,
      )
      | inr (inr p) ↦ let lt = p.0 in omega (arith, turn_cases l z hl hz, turn_cases l r hl hr, turn_cases key z hk hz, turn_cases l key hl hk)
    ]

turned_back : (l r : Id) (key : Key) → l < 2 ^ 128 → r < 2 ^ 128 → key < 2 ^ 128 → turn l key < turn l r → turn key r < turn l r
turned_back l r key hl hr hk lt = omega (arith, lt, turn_cases l key hl hk, turn_cases l r hl hr, turn_cases key r hk hr)

pub joined_from : (P : Id → Type 0) (l r z : Id) (key : Key) → InRing P → key < 2 ^ 128 → z < 2 ^ 128 → P l → P r → IsNext true P l r → IsNext false P r l →
    stands true l z r ≡ true → IsClosest (with P z) key z → (P z → ⊥) →
    (IsClosest P key l × (is_nearer z l key ≡ true)) ⊎ (IsClosest P key r × (is_nearer z r key ≡ true))
joined_from P l r z key range hk hz pl pr next back between c absent =
    elim (cases_lt (cw_of key r) (cw_of l key)) [
      | inl lt ↦ inr (half_closest false P r l key range hk pr back (record { before = turned; near = lt }), nearer r pr)
      | inr le ↦ inl (half_closest true P l r key range hk pl next (record { before = within; near = le }), nearer l pl)
    ] where
      hl : l < 2 ^ 128
      hl = range l pl

      hr : r < 2 ^ 128
      hr = range r pr

      apart : (y : Id) → P y → y ≢ z
      apart y py e = absent (subst P e py)

      in_both : InRing (with P z)
      in_both y (inl p) = range y p
      in_both y (inr e) = subst (λ w. w < 2 ^ 128) (sym e) hz

      less : (y : Id) → P y → rank key z < rank key y
      less y py =
          let le : rank key z ≤ rank key y = (closest_least (with P z) key z hk in_both c).least y (inl py) in
          let ne = apart y py in
          let e = c.nearest y (inl py) ne in
          elim (cases_lt (rank key z) (rank key y)) [
            | inl lt ↦ lt
            | inr ge ↦ absurd (ne (equal y py (omega arith)))
          ]
        where
          equal : (y : Id) → P y → rank key y ≡ rank key z → y ≡ z
          equal y py e = same_from_rank key y z hk (range y py) hz e

      nearer : (y : Id) → P y → is_nearer z y key ≡ true
      nearer y py = let lt = less y py in grind (arith, nat_tests, is_nearer-rank z y key hz (range y py) hk)

      within : turn l key < turn l r
      within = inside l r z key hl hr hz hk (before_from_stands true l z r hl hz hr between) (less l pl) (less r pr)

      turned : turn key r < turn l r
      turned = turned_back l r key hl hr hk within
