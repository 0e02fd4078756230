-- One owner for each key, among the members of any set: each covers only what it is the closest to, and the closest covers a key or has it in a gap.
-- All that is asked of a member is `IsEnded`: that each of its arcs ends at its true neighbour, or at one before it that is no member yet.
use Rattle.std.proofs.Common.{◌≡◌, ℕ, Bool, true, false, ◌^◌, ◌<◌, ◌≤◌, ◌⊎◌, Some, ◌≢◌, refl, sym, ◌∙◌, ap, subst, arith, inl, inr}
use Rattle.std.proofs.lemmas.Bool.{cases_Bool}
use Rattle.ring_math.specs.Members.{IsClosest, InRing}
use Rattle.ring_math.proofs.Nearness.{rank}
use Rattle.ring_math.proofs.Neighbours.{closest_one, closest_least, least_closest}
use Rattle.coverage.specs.declared.Reach.{Reach}
use Rattle.coverage.specs.Coverage.{in_arcs, covers_of, in_gap_of, without, left_end, right_end}
use Rattle.coverage.specs.Links.{IsNext, KeepsFor, stands}
use Rattle.coverage.proofs.Ways.{way, next_least, next_member}
use Rattle.coverage.proofs.Arcs.{InHalf, arcs_nearest, arcs_or_nearer, arcs_true}
use Rattle.coverage.proofs.Ends.{link_on, joiner_on, end_on, cases_joiner, end_on-joiner, end_on-beside, end_on-without, end_on-other}
use Rattle.coverage.proofs.Ends.{joiner_on-other, covers-arcs, covers_itself, covers_by_half, in_gap_by, in_gap-parts}

-- the arc of x ends at j, who is no member and stands before the next member, which is the link
pub record Waits (right : Bool) (P : ℕ → Type 0) (x : ℕ) (r : Reach) (j : ℕ) : Type 0 where
  pub joiner : joiner_on right r ≡ Some j
  pub absent : P j → ⊥
  pub bound : j < 2 ^ 128
  pub at_end : end_on right r ≡ j
  pub next : IsNext right P x (link_on right r)
  pub before : way right x j < way right x (link_on right r)

abbrev pub EndsRight : Bool → (ℕ → Type 0) → ℕ → Reach → Type 0
EndsRight right P x r = IsNext right P x (end_on right r) ⊎ ((j : ℕ) × Waits right P x r j)

-- all that coverage asks of a member x with this reach
pub record IsEnded (P : ℕ → Type 0) (x : ℕ) (r : Reach) : Type 0 where
  pub me : r.me ≡ x
  pub side : (right : Bool) → EndsRight right P x r

-- ---- who covers a key is the closest to it

-- each member is at the end of the arc or beyond
record NoneBefore (right : Bool) (P : ℕ → Type 0) (x : ℕ) (r : Reach) : Type 0 where
  bound : end_on right r < 2 ^ 128
  beyond : (z : ℕ) → P z → way right x (end_on right r) ≤ way right x z

none_before_end : (right : Bool) (P : ℕ → Type 0) (x : ℕ) (r : Reach) → InRing P → EndsRight right P x r → NoneBefore right P x r
none_before_end right P x r range (inl n) = record {
  bound = range (end_on right r) (next_member right P x (end_on right r) n);
  beyond = (next_least right P x (end_on right r) n).least;
}
none_before_end right P x r range (inr (j, w)) = record {
  bound = rw w.at_end w.bound;
  beyond = λ z pz. let lt = w.before in let le = (next_least right P x (link_on right r) w.next).least z pz in rw w.at_end (omega arith);
}

pub covers_closest : (P : ℕ → Type 0) (x key : ℕ) (r : Reach) → InRing P → key < 2 ^ 128 → P x → IsEnded P x r → covers_of r key ≡ true →
    IsClosest P key x
covers_closest P x key r range hk px ends h =
    let hx : x < 2 ^ 128 = range x px in
    let hm : r.me < 2 ^ 128 = rw ends.me hx in
    let right = none_before_end true P x r range (ends.side true) in
    let left = none_before_end false P x r range (ends.side false) in
    let arcs : in_arcs x (left_end r) (right_end r) key ≡ true = rw (← ends.me) (sym (covers-arcs r key hm hk) ∙ h) in
    least_closest P key x hk range (record {
      member = px;
      least = λ z pz. arcs_nearest x (left_end r) (right_end r) key z hx left.bound right.bound hk (range z pz) arcs (right.beyond z pz) (left.beyond z pz);
    })

-- so no two cover one key
pub one_covers : (P : ℕ → Type 0) (x y key : ℕ) (r q : Reach) → InRing P → key < 2 ^ 128 → P x → P y → IsEnded P x r → IsEnded P y q →
    covers_of r key ≡ true → covers_of q key ≡ true → x ≡ y
one_covers P x y key r q range hk px py er eq cx cy =
    closest_one P key x y range hk (covers_closest P x key r range hk px er cx) (covers_closest P y key q range hk py eq cy)

-- ---- who is the closest to a key covers it, or has it in the gap of a joiner

-- covered, or kept for a joiner that is no member
pub data Owns (P : ℕ → Type 0) (r : Reach) (key : ℕ) : Type 0 where
  covers : covers_of r key ≡ true → Owns P r key
  keeps : (j : ℕ) → KeepsFor P r key j → Owns P r key

a_joiner : (right : Bool) (r : Reach) (j : ℕ) → joiner_on right r ≡ Some j → (r.right_joiner ≡ Some j) ⊎ (r.left_joiner ≡ Some j)
a_joiner true r j e = inl e
a_joiner false r j e = inr e

-- what is covered without a joiner that is no member
owns_by : (right : Bool) (P : ℕ → Type 0) (r : Reach) (j key : ℕ) → joiner_on right r ≡ Some j → (P j → ⊥) → covers_of (without r j) key ≡ true →
    Owns P r key
owns_by right P r j key e absent h =
    elim (cases_Bool (covers_of r key)) [
      | inl a ↦ covers a
      | inr b ↦ keeps j (record { joiner = a_joiner right r j e; absent = absent; gap = in_gap_by r j key h b })
    ]

half_at : (right : Bool) (r : Reach) (x end key : ℕ) → r.me ≡ x → end_on right r ≡ end → InHalf right x end key →
    InHalf right r.me (end_on right r) key
half_at right r x end key me e h = subst (λ m. InHalf right m (end_on right r) key) (sym me) (subst (λ n. InHalf right x n key) (sym e) h)

-- on each side the arc to the true neighbour is covered or kept
record OwnsTo (right : Bool) (P : ℕ → Type 0) (x key : ℕ) (r : Reach) (y : ℕ) : Type 0 where
  next : IsNext right P x y
  owned : InHalf right x y key → Owns P r key

owns_to : (right : Bool) (P : ℕ → Type 0) (x key : ℕ) (r : Reach) → InRing P → x < 2 ^ 128 → key < 2 ^ 128 → r.me ≡ x → EndsRight right P x r →
    (y : ℕ) × OwnsTo right P x key r y
owns_to right P x key r range hx hk me (inl n) =
    let he : end_on right r < 2 ^ 128 = range (end_on right r) (next_member right P x (end_on right r) n) in
    let hm : r.me < 2 ^ 128 = rw me hx in
    (end_on right r, record { next = n; owned = λ h. covers (covers_by_half right r key hm he hk (half_at right r x (end_on right r) key me refl h)) })
owns_to right P x key r range hx hk me (inr (j, w)) =
    let hl : link_on right r < 2 ^ 128 = range (link_on right r) (next_member right P x (link_on right r) w.next) in
    let hm : r.me < 2 ^ 128 = rw me hx in
    let bare = end_on-without right r j w.joiner in
    let he : end_on right (without r j) < 2 ^ 128 = rw bare hl in (
      link_on right r,
      record {
        next = w.next;
        owned = λ h. owns_by right P r j key w.joiner w.absent
            (covers_by_half right (without r j) key hm he hk (half_at right (without r j) x (link_on right r) key me bare h));
      },
    )

-- between its true neighbours, the closest has the key in its arcs
closest_arcs : (P : ℕ → Type 0) (x p s key : ℕ) → InRing P → key < 2 ^ 128 → IsNext false P x p → IsNext true P x s → IsClosest P key x →
    in_arcs x p s key ≡ true
closest_arcs P x p s key range hk hp hs c =
    let least = closest_least P key x hk range c in
    let a : rank key x ≤ rank key p = least.least p (next_member false P x p hp) in
    let b : rank key x ≤ rank key s = least.least s (next_member true P x s hs) in
    grind (
      arith,
      cases_Bool (in_arcs x p s key),
      arcs_or_nearer x p s key (range x c.member) (range p (next_member false P x p hp)) (range s
          (next_member true P x s hs)) hk,
    )

pub closest_owns : (P : ℕ → Type 0) (x key : ℕ) (r : Reach) → InRing P → key < 2 ^ 128 → IsEnded P x r → IsClosest P key x → Owns P r key
closest_owns P x key r range hk ends c =
    let hx : x < 2 ^ 128 = range x c.member in
    let right = owns_to true P x key r range hx hk ends.me (ends.side true) in
    let left = owns_to false P x key r range hx hk ends.me (ends.side false) in
    let hr = range right.0 (next_member true P x right.0 right.1.next) in
    let hl = range left.0 (next_member false P x left.0 left.1.next) in
    elim (arcs_true x left.0 right.0 key hx hl hr hk (closest_arcs P x left.0 right.0 key range hk left.1.next right.1.next c)) [
      | inl e ↦ covers (subst (λ k. covers_of r k ≡ true) (ends.me ∙ sym e) (covers_itself r))
      | inr (inl p) ↦ right.1.owned (record { before = p.0; near = p.1 })
      | inr (inr p) ↦ left.1.owned (record { before = p.0; near = p.1 })
    ]

-- ---- the gap of a joiner that is no member belongs to the closest

-- without that joiner the arcs still end at true neighbours, or at a joiner before them
link_on-without : (right : Bool) (r : Reach) (j : ℕ) → link_on right (without r j) ≡ link_on right r
link_on-without true r j = refl
link_on-without false r j = refl

-- where the side's joiner is j the link is the true neighbour
link_is_next : (right : Bool) (P : ℕ → Type 0) (x j : ℕ) (r : Reach) → (P j → ⊥) → r.me ≡ x → joiner_on right r ≡ Some j → EndsRight right P x r →
    IsNext right P x (link_on right r)
link_is_next right P x j r absent me e (inr (i, w)) = w.next
link_is_next right P x j r absent me e (inl n) =
    elim (cases_Bool (stands right r.me j (link_on right r))) [
      | inl b ↦ absurd (absent (subst P (end_on-joiner right r j e b) (next_member right P x (end_on right r) n)))
      | inr b ↦ subst (IsNext right P x) (end_on-beside right r j e b) n
    ]

other_ends : (right : Bool) (P : ℕ → Type 0) (x j : ℕ) (r : Reach) → (joiner_on right r ≡ Some j → ⊥) → EndsRight right P x r →
    EndsRight right P x (without r j)
other_ends right P x j r ne (inl n) = inl (rw (end_on-other right r j ne) n)
other_ends right P x j r ne (inr (i, w)) =
    let apart : i ≢ j = λ f. ne (w.joiner ∙ ap Some f) in
    inr (
      i,
      record {
        joiner = joiner_on-other right r i j w.joiner apart;
        absent = w.absent;
        bound = w.bound;
        at_end = end_on-other right r j ne ∙ w.at_end;
        next = rw (link_on-without right r j) w.next;
        before = rw (link_on-without right r j) w.before;
      },
    )

side_without : (right : Bool) (P : ℕ → Type 0) (x j : ℕ) (r : Reach) → (P j → ⊥) → r.me ≡ x → EndsRight right P x r →
    EndsRight right P x (without r j)
side_without right P x j r absent me h =
    elim (cases_joiner (joiner_on right r) j) [
      | inl e ↦ inl (rw (end_on-without right r j e) (link_is_next right P x j r absent me e h))
      | inr ne ↦ other_ends right P x j r ne h
    ]

pub ended-without : (P : ℕ → Type 0) (x j : ℕ) (r : Reach) → (P j → ⊥) → IsEnded P x r → IsEnded P x (without r j)
ended-without P x j r absent ends = record { me = ends.me; side = λ right. side_without right P x j r absent ends.me (ends.side right) }

pub gap_closest : (P : ℕ → Type 0) (x j key : ℕ) (r : Reach) → InRing P → key < 2 ^ 128 → P x → (P j → ⊥) → IsEnded P x r → in_gap_of r j key ≡ true →
    IsClosest P key x
gap_closest P x j key r range hk px absent ends h = covers_closest P x key (without r j) range hk px (ended-without P x j r absent ends)
    (in_gap-parts r j key h).0
