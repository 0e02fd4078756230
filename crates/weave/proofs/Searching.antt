-- Where an envelope can stand among those by stamp and sender, in a list of things each of which is seen as one.
use Rattle.std.proofs.Common.{◌≡◌, ◌≢◌, ◌<◌, ◌≤◌, inl, inr, ℕ, zero, suc, true, false, Some, List, [], ◌∷◌, map, length, get_or, slice_get, Contains, Bor}
use Rattle.std.proofs.Common.{refl, sym, subst, ap, ◌∙◌, arith}
use Rattle.std.proofs.lemmas.Bool.{cases_order}
use Rattle.std.proofs.lemmas.Bool.Decides.{nat_tests}
use Rattle.std.proofs.lemmas.Option.{slice_get-get_or}
use Rattle.std.specs.List.{AllWithin}
use Rattle.std.specs.List.Sorted.{IsPartitionedBy}
use Rattle.wire_msg.specs.declared.message.Envelope.{Envelope as CodeEnvelope}
use Rattle.wire_msg.specs.Words.{Envelope, plain_envelope}
use Rattle.weave.specs.ByStamp.{AreByStamp, is_earlier}

abbrev pub seen : Bor CodeEnvelope → Envelope
seen v = plain_envelope v.now

pub never_itself : (v : Envelope) → is_earlier v v ≡ false
never_itself v = grind (arith, nat_tests)

-- what isn't behind an earlier one is earlier too
earlier_still : (u v w : Envelope) → is_earlier v u ≡ false → is_earlier v w ≡ true → is_earlier u w ≡ true
earlier_still u v w b e = grind (arith, nat_tests)

-- ---- an envelope and its place

pub record IsAt {A : Type 0} (f : A → Envelope) (xs : List A) (k : ℕ) (w : Envelope) : Type 0 where
  pub item : A
  pub within : k < length xs
  pub is : get_or xs k item ≡ item
  pub seen_as : f item ≡ w

pub found : {A : Type 0} (f : A → Envelope) (xs : List A) (k : ℕ) (w : Envelope) → slice_get (map f xs) k ≡ Some w → IsAt f xs k w
found f [] k w e = cc
found f (x ∷ xs) zero w e = record { item = x; within = omega arith; is = refl; seen_as = cc }
found f (x ∷ xs) (suc k) w e =
    let rest = found f xs k w e in record { item = rest.item; within = let lt = rest.within in omega arith; is = rest.is; seen_as = rest.seen_as }

pub get_at : {A : Type 0} (f : A → Envelope) (xs : List A) (k : ℕ) (d : A) → k < length xs → slice_get (map f xs) k ≡ Some (f (get_or xs k d))
get_at f [] k d lt = absurd (omega arith)
get_at f (x ∷ xs) zero d lt = refl
get_at f (x ∷ xs) (suc k) d lt = get_at f xs k d (omega arith)

-- ---- where it is sought

module _ {A : Type 0} (f : A → Envelope) (xs : List A) (w : Envelope) where
  pub partitioned : AreByStamp (map f xs) → IsPartitionedBy (λ (v : A). is_earlier (f v) w) xs
  partitioned s i j d le lt e =
      elim (cases_order i j) [
        | inl same ↦ subst (λ k. is_earlier (f (get_or xs k d)) w ≡ true) (sym same) e
        | inr (inl less) ↦ earlier_still (f (get_or xs i d)) (f (get_or xs j d)) w
            (s.none_behind i j (f (get_or xs i d)) (f (get_or xs j d)) less (get_at f xs i d (omega arith)) (get_at f xs j d lt)) e
        | inr (inr more) ↦ absurd (omega arith)
      ]

  -- it stands at no place whose envelope is earlier
  pub none_before : (place : ℕ) → AllWithin (λ (v : A). is_earlier (f v) w ≡ true) xs 0 place → (k : ℕ) → k < place → slice_get (map f xs) k ≢ Some w
  none_before place h k lt e =
      let at = found f xs k w e in
      let one : is_earlier (f at.item) w ≡ true = subst (λ v. is_earlier (f v) w ≡ true) at.is (h k at.item (omega arith) lt) in
      let t : is_earlier w w ≡ true = subst (λ v. is_earlier v w ≡ true) at.seen_as one in
      let n = never_itself w in
      cc

  -- nor from a later one on
  pub none_behind : (place : ℕ) (u : Envelope) → AreByStamp (map f xs) → slice_get (map f xs) place ≡ Some u → is_earlier w u ≡ true →
      (k : ℕ) → place ≤ k → slice_get (map f xs) k ≢ Some w
  none_behind place u s at later k le e =
      elim (cases_order place k) [
        | inl same ↦
            let here : slice_get (map f xs) place ≡ Some w = subst (λ n. slice_get (map f xs) n ≡ Some w) (sym same) e in
            let one : u ≡ w = cc in
            let t : is_earlier w w ≡ true = subst (λ v. is_earlier w v ≡ true) one later in
            let n = never_itself w in
            cc
        | inr (inl less) ↦ let n = s.none_behind place k u w less at e in cc
        | inr (inr more) ↦ absurd (omega arith)
      ]

-- it is not among them if it stands at no place
pub not_among : (vs : List Envelope) (w : Envelope) → ((k : ℕ) → slice_get vs k ≢ Some w) → Contains vs w → ⊥
not_among vs w h c = h c.0 (slice_get-get_or vs c.0 w c.1 ∙ ap Some c.2)
