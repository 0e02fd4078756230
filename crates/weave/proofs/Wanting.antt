-- Seeking among what entries sent, item by item.
use Rattle.std.proofs.Common.{◌≡◌, ◌<◌, ◌⊎◌, inl, inr, ℕ, zero, suc, true, false, Some, None, Option, List, [], ◌∷◌, ◌++◌, map, take, length, get_or}
use Rattle.std.proofs.Common.{slice_get, Contains, refl, sym, subst, ap, arith}
use Rattle.std.specs.Option.{is_some}
use Rattle.ring_math.specs.Names.{Id}
use Rattle.wire_msg.specs.declared.message.Envelope.{Envelope as CodeEnvelope}
use Rattle.wire_msg.specs.Words.{Envelope, plain_envelope}
use Rattle.weave.specs.ByStamp.{IsPlaceOf}
use Rattle.weave.specs.Wanted.{HasNoWanted, IsFirstWanted, IsWanted}
use Rattle.weave.proofs.Standing.{contains_get}

-- ---- whether an envelope is among those taken

pub not_there : (vs : List Envelope) (v : Envelope) (found : Option ℕ) → IsPlaceOf vs v found → is_some found ≡ false → Contains vs v → ⊥
not_there vs v (Some m) h e = cc
not_there vs v None h e = h

pub is_there : (vs : List Envelope) (v : Envelope) (found : Option ℕ) → IsPlaceOf vs v found → is_some found ≡ true → Contains vs v
is_there vs v (Some m) h e = contains_get vs m v h.here
is_there vs v None h e = cc

-- ---- one more

get_push : {A : Type 0} (xs : List A) (x : A) (m : ℕ) (y : A) → slice_get (xs ++ x ∷ []) m ≡ Some y → (slice_get xs m ≡ Some y) ⊎ (x ≡ y)
get_push [] x zero y e = inr (let same : x ≡ y = cc in same)
get_push [] x (suc m) y e = cc
get_push (z ∷ xs) x zero y e = inl e
get_push (z ∷ xs) x (suc m) y e = get_push xs x m y e

pub none-push : (taken : List Envelope) (receiver : Id) (vs : List Envelope) (v : Envelope) → HasNoWanted taken receiver vs → (IsWanted taken receiver v → ⊥) →
    HasNoWanted taken receiver (vs ++ v ∷ [])
none-push taken receiver vs v h n = record {
  none = λ m w e wanted. elim (get_push vs v m w e) [
    | inl there ↦ h.none m w there wanted
    | inr same ↦ n (subst (IsWanted taken receiver) (sym same) wanted)
  ];
}

-- ---- the first

get_take : {A : Type 0} (xs : List A) (i m : ℕ) (y : A) → m < i → slice_get xs m ≡ Some y → slice_get (take i xs) m ≡ Some y
get_take xs zero m y lt e = absurd (omega arith)
get_take [] (suc i) m y lt e = e
get_take (x ∷ xs) (suc i) zero y lt e = e
get_take (x ∷ xs) (suc i) (suc m) y lt e = get_take xs i m y (omega arith) e

pub get_map : (xs : List CodeEnvelope) (i : ℕ) (x : CodeEnvelope) → i < length xs → x ≡ get_or xs i x →
    slice_get (map plain_envelope xs) i ≡ Some (plain_envelope x)
get_map [] i x lt is = absurd (omega arith)
get_map (y ∷ xs) zero x lt is = ap (λ (v : CodeEnvelope). Some (plain_envelope v)) (sym is)
get_map (y ∷ xs) (suc i) x lt is = get_map xs i x (omega arith) is

take_plain : (i : ℕ) (xs : List CodeEnvelope) → take i (map plain_envelope xs) ≡ map plain_envelope (take i xs)
take_plain zero xs = refl
take_plain (suc i) [] = refl
take_plain (suc i) (x ∷ xs) = ap (λ vs. plain_envelope x ∷ vs) (take_plain i xs)

pub first_wanted : (taken : List Envelope) (receiver : Id) (xs : List CodeEnvelope) (i : ℕ) (x : CodeEnvelope) → i < length xs → x ≡ get_or xs i x →
    HasNoWanted taken receiver (map plain_envelope (take i xs)) → IsWanted taken receiver (plain_envelope x) →
    IsFirstWanted taken receiver (map plain_envelope xs) (plain_envelope x)
first_wanted taken receiver xs i x lt is none wanted = record {
  n = i;
  there = get_map xs i x lt is;
  wanted = wanted;
  earlier = λ m w less e.
      none.none m w (subst (λ vs. slice_get vs m ≡ Some w) (take_plain i xs) (get_take (map plain_envelope xs) i m w less e));
}
