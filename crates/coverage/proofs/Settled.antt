-- The law of coverage: between its true neighbours, with no joiner, a node covers a key exactly where it is the closest.
use Rattle.std.proofs.Common.{◌≡◌, ℕ, Bool, true, false, ◌^◌, ◌<◌, List, ◌↔◌, refl, inl, inr}
use Rattle.std.specs.List.{Contains}
use Rattle.ring_math.specs.Members.{IsClosest, IsSucc, IsPred, InRing}
use Rattle.coverage.specs.Coverage.{covers_of, settled}
use Rattle.coverage.proofs.Owner.{IsEnded, EndsRight, Owns, covers, keeps, covers_closest, closest_owns}

settled_side : (right : Bool) (P : ℕ → Type 0) (x l r : ℕ) → IsPred P x l → IsSucc P x r → EndsRight right P x (settled x l r)
settled_side true P x l r pl pr = inl pr
settled_side false P x l r pl pr = inl pl

settled_ended : (P : ℕ → Type 0) (x l r : ℕ) → IsPred P x l → IsSucc P x r → IsEnded P x (settled x l r)
settled_ended P x l r pl pr = record { me = refl; side = λ right. settled_side right P x l r pl pr }

pub settled-closest : (P : ℕ → Type 0) (x l r key : ℕ) → InRing P → key < 2 ^ 128 → P x → IsPred P x l → IsSucc P x r →
    covers_of (settled x l r) key ≡ true → IsClosest P key x
settled-closest P x l r key range hk px pl pr h = covers_closest P x key (settled x l r) range hk px (settled_ended P x l r pl pr) h

-- nobody joins, so nothing is kept
settled_covers : (P : ℕ → Type 0) (x l r key : ℕ) → Owns P (settled x l r) key → covers_of (settled x l r) key ≡ true
settled_covers P x l r key (covers h) = h
settled_covers P x l r key (keeps j h) = elim h.joiner [ inl e ↦ cc | inr e ↦ cc ]

pub closest-settled : (P : ℕ → Type 0) (x l r key : ℕ) → InRing P → key < 2 ^ 128 → IsPred P x l → IsSucc P x r →
    IsClosest P key x → covers_of (settled x l r) key ≡ true
closest-settled P x l r key range hk pl pr c = settled_covers P x l r key (closest_owns P x key (settled x l r) range hk (settled_ended P x l r pl pr) c)

pub settled_law : (xs : List ℕ) (x l r key : ℕ) → InRing (Contains xs) → key < 2 ^ 128 → Contains xs x → IsPred (Contains xs) x l →
    IsSucc (Contains xs) x r →
    (covers_of (settled x l r) key ≡ true) ↔ IsClosest (Contains xs) key x
settled_law xs x l r key range hk px pl pr =
    (settled-closest (Contains xs) x l r key range hk px pl pr, closest-settled (Contains xs) x l r key range hk pl pr)
