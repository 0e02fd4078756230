-- What holds of each entry, with one entry more.
use Rattle.std.proofs.Common.{Bool, false, Some, List, [], ◌∷◌, ◌++◌, All, refl}
use Rattle.std.specs.Bool.{Decides}
use Rattle.std.proofs.lemmas.Bool.Decides.{Decides-like}
use Rattle.std.proofs.lemmas.List.Elements.{All-push, All-pop}

pub All-both : {X : Type 0} (P Q : X → Type 0) (xs : List X) → All P xs → All Q xs → All (λ x. P x × Q x) xs
All-both P Q xs h k = λ i d l. (h i d l, k i d l)

pub All-parts : {X : Type 0} (P : X → Type 0) (xs : List X) (x : X) → All P (xs ++ x ∷ []) → All P xs × P x
All-parts P xs x h = All-pop P (xs ++ x ∷ []) xs (Some x) refl h

-- the test stays, where it holds of the new one
pub Decides-kept : {X : Type 0} (P : X → Type 0) (xs : List X) (x : X) (a : Bool) → P x → Decides a (All P xs) → Decides a (All P (xs ++ x ∷ []))
Decides-kept P xs x a p h = Decides-like a (λ all. All-push P xs x all p) (λ all. (All-parts P xs x all).0) h

-- the test fails, where it does not hold of the new one
pub Decides-lost : {X : Type 0} (P : X → Type 0) (xs : List X) (x : X) → (P x → ⊥) → Decides false (All P (xs ++ x ∷ []))
Decides-lost P xs x fails = (λ e. cc, λ all. absurd (fails (All-parts P xs x all).1))
