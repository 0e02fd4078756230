-- What a loop over a list has written, and what it found of the items, with one item more.
use Rattle.std.proofs.Common.{◌≡◌, ℕ, ◌+◌, ◌<◌, ◌≤◌, ◌↔◌, Bool, true, false, IsTrue, List, [], ◌∷◌, ◌++◌, length, map, take, get_or, sym, ap, subst, ◌∙◌, arith}
use Rattle.std.specs.Bool.{OnTrue}
use Rattle.std.specs.List.{flat_map, AllByRecursion}
use Rattle.std.proofs.lemmas.List.{take_more, flat_map_more, map_more, length-map, length-take}

pub AllByRecursion-append : {X : Type 0} (P : X → Type 0) (xs ys : List X) → AllByRecursion P xs → AllByRecursion P ys → AllByRecursion P (xs ++ ys)
AllByRecursion-append P [] ys here there = there
AllByRecursion-append P (x ∷ xs) ys here there = (here.0, AllByRecursion-append P xs ys here.1 there)

pub fits_more : {X : Type 0} (P : X → Type 0) (xs : List X) (i : ℕ) (x : X) → i < length xs → x ≡ get_or xs i x
    → AllByRecursion P (take i xs) → P x → AllByRecursion P (take (i + 1) xs)
fits_more {X} P xs i x within is before here =
    let more : take (i + 1) xs ≡ take i xs ++ x ∷ [] = take_more xs i x within ∙ ap (λ (y : X). take i xs ++ y ∷ []) (sym is) in
    subst (AllByRecursion P) (sym more) (AllByRecursion-append P (take i xs) (x ∷ []) before (here, tt))

pub written_more : {X : Type 0} (f : X → List ℕ) (xs : List X) (i : ℕ) (x : X) (front before after : List ℕ) → i < length xs → x ≡ get_or xs i x
    → before ≡ front ++ flat_map f (take i xs) → after ≡ before ++ f x → after ≡ front ++ flat_map f (take (i + 1) xs)
written_more {X} f xs i x front before after within is so_far step =
    let more : take (i + 1) xs ≡ take i xs ++ x ∷ [] = take_more xs i x within ∙ ap (λ (y : X). take i xs ++ y ∷ []) (sym is) in
    step ∙ ap (λ (bytes : List ℕ). bytes ++ f x) so_far ∙ flat_map_more f front (take i xs) x ∙ ap (λ (ys : List X). front ++ flat_map f ys) (sym more)

-- what a list that takes n items has after one push more than i
pub pushed_more : {X : Type 0} (f : X → ℕ) (xs : List X) (i n : ℕ) (d : X) (y : ℕ) (old new : List ℕ) (pushed : Bool) → length xs ≤ n → i < length xs
    → old ≡ map f (take i xs) → y ≡ f (get_or xs i d) → IsTrue pushed ↔ (length old < n) → OnTrue pushed (new ≡ old ++ y ∷ [])
    → new ≡ map f (take (i + 1) xs)
pushed_more {X} f xs i n d y old new true fits within so_far y_is answer then =
    then ∙ ap (λ (front : List ℕ). front ++ y ∷ []) so_far ∙ ap (λ (z : ℕ). map f (take i xs) ++ z ∷ []) y_is ∙ sym (map_more f xs i d within)
pushed_more {X} f xs i n d y old new false fits within so_far y_is answer then =
    let room : length old < n = omega (arith, ap length so_far, length-map (take i xs) f, length-take i xs) in
    let no : false ≡ true = answer.1 room in
    absurd cc
