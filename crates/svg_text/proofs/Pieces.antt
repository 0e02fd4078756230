-- Pictures of lists: the text of one element more, and groups.
use Rattle.std.proofs.Common.{◌≡◌, ℕ, ◌+◌, ◌<◌, List, [], ◌∷◌, ◌++◌, length, get_or, take, refl, sym, ap, ◌∙◌, append_assoc}
use Rattle.std.specs.List.{flat_map}
use Rattle.std.proofs.lemmas.List.{append-nil, take_more}
use Rattle.svg_text.specs.Picture.{Picture, text_of, each_of}

-- the text of a list of pictures is that of each, one behind another
pub each-text : {A : Type 0} (draw : A → Picture) (xs : List A) → text_of (each_of draw xs) ≡ flat_map (λ x. text_of (draw x)) xs
each-text draw [] = refl
each-text draw (x ∷ xs) = ap (λ t. text_of (draw x) ++ t) (each-text draw xs)

pub each-append : {A : Type 0} (draw : A → Picture) (xs ys : List A) →
    text_of (each_of draw (xs ++ ys)) ≡ text_of (each_of draw xs) ++ text_of (each_of draw ys)
each-append draw [] ys = refl
each-append draw (x ∷ xs) ys =
    ap (λ t. text_of (draw x) ++ t) (each-append draw xs ys) ∙ sym (append_assoc (text_of (draw x)) (text_of (each_of draw xs)) (text_of (each_of draw ys)))

-- a loop that draws one for each: one element more
pub each_more : {A : Type 0} (draw : A → Picture) (xs : List A) (i : ℕ) (x : A) (old before after : List ℕ) → i < length xs → x ≡ get_or xs i x →
    before ≡ old ++ text_of (each_of draw (take i xs)) → after ≡ before ++ text_of (draw x) → after ≡ old ++ text_of (each_of draw (take (i + 1) xs))
each_more draw xs i x old before after within at so_far more =
    more ∙ ap (λ t. t ++ text_of (draw x)) so_far ∙ append_assoc old (text_of (each_of draw (take i xs))) (text_of (draw x))
    ∙ ap (λ t. old ++ (text_of (each_of draw (take i xs)) ++ t)) (sym (append-nil (text_of (draw x))))
    ∙ ap (λ t. old ++ t) (sym (each-append draw (take i xs) (x ∷ [])))
    ∙ ap (λ ys. old ++ text_of (each_of draw ys)) (sym (take_more xs i x within ∙ ap (λ y. take i xs ++ y ∷ []) (sym at)))
