-- The first element that passes a test, sought from the front.
use Rattle.std.proofs.Common.{◌≡◌, ℕ, ◌+◌, ◌<◌, Bool, true, false, cond, Some, None, List, [], ◌∷◌, length, get_or, take, drop, sym, ap, ◌∙◌}
use Rattle.std.specs.List.{find}
use Rattle.std.specs.Option.{option_or}
use Rattle.std.proofs.lemmas.List.{take-append-drop, at_drop_more}
use Rattle.std.proofs.lemmas.List.Folds.{find-append}
use Rattle.overlay_rules.proofs.Prefixes.{take-next}

-- none before it passes, and it does
pub find-here : {A : Type 0} (p : A → Bool) (xs : List A) (i : ℕ) (x : A) → i < length xs → x ≡ get_or xs i x → find p (take i xs) ≡ None →
    p x ≡ true → find p xs ≡ Some x
find-here p xs i x within at before passes =
    let next : drop i xs ≡ x ∷ drop (i + 1) xs = at_drop_more (λ ys. ys) xs i x within ∙ ap (λ y. y ∷ drop (i + 1) xs) (sym at) in
    ap (find p) (sym (take-append-drop i xs)) ∙ find-append p (take i xs) (drop i xs)
    ∙ ap (λ o. option_or o (find p (drop i xs))) before ∙ ap (find p) next ∙ ap (λ b. cond b (Some x) (find p (drop (i + 1) xs))) passes

-- none before it passes, nor does it
pub find-past : {A : Type 0} (p : A → Bool) (xs : List A) (i : ℕ) (x : A) → i < length xs → x ≡ get_or xs i x → find p (take i xs) ≡ None →
    p x ≡ false → find p (take (i + 1) xs) ≡ None
find-past p xs i x within at before fails =
    ap (find p) (take-next xs i x within at) ∙ find-append p (take i xs) (x ∷ []) ∙ ap (λ o. option_or o (find p (x ∷ []))) before
    ∙ ap (λ b. cond b (Some x) None) fails
