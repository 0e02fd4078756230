-- Lines that are written one by one.
use Rattle.std.proofs.Common.{◌≡◌, ◌<◌, ◌+◌, ◌++◌, ◌∷◌, ◌∙◌, ℕ, List, [], length, take, get_or, ap, sym, append_assoc}
use Rattle.std.specs.List.{flat_map}
use Rattle.std.proofs.lemmas.List.{take_more}
use Rattle.node_cell.proofs.Carrying.{flat_map-push}

-- one line more is written
pub one_more : {X : Type 0} (line : X → List ℕ) (start before after : List ℕ) (xs : List X) (i : ℕ) (x : X) →
    before ≡ start ++ flat_map line (take i xs) → i < length xs → x ≡ get_or xs i x → after ≡ before ++ line x →
    after ≡ start ++ flat_map line (take (i + 1) xs)
one_more line start before after xs i x so_far lt is more =
    more ∙ ap (λ (t : List ℕ). t ++ line x) so_far ∙ append_assoc start (flat_map line (take i xs)) (line x)
    ∙ ap (λ (ls : List ℕ). start ++ ls) (sym (flat_map-push line (take i xs) x))
    ∙ ap (λ ys. start ++ flat_map line ys) (ap (λ y. take i xs ++ y ∷ []) is ∙ sym (take_more xs i x lt))

-- three parts, one after another
pub three_parts : (start a b c first second third : List ℕ) → first ≡ start ++ a → second ≡ first ++ b → third ≡ second ++ c →
    third ≡ start ++ (a ++ b ++ c)
three_parts start a b c first second third e f g =
    g ∙ ap (λ t. t ++ c) (f ∙ ap (λ t. t ++ b) e ∙ append_assoc start a b) ∙ append_assoc start (a ++ b) c
