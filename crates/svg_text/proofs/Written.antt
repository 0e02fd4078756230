-- Texts written one behind another, the last of which may be refused.
use Rattle.std.proofs.Common.{◌≡◌, ℕ, List, ◌++◌, ap, ◌∙◌, append_assoc}
use Rattle.std.specs.Prelude.{Result, Ok, Err, OnOk}

pub two_written : {X E : Type 0} (r : Result X E) (old one new a b : List ℕ) → one ≡ old ++ a → OnOk r (new ≡ one ++ b) → OnOk r (new ≡ old ++ (a ++ b))
two_written (Ok x) old one new a b first last = last ∙ ap (λ t. t ++ b) first ∙ append_assoc old a b
two_written (Err e) old one new a b first last = tt

pub three_written : {X E : Type 0} (r : Result X E) (old one two new a b c : List ℕ) → one ≡ old ++ a → two ≡ one ++ b → OnOk r (new ≡ two ++ c) →
    OnOk r (new ≡ old ++ (a ++ b ++ c))
three_written r old one two new a b c first second last =
    two_written r old two new (a ++ b) c (second ∙ ap (λ t. t ++ b) first ∙ append_assoc old a b) last

pub four_written : {X E : Type 0} (r : Result X E) (old one two three new a b c d : List ℕ) → one ≡ old ++ a → two ≡ one ++ b → three ≡ two ++ c →
    OnOk r (new ≡ three ++ d) → OnOk r (new ≡ old ++ (a ++ b ++ c ++ d))
four_written r old one two three new a b c d first second third last =
    three_written r old two three new (a ++ b) c d (second ∙ ap (λ t. t ++ b) first ∙ append_assoc old a b) third last
