-- A document that is written: its beginning, both sides, and its end.
use Rattle.std.proofs.Common.{◌≡◌, ℕ, List, ◌++◌, ap, ◌∙◌, append_assoc}
use Rattle.std.specs.Prelude.{Result, Ok, Err, OnOk}

pub document_written : {X E : Type 0} (r : Result X E) (old one two three new a head left right end : List ℕ) → a ≡ head → one ≡ old ++ a →
    two ≡ one ++ left → three ≡ two ++ right → OnOk r (new ≡ three ++ end) → OnOk r (new ≡ old ++ (head ++ ((left ++ right) ++ end)))
document_written (Ok x) old one two three new a head left right end same begun drawn all last =
    last ∙ ap (λ t. t ++ end) (all ∙ ap (λ t. t ++ right) (drawn ∙ ap (λ t. t ++ left) begun))
    ∙ ap (λ t. t ++ end) (append_assoc (old ++ a) left right) ∙ append_assoc (old ++ a) (left ++ right) end
    ∙ append_assoc old a ((left ++ right) ++ end) ∙ ap (λ t. old ++ (t ++ ((left ++ right) ++ end))) same
document_written (Err e) old one two three new a head left right end same begun drawn all last = tt
