-- Groups that are written: their beginning, what stands in them, and their end.
use Rattle.std.proofs.Common.{◌≡◌, ℕ, List, ◌++◌, ap, ◌∙◌, append_assoc}
use Rattle.std.specs.Prelude.{Result, Ok, Err, OnOk}

-- three texts, of which the first two are known by equations
pub grouped : {X E : Type 0} (r : Result X E) (old one two new a due b inner c : List ℕ) → a ≡ due → b ≡ inner → one ≡ old ++ a → two ≡ one ++ b →
    OnOk r (new ≡ two ++ c) → OnOk r (new ≡ old ++ (due ++ (inner ++ c)))
grouped (Ok x) old one two new a due b inner c first second begun more last =
    last ∙ ap (λ t. t ++ c) (more ∙ ap (λ t. t ++ b) begun) ∙ ap (λ t. t ++ c) (append_assoc old a b) ∙ append_assoc old (a ++ b) c
    ∙ ap (λ t. old ++ t) (append_assoc a b c ∙ ap (λ t. t ++ (b ++ c)) first ∙ ap (λ t. due ++ (t ++ c)) second)
grouped (Err e) old one two new a due b inner c first second begun more last = tt

-- a group in a group
pub twice_grouped : {X E : Type 0} (r : Result X E) (old one two three four new a first b second d inner e : List ℕ) → a ≡ first → b ≡ second → d ≡ inner →
    one ≡ old ++ a → two ≡ one ++ b → three ≡ two ++ d → four ≡ three ++ e → OnOk r (new ≡ four ++ e) →
    OnOk r (new ≡ old ++ (first ++ ((second ++ (inner ++ e)) ++ e)))
twice_grouped r old one two three four new a first b second d inner e a_is b_is d_is begun turned drawn closed last =
    grouped r old one four new a first (b ++ (d ++ e)) (second ++ (inner ++ e)) e a_is
    (ap (λ t. t ++ (d ++ e)) b_is ∙ ap (λ t. second ++ (t ++ e)) d_is) begun
    (closed ∙ ap (λ t. t ++ e) (drawn ∙ ap (λ t. t ++ d) turned) ∙ ap (λ t. t ++ e) (append_assoc one b d) ∙ append_assoc one (b ++ d) e
    ∙ ap (λ t. one ++ t) (append_assoc b d e))
    last

pub on_ok : {X E : Type 0} (r : Result X E) {P Q : Type 0} → OnOk r P → (P → Q) → OnOk r Q
on_ok (Ok x) first then = then first
on_ok (Err e) first then = tt
