-- Texts that grow at their end.
use Rattle.std.proofs.Common.{◌≡◌, ℕ, List, ◌++◌, sym, ◌∙◌, ap, append_assoc}

-- a text with this behind it
pub record Grown (text done after : List ℕ) : Type 0 where
  pub is : after ≡ text ++ done

pub grown_more : {text done before after : List ℕ} → Grown text done before → (more : List ℕ) → after ≡ before ++ more → Grown text (done ++ more) after
grown_more {text} {done} grown more is = record { is = rw (is, grown.is) (append_assoc text done more) }

-- a word, and then a number
pub grown_pair : {text done before after : List ℕ} → Grown text done before → (word number : List ℕ) → after ≡ before ++ (word ++ number) →
    Grown text (done ++ word ++ number) after
grown_pair {text} {done} grown word number is =
    record { is = (grown_more grown (word ++ number) is).is ∙ ap (λ xs. text ++ xs) (sym (append_assoc done word number)) }
