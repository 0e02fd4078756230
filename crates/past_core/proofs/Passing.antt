-- A filter keeps something, where something passes; and that is so of a call that was refused memory.
use Rattle.std.proofs.Common.{◌≡◌, ◌<◌, ℕ, zero, suc, Bool, true, false, List, [], ◌∷◌, filter, length, get_or, Result, Ok, Err, OnErr, refl, sym, ap, ◌∙◌}
use Rattle.std.proofs.Common.{arith}

kept : {A : Type 0} (p : A → Bool) (y : A) (ys : List A) (b : Bool) → p y ≡ b → (filter p ys ≡ [] → ⊥) → filter p (y ∷ ys) ≡ [] → ⊥
kept p y ys true e h f = let g = rw e at f in cc
kept p y ys false e h f = h (rw e at f)

first : {A : Type 0} (p : A → Bool) (y : A) (ys : List A) → p y ≡ true → filter p (y ∷ ys) ≡ [] → ⊥
first p y ys e f = let g = rw e at f in cc

pub some_pass : {A : Type 0} (p : A → Bool) (xs : List A) (i : ℕ) (x : A) → i < length xs → x ≡ get_or xs i x → p x ≡ true → filter p xs ≡ [] → ⊥
some_pass p [] i x l e t = absurd (omega arith)
some_pass p (y ∷ ys) zero x l e t = first p y ys (sym (ap p e) ∙ t)
some_pass p (y ∷ ys) (suc i) x l e t = kept p y ys (p y) refl (some_pass p ys i x (omega arith) e t)

-- what holds anyhow holds where memory was refused
pub on_err : {A E : Type 0} (x : Result A E) (P : Type 0) → P → OnErr x P
on_err (Ok y) P h = tt
on_err (Err e) P h = h
