-- What holds of a call's answer holds of what is expected of it.
use Rattle.std.proofs.Common.{◌≡◌, ◌∙◌, ℕ, Bool, Option, Result, Ok, ap, subst}
use Rattle.std.specs.Prelude.{IfOk, OnOk}
use Rattle.node_cell.specs.declared.carried.Carried.{Carried}
use Rattle.node_cell.specs.Cell.{Cell, empty_cell}

pub expected : {X E : Type 0} (r : Result X E) (x : X) (P : X → Type 0) → r ≡ Ok x → IfOk r P → P x
expected r x P is holds = subst (λ q. IfOk q P) is holds

pub expected_on : {X E : Type 0} (r : Result X E) (x : X) (P : Type 0) → r ≡ Ok x → OnOk r P → P
expected_on r x P is holds = subst (λ q. OnOk q P) is holds

-- a new cell that was given passes is of its node
pub given_node : (cell given : Cell) (x : ℕ) (founder : Bool) (o : Option Carried) → given ≡ record cell { carried = o } → cell ≡ empty_cell x founder →
    given.node ≡ x
given_node cell given x founder o is new = ap (λ (q : Cell). q.node) is ∙ ap (λ (q : Cell). q.node) new
