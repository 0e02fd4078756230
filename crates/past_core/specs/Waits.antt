-- What the pending inserts of a node are seen as, and what becomes of the one at a place.
use Rattle.std.specs.Prelude.{ℕ, suc, Option, Some, None, List, ◌∷◌, ◌++◌, take, drop, slice_get}
use Rattle.ring_math.specs.Names.{Id, Number}
use Rattle.overlay_rules.specs.declared.request.Pending.{Pending}

pub record Waits : Type 0 where
  pub asks : List Pending
  pub room : ℕ

-- the command of an insert, by its origin and number
abbrev pub ask_of : Pending → Id × Number
ask_of p = (p.origin, p.number)

-- without the one at this place
abbrev pub taken_out : List Pending → ℕ → List Pending
taken_out ps place = take place ps ++ drop (suc place) ps

-- the one at this place awaits only these now
abbrev pub heard_in : List Pending → ℕ → List Id → Option Pending → List Pending
heard_in ps place awaited None = ps
heard_in ps place awaited (Some p) = take place ps ++ record p { awaited = awaited } ∷ drop (suc place) ps

abbrev pub heard_at : List Pending → ℕ → List Id → List Pending
heard_at ps place awaited = heard_in ps place awaited (slice_get ps place)
