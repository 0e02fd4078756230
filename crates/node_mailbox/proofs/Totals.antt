-- Totals over all passes of a mailbox: what a change of one pass does to them, and what they are where one pass has all the
-- parts. The steps of the rule rest on both.
use Rattle.std.proofs.Common.{◌≡◌, ◌≤◌, ℕ, zero, suc, ◌+◌, List, [], ◌∷◌, set, sym, refl, ap, arith}
use mathlib.Core.Option.{some, some-ne-none, some-injective}
use lib.ListN.{get_elem?}
use Rattle.std.specs.Prelude.{All}
use Rattle.std.specs.List.{sum_by}
use Rattle.std.proofs.lemmas.List.Elements.{All-set}
use Rattle.std.proofs.lemmas.List.Sums.{sum_by-cons, sum_by-le, get_or-le-sum_by}
use Rattle.node_mailbox.specs.declared.hand.Hand.{Hand}
use Rattle.node_mailbox.specs.Rule.{hand, all_parts}

-- a pass that was changed is the new one
pub at-set : (passes : List Hand) (port : ℕ) (old new : Hand) → get_elem? passes port ≡ some old → get_elem? (set passes port new) port ≡ some new
at-set [] port old new at = absurd (some-ne-none old (sym at))
at-set (p ∷ ps) zero old new at = refl
at-set (p ∷ ps) (suc port) old new at = at-set ps port old new at

-- the total after a change of one pass
pub total-set : (f : Hand → ℕ) (passes : List Hand) (port : ℕ) (old new : Hand) → get_elem? passes port ≡ some old
    → sum_by f (set passes port new) + f old ≡ sum_by f passes + f new
total-set f [] port old new at = absurd (some-ne-none old (sym at))
total-set f (p ∷ ps) zero old new at =
    let same : f p ≡ f old = ap f (some-injective p old at) in omega (arith, sum_by-cons f new ps, sum_by-cons f p ps)
total-set f (p ∷ ps) (suc port) old new at =
    let rest = total-set f ps port old new at in omega (arith, sum_by-cons f p (set ps port new), sum_by-cons f p ps)

-- where no pass has parts, nothing was done
total-none : (f : Hand → ℕ) (passes : List Hand) → All (λ (p : Hand). p.parts ≡ 0 → f p ≡ 0) passes → all_parts passes ≡ 0 → sum_by f passes ≡ 0
total-none f passes idle none =
    let each : All (λ (p : Hand). f p ≤ 0) passes = λ k d lt.
    let part = get_or-le-sum_by (λ (p : Hand). p.parts) passes k d lt in let e = idle k d lt (omega arith) in omega arith in
    let bound = sum_by-le f 0 passes each in omega arith

-- where one pass has all the parts, the total is its own
pub total-alone : (f : Hand → ℕ) (passes : List Hand) (port : ℕ) (v : Hand) → All (λ (p : Hand). p.parts ≡ 0 → f p ≡ 0) passes → f (hand 0 [] []) ≡ 0
    → get_elem? passes port ≡ some v → all_parts passes ≡ v.parts → sum_by f passes ≡ f v
total-alone f passes port v idle spent at all =
    let z : Hand = hand 0 [] [] in
    let parts = total-set (λ (p : Hand). p.parts) passes port v z at in
    let others = All-set (λ (p : Hand). p.parts ≡ 0 → f p ≡ 0) passes port z (λ _. spent) idle in
    let rest : sum_by f (set passes port z) ≡ 0 = total-none f (set passes port z) others (omega arith) in
    let total = total-set f passes port v z at in omega arith
