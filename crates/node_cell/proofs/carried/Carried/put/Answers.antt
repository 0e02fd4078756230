use Rattle.std.proofs.Common.{◌≡◌, ◌∙◌, ◌<◌, ◌+◌, ◌-◌, ℕ, length, refl, ap, arith}
use Rattle.node_cell.specs.declared.carried.Carried.{Carried}
use Rattle.node_cell.specs.Posting.{with_puts}
use Rattle.node_cell.proofs.Putting.{with_puts-more}
use Rattle.node_cell.proofs.carried.Carried.put.Goals as goal
use Rattle.node_cell.proofs.carried.Carried.put.Goals.{then-self-copies+in_ok-put, else-self-copies}

pub returns-clause-ok : goal.returns-clause-ok
returns-clause-ok g c =
    let old : Carried = c.args.self.now in
    let now : Carried = c.put_copies.new.self in
    let place : ℕ = c.args.place in
    let n : ℕ = c.in-Ok.ensures.put.0 in
    let few = c.in-Ok.ensures.put.1 in
    let is : now ≡ with_puts place c.args.frame n (old.copies + n) old = c.in-Ok.ensures.put.2 in
    let counted : now.copies ≡ old.copies + n = ap (λ (k : Carried). k.copies) is in
    let lt : place < length old.passes = omega (arith, c.requires.of.count, c.requires.place) in
    elim c.if-self-copies.branch [
      | then-self-copies+in_ok-put w ↦
          let all : n + 1 ≡ c.args.copies - old.copies = omega (arith, counted, few, c.in-Ok.ensures.ok, w.if-self-copies.true, c.requires.copies) in
          ap (λ (k : Carried). record k { copies = 0 }) w.self-is
          ∙ with_puts-more place c.args.frame c.args.frame n (old.copies + n) 0 old now w.put.new.self lt is w.in_ok-put.ensures.ok refl
          ∙ ap (λ k. with_puts place c.args.frame k 0 old) all
      | else-self-copies w ↦
          let all : n ≡ c.args.copies - old.copies = omega (arith, counted, few, w.if-self-copies.false, c.requires.copies) in
          ap (λ (k : Carried). record k { copies = 0 }) (w.self-is ∙ is) ∙ ap (λ k. with_puts place c.args.frame k 0 old) all
    ]
