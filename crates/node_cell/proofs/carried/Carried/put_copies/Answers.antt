use Rattle.std.proofs.Common.{◌≡◌, ◌∙◌, ◌<◌, ◌+◌, ℕ, length, ap, arith}
use Rattle.node_cell.specs.declared.carried.Carried.{Carried}
use Rattle.node_cell.specs.Posting.{with_puts}
use Rattle.node_cell.proofs.Putting.{with_puts-more}
use Rattle.node_cell.proofs.carried.Carried.put_copies.Goals as goal

pub loop-self-preserved : goal.loop-self-preserved
loop-self-preserved g c =
    let old : Carried = c.args.self.now in
    let now : Carried = c.loop-self.self in
    let place : ℕ = c.args.place in
    let n : ℕ = c.loop-self.invariant.put.0 in
    let is : now ≡ with_puts place c.args.frame.now n (old.copies + n) old = c.loop-self.invariant.put.2 in
    let counted : now.copies ≡ old.copies + n = ap (λ (k : Carried). k.copies) is in
    let lt : place < length old.passes = omega (arith, c.requires.of.count, c.requires.place) in
    let more : now.copies + 1 ≡ old.copies + (n + 1) = omega (arith, counted) in
    record {
      of = c.put.ensures.of;
      put = (
        n + 1,
        omega (arith, counted, c.loop-self-test.true),
        with_puts-more place c.args.frame.now c.in_ok-copy.copy n (old.copies + n) (now.copies + 1) old now c.put.new.self lt is c.in-Ok.ensures.ok
            (c.in_ok-copy.ensures ∙ c.as_slice.ensures)
            ∙ ap (λ k. with_puts place c.args.frame.now (n + 1) k old) more,
      );
    }
