use Rattle.std.proofs.Common.{ℕ, arith, append_assoc, length-drop, sym}
use Rattle.std.proofs.Math.ListN.{drop_of_length-le}
use Rattle.std.proofs.Math.Seq.{take-add}
use Rattle.std.proofs.lemmas.List.{drop-drop, take_rest}
use Rattle.outside.specs.Writing.Writes.{done, failed, went_on}
use Rattle.outside.proofs.Telling.{Told-then}
use Rattle.outside.proofs.writing.write_all.Goals as goal

pub loop-written-preserved : goal.loop-written-preserved
loop-written-preserved g c = record {
  within = omega (arith, c.in-Took.ensures.size, length-drop {A = ℕ});
  told = Told-then _ _ _ _ _ _ c.loop-written.invariant.told c.in-Took.ensures.bytes
      (λ xs ys zs was now. rw (take-add c.loop-written.written c.in-Took.count, ← append_assoc, ← was) (rw take_rest at now));
  calls = λ end after rest. c.loop-written.invariant.calls end after
      (went_on _ _ _ _ _ c.in-Took.count end (omega (arith, length-drop {A = ℕ})) (rw take_rest at c.in-Took.ensures.step)
      (sym (drop-drop c.in-Took.count c.loop-written.written c.args.bytes.now)) rest);
  count = omega (arith, c.in-Took.ensures.count, c.loop-written.invariant.count);
}

pub returns-in-Failed-clause-calls : goal.returns-in-Failed-clause-calls
returns-in-Failed-clause-calls g c =
    c.loop-written.invariant.calls _ _ (failed _ _ _ _ (omega (arith, length-drop {A = ℕ})) (rw take_rest at c.in-Failed.ensures.step))

pub returns-clause-calls : goal.returns-clause-calls
returns-clause-calls g c = c.loop-written.invariant.calls _ _ (done _ _ (drop_of_length-le c.args.bytes.now (omega arith)))
