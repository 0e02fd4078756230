use Rattle.std.proofs.Common.{◌≡◌, ◌<◌, ◌-◌, ◌++◌, ℕ, List, Result, Ok, Err, IsErrAnd, min, vec_len, length, take, drop, length-take, append_assoc, subst, sym}
use Rattle.std.proofs.Common.{ap, ◌∙◌, arith}
use Rattle.std.proofs.lemmas.List.{take-append-le}
use Rattle.outside.specs.Reading.{Offers, Reads, outcome_of}
use Rattle.outside.specs.Reading.Reads.{enough, ended, failed, refused, went_on}
use Rattle.outside.specs.declared.reading.ReadFault.{ReadFault}
use Rattle.outside.specs.declared.reading.ReadFault.TheVariants.{OutOfMemory}
use Rattle.outside.proofs.Telling.{Told-then}
use Rattle.outside.proofs.reading.read_to_limit.Goals as goal

-- the part of the buffer that is lent to a call is what the definition says
offers : (buf : List ℕ) (read most room : ℕ) → length buf ≡ 65536 → read < most → room ≡ min 65536 (most - read) → Offers read most (length (take room buf))
offers buf read most room whole short is = record { wants = short; asks = omega (arith, length-take room buf) }

-- what holds of want of memory holds of the fault that `?` hands on
at_refusal : {V : Type 0} (size : V → ℕ) (r : Result V ReadFault) (P : Result ℕ ReadFault → Type 0) → IsErrAnd r (λ fault. fault ≡ OutOfMemory) →
    P (Err OutOfMemory) → P (outcome_of size r)
at_refusal size (Ok v) P is p = absurd is
at_refusal size (Err fault) P is p = subst (λ e. P (Err e)) (sym is) p

pub loop-buf-preserved : goal.loop-buf-preserved
loop-buf-preserved g c =
    let appended = c.in_ok-extend_from_slice-in-Got.ensures in
    let front = take-append-le c.in-Got.count c.read_some.new.buf (drop c.min-room.result c.loop-buf.buf) (omega (arith, c.in-Got.ensures.size)) in
    record {
      limit = omega (arith, appended.len, c.in-Got.ensures.size, length-take {A = ℕ});
      told = Told-then _ _ _ _ _ _ c.loop-buf.invariant.told c.in-Got.ensures.bytes
          (λ xs ys zs was now. rw (appended.items, front, append_assoc) (was ∙ ap (λ tail. c.loop-buf.read.items ++ tail) now));
      calls = λ outcome after rest. c.loop-buf.invariant.calls outcome after
          (went_on _ _ _ _ _ c.in-Got.count outcome (offers _ _ _ _ (omega arith) (omega arith) (omega arith)) c.in-Got.ensures.step
          (subst (λ read. Reads g.S.Source.gives c.args.most c.read_some.new.self read outcome after)
          (omega (arith, appended.len, c.in-Got.ensures.size, length-take {A = ℕ})) rest));
      count = omega (arith, c.in-Got.ensures.count, c.loop-buf.invariant.count);
    }

pub returns-in_err-extend_from_slice-in-Got-clause-calls : goal.returns-in_err-extend_from_slice-in-Got-clause-calls
returns-in_err-extend_from_slice-in-Got-clause-calls g c =
    at_refusal vec_len c.from_residual.result
    (λ outcome. Reads g.S.Source.gives c.args.most c.args.source.now 0 outcome c.read_some.new.self) c.from_residual.ensures.1
    (c.loop-buf.invariant.calls _ _ (refused _ _ _ _ c.in-Got.count (offers _ _ _ _ (omega arith) (omega arith) (omega arith)) c.in-Got.ensures.step))

pub returns-in-End-clause-calls : goal.returns-in-End-clause-calls
returns-in-End-clause-calls g c =
    c.loop-buf.invariant.calls _ _ (ended _ _ _ _ (offers _ _ _ _ (omega arith) (omega arith) (omega arith)) c.in-End.ensures.step)

pub returns-in-Failed-clause-calls : goal.returns-in-Failed-clause-calls
returns-in-Failed-clause-calls g c =
    c.loop-buf.invariant.calls _ _ (failed _ _ _ _ (offers _ _ _ _ (omega arith) (omega arith) (omega arith)) c.in-Failed.ensures.step)

pub returns-clause-calls : goal.returns-clause-calls
returns-clause-calls g c = c.loop-buf.invariant.calls _ _ (enough _ _ (omega arith))
