use Rattle.std.proofs.Common.{◌+◌, ◌*◌, ◌++◌, ◌∙◌, ap, arith}
use Rattle.std.specs.Prelude.{slice_index}
use Rattle.trace_text.proofs.Vectors.{loaded, written_out}
use Rattle.trace_text.proofs.lanes.pairs_at.Goals as goal

pub returns-clause-high : goal.returns-clause-high
returns-clause-high c =
    let both = c.load-first.result ++ c.load-second.result in
    let lanes = written_out (λ k. slice_index both (2 * k)) in
    record {
      long = lanes.long;
      each = λ k h. lanes.each k h ∙ loaded c.load-first.result c.load-second.result c.args.text.now (2 * c.args.place) (2 * k)
          c.load-first.ensures c.load-second.ensures (omega (arith, h)) ∙ ap (λ i. slice_index c.args.text.now i) (omega arith);
    }

pub returns-clause-low : goal.returns-clause-low
returns-clause-low c =
    let both = c.load-first.result ++ c.load-second.result in
    let lanes = written_out (λ k. slice_index both (2 * k + 1)) in
    record {
      long = lanes.long;
      each = λ k h. lanes.each k h ∙ loaded c.load-first.result c.load-second.result c.args.text.now (2 * c.args.place) (2 * k + 1)
          c.load-first.ensures c.load-second.ensures (omega (arith, h)) ∙ ap (λ i. slice_index c.args.text.now i) (omega arith);
    }
