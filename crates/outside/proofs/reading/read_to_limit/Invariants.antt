use Rattle.std.proofs.Common.{◌≡◌, ◌≤◌, ◌++◌, ◌-◌, vec_len, ℕ, Result}
use Rattle.outside.specs.Reading.{Reads}
use Rattle.outside.specs.Told.{Told}
use Rattle.outside.specs.declared.reading.ReadFault.{ReadFault}
use Rattle.outside.proofs.reading.read_to_limit.Given as goal

abbrev pub invariant-loop-buf : goal.invariant-loop-buf
invariant-loop-buf g l = record {
  limit : vec_len l.read ≤ l.most;
  told : Told (g.S.Source.left l.initial.source) (g.S.Source.left l.source) (λ before after. before ≡ l.read.items ++ after);
  calls : (outcome : Result ℕ ReadFault) (after : _) → Reads g.S.Source.gives l.most l.source (vec_len l.read) outcome after →
      Reads g.S.Source.gives l.most l.initial.source 0 outcome after;
  count : g.S.Source.faults l.initial.source ≤ g.S.Source.faults l.source;
}

abbrev pub decreases-loop-buf : goal.decreases-loop-buf
decreases-loop-buf g l = l.most - vec_len l.read
