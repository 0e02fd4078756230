use Rattle.std.proofs.Common.{◌≡◌, ◌≤◌, ◌++◌, ◌-◌, length, take, drop, Result}
use Rattle.outside.specs.Told.{Told}
use Rattle.outside.specs.Writing.{Writes}
use Rattle.outside.specs.declared.writing.WriteFault.{WriteFault}
use Rattle.outside.proofs.writing.write_all.Given as goal

abbrev pub invariant-loop-written : goal.invariant-loop-written
invariant-loop-written g l = record {
  within : l.written ≤ length l.bytes;
  told : Told (g.K.Sink.taken l.initial.sink) (g.K.Sink.taken l.sink) (λ before after. after ≡ before ++ take l.written l.bytes);
  calls : (end : Result Unit WriteFault) (after : _) → Writes g.K.Sink.takes l.sink (drop l.written l.bytes) end after →
      Writes g.K.Sink.takes l.initial.sink l.bytes end after;
  count : g.K.Sink.faults l.initial.sink ≤ g.K.Sink.faults l.sink;
}

abbrev pub decreases-loop-written : goal.decreases-loop-written
decreases-loop-written g l = length l.bytes - l.written
