use Rattle.std.proofs.Common.{◌≡◌, IfSome, List, length}
use Rattle.std.specs.List.{AllWithin}
use Rattle.wire_msg.specs.Words.{Envelope}
use Rattle.weave.specs.declared.ahead.Sight.{Sight}
use Rattle.weave.specs.Table.{HasNoneSuch, IsTableOf}
use Rattle.weave.proofs.ahead.Ahead.guess_all.Given as goal

-- it was guessed where what the first take in stands
abbrev pub invariant-loop-number : goal.invariant-loop-number
invariant-loop-number l = record {
  size : length l.self.sights ≡ 32;
  guessed : (vs : List Envelope) → IsTableOf l.starts vs → AllWithin (λ (s : Sight). IfSome s.guess (HasNoneSuch vs s.stamp s.mark)) l.self.sights 0 l.number;
}
