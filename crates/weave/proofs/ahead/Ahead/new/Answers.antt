use Rattle.std.proofs.Common.{IfSome}
use Rattle.weave.specs.declared.ahead.Sight.{Sight}
use Rattle.weave.specs.Table.{HasNoneSuch}
use Rattle.weave.proofs.Tabling.{all_same, unguessed}
use Rattle.weave.proofs.ahead.Ahead.new.Goals as goal

pub returns : goal.returns
returns c = λ vs. all_same (λ (s : Sight). IfSome s.guess (HasNoneSuch vs s.stamp s.mark)) c.none.result (unguessed vs c.none.result c.none.ensures) 32
