use Rattle.std.proofs.Common.{length, ap, arith}
use Rattle.std.proofs.lemmas.List.Elements.{All-from_get_or}
use Rattle.node_mailbox.specs.Pass.{TookOnlyPut, fresh_pass}
use Rattle.node_mailbox.proofs.passes.Passes.join.Goals as goal

pub returns-clause-was_put : goal.returns-clause-was_put
returns-clause-was_put g c =
    let joined = c.join_first.ensures in
    All-from_get_or TookOnlyPut c.join_first.new.self (fresh_pass (0, 0) 0)
    (λ k lt. joined.was_put k (omega (arith, joined.of.count, c.requires.other.count, ap length c.other.view_is)))
