use Rattle.std.proofs.Common.{◌≤◌, subst, sym}
use Rattle.node_mailbox.specs.Pass.{PassView}
use Rattle.node_mailbox.proofs.Steps.{forks}
use Rattle.node_mailbox.proofs.mailbox.Mailbox.split.Goals as goal

pub another-pass-requires-clause-rule : goal.another-pass-requires-clause-rule
another-pass-requires-clause-rule g c = let HasTwo : PassView → Type 0 = λ v. 2 ≤ v.parts in forks _ _ (subst HasTwo (sym c.pass.view_is) c.requires.two)
