use Rattle.std.proofs.Common.{List, subst, sym}
use Rattle.node_mailbox.specs.Pass.{PassView}
use Rattle.node_mailbox.specs.Post.{AreOf}
use Rattle.node_mailbox.proofs.Posts.{are_of-set}
use Rattle.node_mailbox.proofs.passes.Passes.take.Goals as goal

pub returns-clause-of : goal.returns-clause-of
returns-clause-of g c =
    let Are : List PassView → Type 0 = λ passes. AreOf passes c.args.post.now in
    are_of-set c.self.inside.passes.items c.args.post.now c.args.place c.index_mut-pass.result.now c.take.new.pass
    (subst Are (sym c.self.view_is) c.requires.of) c.take.ensures.mailbox c.index_mut-pass.ensures.value
