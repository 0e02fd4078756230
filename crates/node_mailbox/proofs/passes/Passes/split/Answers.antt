use Rattle.std.proofs.Common.{◌≡◌, ◌<◌, ◌+◌, ◌++◌, ◌∷◌, [], length, sym, subst, ap, ◌∙◌, arith}
use Rattle.node_mailbox.specs.Post.{after_joins}
use Rattle.node_mailbox.proofs.Splits.{Splitting, splitting-two, splitting-more, splitting-of, splitting-back, splitting-all, splitting-given, are_of-given}
use Rattle.node_mailbox.proofs.passes.Passes.split.Goals as goal

pub split_one-requires-clause-two : goal.split_one-requires-clause-two
split_one-requires-clause-two g c =
    splitting-two _ _ _ _ c.loop-place.invariant.halfway (omega (arith, ap length c.self.view_is)) c.requires.two

pub join_first-requires-clause-passes : goal.join_first-requires-clause-passes
join_first-requires-clause-passes g c =
    splitting-of _ _ _ _ c.args.post.now c.loop-place.invariant.halfway (omega (arith, ap length c.self.view_is)) c.requires.of

pub returns-in-Err-clause-err : goal.returns-in-Err-clause-err
returns-in-Err-clause-err g c =
    c.join_first.ensures.joined ∙ ap (λ l. after_joins l c.loop-place.passes.items) c.in-Err.ensures.err
    ∙ splitting-back _ _ _ _ c.loop-place.invariant.halfway c.requires.two

pub loop-place-preserved : goal.loop-place-preserved
loop-place-preserved g c =
    let inv = c.loop-place.invariant in
    let within : c.loop-place.place < length c.args.self.now = omega (arith, ap length c.self.view_is) in
    let halfway = splitting-more _ _ _ _ c.split_one.new.self c.in-Ok.pass inv.halfway within c.in-Ok.ensures.old c.in-Ok.ensures.new in
    let added : c.push_reserved.new.self.items ≡ c.loop-place.passes.items ++ c.in-Ok.pass ∷ [] = c.push_reserved.ensures.items in
    record {
      of = c.split_one.ensures.of;
      halfway = subst (λ l. Splitting (c.loop-place.place + 1) c.args.self.now c.split_one.new.self l) (sym added) halfway;
      count = omega (arith, c.push_reserved.ensures.len, inv.count);
      room = omega (arith, c.push_reserved.ensures.capacity, inv.room);
    }

pub returns-clause-old : goal.returns-clause-old
returns-clause-old g c = splitting-all _ _ _ _ c.loop-place.invariant.halfway (omega (arith, ap length c.self.view_is))

pub returns-clause-new : goal.returns-clause-new
returns-clause-new g c = splitting-given _ _ _ _ c.loop-place.invariant.halfway (omega (arith, ap length c.self.view_is))

pub returns-clause-new_of : goal.returns-clause-new_of
returns-clause-new_of g c = are_of-given c.args.self.now c.loop-place.passes.items c.args.post.now (returns-clause-new g c) c.requires.of
