use Rattle.std.proofs.Common.{◌≡◌, ◌<◌, ◌≤◌, ◌+◌, ℕ, List, [], ◌∷◌, ◌++◌, length, sym, subst, ap, ◌∙◌, arith}
use Rattle.std.proofs.lemmas.List.{length-append, nil_from_length}
use Rattle.node_mailbox.specs.Pass.{PassView, TookOnlyPut, after_join}
use Rattle.node_mailbox.specs.Post.{AreOfFirst, pass_at, after_joins}
use Rattle.node_mailbox.proofs.Joins.{joins-nil, joins-step, are_of_first-pop, took_only_put-more}
use Rattle.node_mailbox.proofs.passes.Passes.join_first.Goals as goal

pub loop-pass-preserved : goal.loop-pass-preserved
loop-pass-preserved g c =
    let inv = c.loop-pass.invariant in
    let now : List PassView = c.loop-pass.self in
    let end : List PassView = after_joins c.args.self.now c.args.passes.items in
    let rest : List PassView = c.pop.new.self.items in
    let last : PassView = c.in-Some.pass in
    let popped : c.loop-pass.passes.items ≡ rest ++ last ∷ [] = c.in-Some.ensures.items in
    let of_first : AreOfFirst (rest ++ last ∷ []) c.args.post.now = subst (λ l. AreOfFirst l c.args.post.now) popped inv.passes in
    let joined : after_joins now (rest ++ last ∷ []) ≡ end = subst (λ l. after_joins now l ≡ end) popped inv.joined in
    let at : c.len.result ≡ length rest = omega arith in
    let place : ℕ = c.len.result in
    let behind : (k : ℕ) → place + 1 ≤ k → k < length c.args.passes.items → TookOnlyPut (pass_at now k) = λ k from below.
    inv.was_put k (omega (arith, ap length popped, length-append rest (last ∷ []))) below in
    record {
      of = c.join_one.ensures.of;
      passes = are_of_first-pop rest last c.args.post.now of_first;
      joined =
          let few : length rest < length now = omega (arith, of_first.few, inv.of.count, length-append rest (last ∷ [])) in
          joins-step now rest last place c.join_one.new.self end at few c.join_one.ensures.joined joined;
      was_put = λ k from below. took_only_put-more now place (length c.args.passes.items) c.join_one.new.self (after_join (pass_at now place) last)
          c.join_one.ensures.joined c.join_one.ensures.was_put behind k (omega arith) below;
    }

pub returns-clause-joined : goal.returns-clause-joined
returns-clause-joined g c =
    let now : List PassView = c.loop-pass.self in
    let none : c.loop-pass.passes.items ≡ [] = nil_from_length _ (omega (arith, c.in_default.ensures.cases)) in
    sym (joins-nil now) ∙ ap (after_joins now) (sym none) ∙ c.loop-pass.invariant.joined
