use Rattle.std.proofs.Common.{◌≡◌, ℕ, Some, cond, nat_cmp, subst}
use Rattle.std.specs.BTreeMap.{get, is_at}
use Rattle.trace_check.proofs.Numbering.{AreNumbersOf-add}
use Rattle.trace_check.proofs.numbers.Numbers.add.Goals as goal

pub returns : goal.returns
returns c = λ past e command h is fresh.
    AreNumbersOf-add c.args.self.now (record { used = c.insert.new.self; greatest = c.insert-2.new.self }) past e c.args.node c.args.number command is fresh
    (subst (λ (x : ℕ). (q : ℕ) → get nat_cmp c.insert.new.self q ≡ cond (is_at (nat_cmp c.args.number) q) (Some x) (get nat_cmp c.args.self.now.used q))
    c.node.view_is c.in_ok-insert.ensures.updates.0)
    (subst (λ (x : ℕ). (q : ℕ) → get nat_cmp c.insert-2.new.self q ≡ cond (is_at (nat_cmp x) q) (Some c.args.number) (get nat_cmp c.args.self.now.greatest q))
    c.node.view_is c.in_ok-insert-2.ensures.updates.0)
    h
