use Rattle.std.proofs.Common.{◌&&◌, sym, ap, ◌∙◌}
use Rattle.std.specs.List.{list_all}
use Rattle.overlay_rules.specs.Joining.{was_probed}
use Rattle.join_core.proofs.Heard.{all-also}
use Rattle.join_core.proofs.probed.Probed.contains_leaves.Goals as goal

pub returns-then-contains_all : goal.returns-then-contains_all
returns-then-contains_all c =
    let p = was_probed c.args.self.now in
    c.contains_all-then-contains_all.ensures
    ∙ sym (all-also p c.args.right.now c.args.left.now
    ∙ ap (λ b. b && list_all p c.args.left.now) (sym c.contains_all.ensures ∙ c.if-contains_all.true))

pub returns-else-contains_all : goal.returns-else-contains_all
returns-else-contains_all c =
    let p = was_probed c.args.self.now in
    c.if-contains_all.false
    ∙ sym (all-also p c.args.right.now c.args.left.now
    ∙ ap (λ b. b && list_all p c.args.left.now) (sym c.contains_all.ensures ∙ c.if-contains_all.false))
