use Rattle.std.proofs.Common.{ℕ, List, ap, ◌∙◌}
use Rattle.fragments.specs.declared.piece.Piece.{Piece}
use Rattle.fragments.specs.Large.{declared, fragment_label}
use Rattle.fragments.proofs.Planned.{declare_more}
use Rattle.fragments.proofs.large.declare_fragments.Goals as goal

pub loop-i-preserved : goal.loop-i-preserved
loop-i-preserved c =
    declare_more c.loop-i.i c.args.files.now.items c.loop-i.files.items c.push.new.self.items c.args.fragments.now c.index-fragments-i.result _
    c.loop-i-test.true c.loop-i.invariant c.in_ok-push.ensures.items
    (c.in_ok-declared.ensures ∙ ap (λ (name : List ℕ). declared name c.index-fragments-i.result) c.in_ok-name.ensures ∙
    ap (λ (p : Piece). declared (fragment_label c.loop-i.i) p) c.index-fragments-i.is)
