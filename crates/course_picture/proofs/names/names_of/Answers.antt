use Rattle.std.proofs.Common.{[], ◌∷◌, ◌++◌, take, sym, ap, ◌∙◌}
use Rattle.course_picture.specs.Words.{named, names_of}
use Rattle.course_picture.proofs.Kept.{map-next}
use Rattle.course_picture.proofs.names.names_of.Goals as goal

pub loop-id-preserved : goal.loop-id-preserved
loop-id-preserved c =
    c.in_ok-push.ensures.items ∙ ap (λ ns. ns ++ c.named.result ∷ []) c.loop-id.invariant ∙
    ap (λ n. names_of (take c.loop-id.id-index c.args.ids.now) ++ n ∷ []) c.named.ensures ∙
    sym (map-next named c.args.ids.now c.loop-id.id-index c.id-item.result c.loop-id-test.true c.id-item.is)
