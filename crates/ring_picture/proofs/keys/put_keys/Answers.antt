use Rattle.std.proofs.Common.{◌++◌, ℕ, ap, ◌∙◌}
use Rattle.svg_text.specs.Picture.{text_of}
use Rattle.svg_text.proofs.Pieces.{each_more}
use Rattle.ring_picture.specs.Keys.{key_in_tier, key_picture}
use Rattle.ring_picture.proofs.keys.put_keys.Goals as goal

pub loop-key-preserved : goal.loop-key-preserved
loop-key-preserved c =
    each_more (key_picture c.args.layout.now c.args.ready.now c.args.keys.now) c.args.keys.now c.loop-key.key-index c.key-item.result c.args.text.now _ _
    c.loop-key-test.true c.key-item.is c.loop-key.invariant
    (c.in_ok-put_key.ensures
    ∙ ap (λ (tier : ℕ). c.loop-key.text ++ text_of (key_in_tier c.args.layout.now c.args.ready.now tier c.key-item.result)) c.tier_of-tier.ensures.tier)
