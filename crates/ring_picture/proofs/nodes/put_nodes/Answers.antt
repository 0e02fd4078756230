use Rattle.std.proofs.Common.{◌++◌, ap, ◌∙◌}
use Rattle.svg_text.specs.Picture.{text_of}
use Rattle.svg_text.proofs.Pieces.{each_more}
use Rattle.ring_picture.specs.Nodes.{node_in_tier, node_picture}
use Rattle.ring_picture.proofs.nodes.put_nodes.Goals as goal

pub loop-seat-preserved : goal.loop-seat-preserved
loop-seat-preserved c =
    each_more (node_picture c.args.layout.now c.args.nodes.now) c.args.seats.now c.loop-seat.seat-index c.seat-item.result c.args.text.now _ _
    c.loop-seat-test.true c.seat-item.is c.loop-seat.invariant
    (c.in_ok-put_node.ensures
    ∙ ap (λ tier. c.loop-seat.text ++ text_of (node_in_tier c.args.layout.now tier c.seat-item.result)) c.tier_of-tier.ensures.tier)
