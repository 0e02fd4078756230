use Rattle.svg_text.proofs.Pieces.{each_more}
use Rattle.ring_picture.specs.Sides.{sides_picture}
use Rattle.ring_picture.proofs.sides.put_sides.Goals as goal

pub loop-seat-preserved : goal.loop-seat-preserved
loop-seat-preserved c =
    each_more (sides_picture c.args.layout.now) c.args.seats.now c.loop-seat.seat-index c.seat-item.result c.args.text.now _ _ c.loop-seat-test.true
    c.seat-item.is c.loop-seat.invariant c.in_ok-put_side.ensures
