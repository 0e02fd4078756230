use Rattle.std.proofs.Common.{◌≡◌, ◌++◌, take}
use Rattle.svg_text.specs.Picture.{each_of, text_of}
use Rattle.ring_picture.specs.Sides.{sides_picture}
use Rattle.ring_picture.proofs.sides.put_sides.Given as goal

abbrev pub invariant-loop-seat : goal.invariant-loop-seat
invariant-loop-seat l = l.text ≡ l.initial.text ++ text_of (each_of (sides_picture l.layout) (take l.seat-index l.seats))
