use Rattle.std.proofs.Common.{◌≡◌, ◌++◌, take}
use Rattle.svg_text.specs.Picture.{each_of, text_of}
use Rattle.ring_picture.specs.Nodes.{node_picture}
use Rattle.ring_picture.proofs.nodes.put_nodes.Given as goal

abbrev pub invariant-loop-seat : goal.invariant-loop-seat
invariant-loop-seat l = l.text ≡ l.initial.text ++ text_of (each_of (node_picture l.layout l.nodes) (take l.seat-index l.seats))
