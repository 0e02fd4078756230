use Rattle.std.proofs.Common.{◌++◌, List, ℕ, length, ap, append_assoc, ◌∙◌}
use Rattle.svg_text.specs.Picture.{text_of}
use Rattle.ring_picture.specs.declared.layout.Layout.{Layout}
use Rattle.ring_picture.specs.declared.seat.Seat.{Seat}
use Rattle.ring_picture.specs.Ring.{dots_picture, lines_picture, seats_picture}
use Rattle.ring_picture.proofs.Grouped.{on_ok}
use Rattle.ring_picture.proofs.ring.put_seats.Goals as goal

pub returns : goal.returns
returns c =
    let old : List ℕ = c.args.text.now in
    let nodes : List ℕ = c.args.nodes.now in
    let seats : List Seat = c.args.seats.now in
    let ready : List ℕ = c.args.ready.now in
    let keys : List ℕ = c.args.keys.now in
    let layout : Layout = c.of-layout.result in
    let lines : List ℕ = text_of (lines_picture layout seats ready keys) in
    let dots : List ℕ = text_of (dots_picture layout nodes seats (length ready) c.args.after) in
    on_ok c.put_dots.result c.put_dots.ensures (λ written. written
    ∙ ap (λ (t : List ℕ). t ++ dots) c.in_ok-put_lines.ensures
    ∙ append_assoc old lines dots
    ∙ ap (λ (a : Layout). old ++ text_of (seats_picture a nodes seats ready keys c.args.after)) c.of-layout.ensures.layout)
