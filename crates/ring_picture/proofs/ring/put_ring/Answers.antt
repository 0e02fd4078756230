use Rattle.std.proofs.Common.{◌≡◌, ◌++◌, List, ℕ, length, ap, ◌∙◌}
use Rattle.svg_text.specs.Picture.{text_of}
use Rattle.ring_picture.specs.declared.seat.Seat.{Seat}
use Rattle.ring_picture.specs.Layouts.{layout_of}
use Rattle.ring_picture.specs.Ring.{seats_picture}
use Rattle.ring_picture.specs.Seats.{ready_ids, seats_of}
use Rattle.ring_picture.proofs.Grouped.{on_ok}
use Rattle.ring_picture.proofs.ring.put_ring.Goals as goal

pub returns : goal.returns
returns c = λ states stand.
    let nodes : List ℕ = c.args.nodes.now in
    let keys : List ℕ = c.args.keys.now in
    let after : ℕ = c.args.after in
    let seats : c.in_ok-seats.seats.items ≡ seats_of states nodes = c.in_ok-seats.ensures states stand in
    on_ok c.put_seats.result c.put_seats.ensures (λ written. written
    ∙ ap (λ (s : List Seat). c.args.text.now ++ text_of (seats_picture (layout_of (length nodes)) nodes s c.deref-3.result.now keys after))
    (c.deref-2.ensures.value ∙ seats)
    ∙ ap (λ (r : List ℕ). c.args.text.now ++ text_of (seats_picture (layout_of (length nodes)) nodes (seats_of states nodes) r keys after))
    (c.deref-3.ensures.value ∙ c.in_ok-ready.ensures ∙ ap ready_ids (c.deref.ensures.value ∙ seats)))
