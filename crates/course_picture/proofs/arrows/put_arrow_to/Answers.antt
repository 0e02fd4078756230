use Rattle.std.proofs.Common.{◌≡◌, ◌++◌, ◌<◌, Some, length, slice_get, refl, sym, ap, ◌∙◌, arith}
use Rattle.std.specs.Prelude.{OnOk}
use Rattle.std.proofs.lemmas.Bool.{ltb-true}
use Rattle.std.proofs.lemmas.List.{length-map}
use Rattle.wire_msg.specs.Words.{plain_envelope}
use Rattle.overlay_rules.specs.Record.{sent_in}
use Rattle.svg_text.specs.Picture.{text_of}
use Rattle.course_picture.specs.Arrows.{arrow_if_sent}
use Rattle.course_picture.specs.Ways.{arrow_picture}
use Rattle.course_picture.proofs.Found.{arrow_made, arrow_with, delivery_found, fate_read, sender_read, sent_message}
use Rattle.course_picture.proofs.Kept.{length-senders}
use Rattle.course_picture.proofs.Pieces.{one_drawn}
use Rattle.course_picture.proofs.arrows.put_arrow_to.Goals as goal

pub index-requires : goal.index-requires
index-requires c =
    let d = c.args.drawing.now in
    let early = ltb-true c.args.number (length c.sent.result.now) (sym c.in-Some.ensures.lookup.0) in
    omega (arith, early, length-map c.sent.result.now plain_envelope, ap length c.sent.ensures, length-senders 0 d.front, ap length d.sent)

pub returns : goal.returns
returns c =
    let d = c.args.drawing.now in
    let b = d.board in
    let es = d.front in
    let m = c.args.number in
    let p = c.args.place in
    let v = plain_envelope c.in-Some.envelope.now in
    let a = arrow_with m v c.index.result.now p c.fate_of.result in
    let early : m < length c.sent.result.now = ltb-true m (length c.sent.result.now) (sym c.in-Some.ensures.lookup.0) in
    let count : length c.sent.result.now ≡ length (sent_in es) = sym (length-map c.sent.result.now plain_envelope) ∙ ap length c.sent.ensures in
    let listed : m < length d.senders.items = omega (arith, count, length-senders 0 es, ap length d.sent) in
    let counted : m < length (sent_in es) = omega (arith, count) in
    let sent : slice_get (sent_in es) m ≡ Some v = sent_message es c.sent.result.now m c.in-Some.envelope.now c.sent.ensures early
    c.in-Some.ensures.lookup.1 in
    let sender = sender_read es d.senders.items m c.index.result.now d.sent listed c.index.ensures in
    let fared = fate_read es p m c.fate_of.result _ c.fate_of.ensures (c.requires.each m counted) in
    let put : OnOk c.put_arrow.result (c.put_arrow.new.text ≡ c.args.text.now ++ text_of (arrow_picture b a)) = c.put_arrow.ensures in
    one_drawn (arrow_picture b) c.put_arrow.result c.args.text.now c.put_arrow.new.text (arrow_if_sent es p m (slice_get (sent_in es) m)) a
    (delivery_found es p m v a sent (arrow_made es m c.index.result.now p p v c.fate_of.result sender refl fared)) put
