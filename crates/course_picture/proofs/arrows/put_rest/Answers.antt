use Rattle.std.proofs.Common.{◌≡◌, ◌++◌, ◌<◌, Some, length, slice_get, sym, ap, ◌∙◌, arith}
use Rattle.std.specs.Prelude.{OnOk}
use Rattle.std.proofs.lemmas.List.{append-nil, length-map}
use Rattle.wire_msg.specs.Words.{plain_envelope}
use Rattle.overlay_rules.specs.Record.{sent_in}
use Rattle.svg_text.specs.Picture.{each_of, text_of}
use Rattle.course_picture.specs.declared.fate.Fate.TheVariants as fate
use Rattle.course_picture.specs.Arrows.{rest_at}
use Rattle.course_picture.specs.Board.{is_drawn}
use Rattle.course_picture.specs.Ways.{arrow_picture}
use Rattle.course_picture.proofs.Found.{arrow_made, arrow_with, fate_read, late_found, lost_found, lost_made, none_drawn, sender_read, sent_message}
use Rattle.course_picture.proofs.Kept.{length-senders}
use Rattle.course_picture.proofs.Pieces.{one_drawn}
use Rattle.course_picture.proofs.arrows.put_rest.Goals as goal

pub index-sent-requires : goal.index-sent-requires
index-sent-requires c =
    let d = c.args.drawing.now in omega (arith, length-senders 0 d.front, ap length d.sent)

pub returns-then-not-is_drawn : goal.returns-then-not-is_drawn
returns-then-not-is_drawn c =
    let d = c.args.drawing.now in
    let b = d.board in
    let es = d.front in
    let m = c.args.place in
    let listed : m < length d.senders.items = omega (arith, length-senders 0 es, ap length d.sent) in
    let sender = sender_read es d.senders.items m c.index-sent.result.now d.sent listed c.index-sent.ensures in
    let hidden = ap (is_drawn b) (sym sender) ∙ sym c.is_drawn.ensures ∙ c.if-not-is_drawn.true in
    sym (ap (λ those. c.args.text.now ++ text_of (each_of (arrow_picture b) those)) (none_drawn b es m hidden) ∙ append-nil c.args.text.now)

pub returns-then-behind-place : goal.returns-then-behind-place
returns-then-behind-place c =
    let d = c.args.drawing.now in
    let b = d.board in
    let es = d.front in
    let m = c.args.place in
    let v = plain_envelope c.index-sent-place.result in
    let a = arrow_with m v c.index-sent.result.now c.stop.result c.fate_of.result in
    let listed : m < length d.senders.items = omega (arith, length-senders 0 es, ap length d.sent) in
    let counted : m < length c.sent.result.now = omega (arith, length-map c.sent.result.now plain_envelope, ap length c.sent.ensures) in
    let sent : slice_get (sent_in es) m ≡ Some v =
    sent_message es c.sent.result.now m c.index-sent-place.result c.sent.ensures counted c.index-sent-place.is in
    let sender = sender_read es d.senders.items m c.index-sent.result.now d.sent listed c.index-sent.ensures in
    let drawn = ap (is_drawn b) (sym sender) ∙ sym c.is_drawn.ensures ∙ c.if-not-is_drawn.false in
    let late = sym (c.requires.behind.each m c.requires.within) ∙ c.if-behind-place.true in
    let fared = fate_read es b.stop m c.fate_of.result _ c.fate_of.ensures (c.requires.before.each m c.requires.within) in
    let put : OnOk c.put_arrow.result (c.put_arrow.new.text ≡ c.args.text.now ++ text_of (arrow_picture b a)) = c.put_arrow.ensures in
    one_drawn (arrow_picture b) c.put_arrow.result c.args.text.now c.put_arrow.new.text (rest_at b es m) a
    (late_found b es m v a sent drawn late (arrow_made es m c.index-sent.result.now b.stop c.stop.result v c.fate_of.result sender c.stop.ensures fared)) put

pub returns : goal.returns
returns c =
    let d = c.args.drawing.now in
    let b = d.board in
    let es = d.front in
    let m = c.args.place in
    let v = plain_envelope c.index-sent-place.result in
    let a = arrow_with m v c.index-sent.result.now c.index-sent.result.now fate.Lost in
    let listed : m < length d.senders.items = omega (arith, length-senders 0 es, ap length d.sent) in
    let counted : m < length c.sent.result.now = omega (arith, length-map c.sent.result.now plain_envelope, ap length c.sent.ensures) in
    let sent : slice_get (sent_in es) m ≡ Some v =
    sent_message es c.sent.result.now m c.index-sent-place.result c.sent.ensures counted c.index-sent-place.is in
    let sender = sender_read es d.senders.items m c.index-sent.result.now d.sent listed c.index-sent.ensures in
    let drawn = ap (is_drawn b) (sym sender) ∙ sym c.is_drawn.ensures ∙ c.if-not-is_drawn.false in
    let late = sym (c.requires.behind.each m c.requires.within) ∙ c.if-behind-place.false in
    let early = sym (c.requires.before.each m c.requires.within) ∙ c.if-before-place.false in
    let put : OnOk c.put_arrow-2.result (c.put_arrow-2.new.text ≡ c.args.text.now ++ text_of (arrow_picture b a)) = c.put_arrow-2.ensures in
    one_drawn (arrow_picture b) c.put_arrow-2.result c.args.text.now c.put_arrow-2.new.text (rest_at b es m) a
    (lost_found b es m v a sent drawn late early (lost_made es m c.index-sent.result.now v sender)) put
