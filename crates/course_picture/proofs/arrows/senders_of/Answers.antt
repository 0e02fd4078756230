use Rattle.std.proofs.Common.{◌≡◌, ◌++◌, length, replicate, take, sym, ap, ◌∙◌, arith}
use Rattle.std.proofs.lemmas.List.{length-map}
use Rattle.wire_msg.specs.Words.{plain_envelope}
use Rattle.overlay_rules.specs.Seen.{entry_seen}
use Rattle.course_picture.specs.Arrows.{senders_from}
use Rattle.course_picture.proofs.Kept.{senders-next}
use Rattle.course_picture.proofs.arrows.senders_of.Goals as goal

pub loop-place-preserved : goal.loop-place-preserved
loop-place-preserved c =
    let i = c.loop-place.place in
    let messages = c.at-entry.result.messages.now in
    let size = length-map messages plain_envelope in
    let at_end : c.loop-message._message-index ≡ length (entry_seen c.at-entry.result).messages = omega arith in
    c.loop-message.invariant ∙ ap (λ ps. ps ++ replicate c.loop-message._message-index i) c.loop-place.invariant ∙
    ap (λ n. senders_from 0 (take i c.args.front.now) ++ replicate n i) at_end ∙
    sym (senders-next c.args.front.now i (entry_seen c.at-entry.result) c.at-entry.ensures)
