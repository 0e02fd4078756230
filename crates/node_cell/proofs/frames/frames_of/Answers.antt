use Rattle.std.proofs.Common.{◌≡◌, ◌∙◌, ◌+◌, ◌++◌, ◌∷◌, [], All, List, map, take, ap, sym, subst}
use Rattle.std.proofs.lemmas.List.{take_more, map-append}
use Rattle.std.proofs.lemmas.List.Elements.{All-push}
use Rattle.wire_msg.specs.declared.message.Envelope.{Envelope as CodeEnvelope}
use Rattle.wire_msg.specs.Words.{plain_envelope}
use Rattle.node_cell.specs.declared.frames.Addressed.{Addressed}
use Rattle.node_cell.specs.Cell.{frame_of}
use Rattle.node_cell.specs.Kept.{HasFrame}
use Rattle.node_cell.proofs.frames.frames_of.Goals as goal

pub loop-envelope-preserved : goal.loop-envelope-preserved
loop-envelope-preserved c =
    let so_far : List CodeEnvelope = take c.loop-envelope.envelope-index c.args.envelopes.now in
    let one : CodeEnvelope = c.envelope-item.result in
    let next : take (c.loop-envelope.envelope-index + 1) c.args.envelopes.now ≡ so_far ++ one ∷ [] =
    take_more c.args.envelopes.now c.loop-envelope.envelope-index one c.loop-envelope-test.true
    ∙ ap (λ (v : CodeEnvelope). so_far ++ v ∷ []) (sym c.envelope-item.is) in
    let more : map plain_envelope (take (c.loop-envelope.envelope-index + 1) c.args.envelopes.now) ≡ map plain_envelope so_far ++ plain_envelope one ∷ [] =
    ap (map plain_envelope) next ∙ map-append plain_envelope so_far (one ∷ []) in
    record {
      frames = c.in_ok-push.ensures.items
          ∙ ap (λ (fs : List Addressed). fs ++ c.in_ok-frame_of.field-0 ∷ []) c.loop-envelope.invariant.frames
          ∙ ap (λ (f : Addressed). map frame_of (map plain_envelope so_far) ++ f ∷ []) c.in_ok-frame_of.ensures.frame
          ∙ sym (map-append frame_of (map plain_envelope so_far) (plain_envelope one ∷ []))
          ∙ ap (map frame_of) (sym more);
      spelled = subst (All HasFrame) (sym more)
          (All-push HasFrame (map plain_envelope so_far) (plain_envelope one) c.loop-envelope.invariant.spelled c.in_ok-frame_of.ensures.spelled);
    }
