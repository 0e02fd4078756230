use Rattle.std.proofs.Common.{◌≡◌, ◌∙◌, ◌++◌, ◌∷◌, ◌+◌, [], List, map, take, ap, sym, subst}
use Rattle.std.proofs.lemmas.List.{map_more}
use Rattle.wire_msg.specs.Words.{Envelope, plain_envelope}
use Rattle.wire_msg.specs.declared.message.Envelope.{Envelope as CodeEnvelope}
use Rattle.weave.specs.declared.relay.Letter.{Letter}
use Rattle.weave.specs.Relayed.{Kept}
use Rattle.weave.proofs.Relaying.{kept-push}
use Rattle.weave.proofs.relay.keep.Goals as goal

pub loop-envelope-preserved : goal.loop-envelope-preserved
loop-envelope-preserved c =
    let i = c.loop-envelope.envelope-index in
    let before : List Letter = c.args.letters.now.items in
    let one : CodeEnvelope = c.envelope-item.result in
    let so_far : List Envelope = map plain_envelope (take i c.args.sent.now) in
    let next : map plain_envelope (take (i + 1) c.args.sent.now) ≡ so_far ++ plain_envelope one ∷ [] =
    map_more plain_envelope c.args.sent.now i one c.loop-envelope-test.true
    ∙ ap (λ (e : CodeEnvelope). so_far ++ plain_envelope e ∷ []) (sym c.envelope-item.is) in
    subst (λ (vs : List Envelope). Kept before vs c.push.new.self.items) (sym next)
    (subst (Kept before (so_far ++ plain_envelope one ∷ [])) (sym c.in_ok-push.ensures.items)
    (kept-push before c.loop-envelope.letters.items so_far c.in_ok-letter_of.field-0 (plain_envelope one) c.loop-envelope.invariant
    c.in_ok-letter_of.ensures))
