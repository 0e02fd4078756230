use Rattle.std.proofs.Common.{◌≡◌, ◌+◌, ◌++◌, ◌∷◌, [], ◌∙◌, List, map, take, sym, subst, ap, append_assoc, arith}
use Rattle.std.proofs.lemmas.List.{append-nil, map_more, take_all}
use Rattle.wire_msg.specs.declared.message.Envelope.{Envelope as CodeEnvelope}
use Rattle.wire_msg.specs.Words.{Envelope, plain_envelope}
use Rattle.weave.specs.Table.{IsTableOf}
use Rattle.weave.proofs.starts.Starts.add_all.Goals as goal

pub loop-envelope-init : goal.loop-envelope-init
loop-envelope-init c = λ vs h. subst (IsTableOf c.args.self.now) (sym (append-nil vs)) h

pub loop-envelope-preserved : goal.loop-envelope-preserved
loop-envelope-preserved c = λ vs h.
    let i = c.loop-envelope.envelope-index in
    let all : List CodeEnvelope = c.args.envelopes.now in
    let one : CodeEnvelope = c.envelope-item.result in
    let first : List Envelope = map plain_envelope (take i all) in
    let next : map plain_envelope (take (i + 1) all) ≡ first ++ plain_envelope one ∷ [] =
    map_more plain_envelope all i one c.loop-envelope-test.true ∙ ap (λ (v : CodeEnvelope). first ++ plain_envelope v ∷ []) (sym c.envelope-item.is) in
    subst (IsTableOf c.add.new.self) (append_assoc vs first (plain_envelope one ∷ []) ∙ ap (λ (ws : List Envelope). vs ++ ws) (sym next))
    (c.in_ok-add.ensures (vs ++ first) (c.loop-envelope.invariant vs h))

pub returns : goal.returns
returns c = λ vs h.
    subst (λ (es : List CodeEnvelope). IsTableOf c.loop-envelope.self (vs ++ map plain_envelope es))
    (take_all c.loop-envelope.envelope-index c.args.envelopes.now (omega arith)) (c.loop-envelope.invariant vs h)
