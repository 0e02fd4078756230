use Rattle.std.proofs.Common.{◌≡◌, ◌+◌, ◌++◌, ◌∷◌, [], ◌∙◌, List, Bor, take, sym, subst, ap, arith}
use Rattle.std.proofs.lemmas.List.{map_more, take_all}
use Rattle.wire_msg.specs.declared.message.Envelope.{Envelope as CodeEnvelope}
use Rattle.weave.specs.ByStamp.{envelopes_at}
use Rattle.weave.specs.Table.{IsTableOf}
use Rattle.weave.proofs.Searching.{seen}
use Rattle.weave.proofs.starts.starts_of.Goals as goal

pub loop-envelope-preserved : goal.loop-envelope-preserved
loop-envelope-preserved c =
    let i = c.loop-envelope.envelope-index in
    let all : List (Bor CodeEnvelope) = c.args.envelopes.now in
    let one : Bor CodeEnvelope = c.envelope-item.result in
    let next : envelopes_at (take (i + 1) all) ≡ envelopes_at (take i all) ++ seen one ∷ [] =
    map_more seen all i one c.loop-envelope-test.true ∙ ap (λ (v : Bor CodeEnvelope). envelopes_at (take i all) ++ seen v ∷ []) (sym c.envelope-item.is) in
    subst (IsTableOf c.add.new.self) (sym next) (c.in_ok-add.ensures (envelopes_at (take i all)) c.loop-envelope.invariant)

pub returns : goal.returns
returns c =
    subst (λ (vs : List (Bor CodeEnvelope)). IsTableOf c.loop-envelope.starts (envelopes_at vs))
    (take_all c.loop-envelope.envelope-index c.args.envelopes.now (omega arith)) c.loop-envelope.invariant
