use Rattle.std.proofs.Common.{◌≡◌, ◌∙◌, ◌+◌, ◌++◌, ◌∷◌, [], not, List, All, Contains, map, take, sym, subst, ap, arith}
use Rattle.std.proofs.lemmas.List.{map_more, take_all}
use Rattle.std.proofs.lemmas.List.Elements.{All-push}
use Rattle.wire_msg.specs.declared.message.Envelope.{Envelope as CodeEnvelope}
use Rattle.wire_msg.specs.Words.{Envelope, plain_envelope}
use Rattle.weave.specs.ByStamp.{kept_in}
use Rattle.weave.proofs.Wanting.{get_map, is_there, not_there}
use Rattle.weave.proofs.reading.are_taken.Goals as goal

pub loop-envelope-preserved : goal.loop-envelope-preserved
loop-envelope-preserved c =
    let taken : List Envelope = kept_in c.args.taken.now in
    let so_far : List Envelope = map plain_envelope (take c.loop-envelope.envelope-index c.args.sent.now) in
    let one : CodeEnvelope = c.envelope-item.result in
    let next : map plain_envelope (take (c.loop-envelope.envelope-index + 1) c.args.sent.now) ≡ so_far ++ plain_envelope one ∷ [] =
    map_more plain_envelope c.args.sent.now c.loop-envelope.envelope-index one c.loop-envelope-test.true
    ∙ ap (λ (v : CodeEnvelope). so_far ++ plain_envelope v ∷ []) (sym c.envelope-item.is) in
    subst (All (Contains taken)) (sym next)
    (All-push (Contains taken) so_far (plain_envelope one) c.loop-envelope.invariant
    (is_there taken (plain_envelope one) c.place_of.result c.place_of.ensures (c.is_none.ensures ∙ ap not c.if-is_none.false)))

pub returns-then-is_none-clause-no : goal.returns-then-is_none-clause-no
returns-then-is_none-clause-no c = λ _. record {
  n = c.loop-envelope.envelope-index;
  envelope = plain_envelope c.envelope-item.result;
  there = get_map c.args.sent.now c.loop-envelope.envelope-index c.envelope-item.result c.loop-envelope-test.true c.envelope-item.is;
  untaken = not_there (kept_in c.args.taken.now) (plain_envelope c.envelope-item.result) c.place_of.result c.place_of.ensures
      (c.is_none.ensures ∙ ap not c.if-is_none.true);
}

pub returns-clause-yes : goal.returns-clause-yes
returns-clause-yes c = λ _. subst (λ (vs : List CodeEnvelope). All (Contains (kept_in c.args.taken.now)) (map plain_envelope vs))
    (take_all c.loop-envelope.envelope-index c.args.sent.now (omega arith)) c.loop-envelope.invariant
