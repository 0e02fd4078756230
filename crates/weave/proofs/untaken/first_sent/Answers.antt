use Rattle.std.proofs.Common.{◌≡◌, ◌∙◌, ◌+◌, ◌++◌, ◌∷◌, [], not, List, map, take, sym, subst, ap}
use Rattle.std.proofs.lemmas.Bool.Decides.{Decides-eqb}
use Rattle.std.proofs.lemmas.List.{map_more}
use Rattle.wire_msg.specs.declared.message.Envelope.{Envelope as CodeEnvelope}
use Rattle.wire_msg.specs.Words.{Envelope, plain_envelope}
use Rattle.weave.specs.ByStamp.{kept_in}
use Rattle.weave.specs.Wanted.{HasNoWanted, IsWanted}
use Rattle.weave.proofs.Wanting.{first_wanted, is_there, none-push, not_there}
use Rattle.weave.proofs.untaken.first_sent.Goals as goal
use Rattle.weave.proofs.untaken.first_sent.Goals.{else-eq-via-then-eq+else-is_none, else-eq-via-else-eq}

pub returns-then-is_none-clause-some : goal.returns-then-is_none-clause-some
returns-then-is_none-clause-some c =
    first_wanted (kept_in c.args.taken.now) c.args.receiver c.args.sent.now c.loop-envelope.envelope-index c.envelope-item.result
    c.loop-envelope-test.true c.envelope-item.is c.loop-envelope.invariant (record {
      addressed = (Decides-eqb c.envelope-item.result.receiver c.args.receiver).0 (sym c.eq.ensures ∙ c.if-eq.true);
      untaken = not_there (kept_in c.args.taken.now) (plain_envelope c.envelope-item.result) c.place_of.result c.place_of.ensures
          (c.is_none.ensures ∙ ap not c.if-is_none.true);
    })

pub loop-envelope-preserved : goal.loop-envelope-preserved
loop-envelope-preserved c =
    let taken : List Envelope = kept_in c.args.taken.now in
    let so_far : List Envelope = map plain_envelope (take c.loop-envelope.envelope-index c.args.sent.now) in
    let one : CodeEnvelope = c.envelope-item.result in
    let next : map plain_envelope (take (c.loop-envelope.envelope-index + 1) c.args.sent.now) ≡ so_far ++ plain_envelope one ∷ [] =
    map_more plain_envelope c.args.sent.now c.loop-envelope.envelope-index one c.loop-envelope-test.true
    ∙ ap (λ (v : CodeEnvelope). so_far ++ plain_envelope v ∷ []) (sym c.envelope-item.is) in
    let unwanted : IsWanted taken c.args.receiver (plain_envelope one) → ⊥ =
    λ w. elim c.else-eq.branch [
      | else-eq-via-then-eq+else-is_none r ↦
          w.untaken (is_there taken (plain_envelope one) r.place_of.result r.place_of.ensures (r.is_none.ensures ∙ ap not r.if-is_none.false))
      | else-eq-via-else-eq r ↦
          let is = (Decides-eqb one.receiver c.args.receiver).1 w.addressed in let told = c.eq.ensures in let no = r.if-eq.false in cc
    ] in
    subst (HasNoWanted taken c.args.receiver) (sym next) (none-push taken c.args.receiver so_far (plain_envelope one) c.loop-envelope.invariant unwanted)
