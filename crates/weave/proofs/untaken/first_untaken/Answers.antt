use Rattle.std.proofs.Common.{◌+◌, IfSome, IfNone, Option, List, All, Bor, map, take, drop, ap, refl, sym, subst, arith}
use Rattle.std.proofs.lemmas.List.{take_all}
use Rattle.std.proofs.lemmas.List.Elements.{All-push}
use Rattle.wire_msg.specs.declared.message.Envelope.{Envelope as CodeEnvelope}
use Rattle.wire_msg.specs.Words.{Envelope, plain_envelope}
use Rattle.weave_laws.specs.Cells.{CellEntry, History}
use Rattle.weave.specs.declared.acts.Act.{Act as CodeAct}
use Rattle.weave.specs.ByStamp.{kept_in}
use Rattle.weave.specs.Placed.{Placed, act_at, placed}
use Rattle.weave.specs.Strands.{entry_seen}
use Rattle.weave.specs.Wanted.{HasNoWanted, IsFirstWanted}
use Rattle.weave.proofs.Stopping.{at_turn, is_at_turn, placed_more, split_at}
use Rattle.weave.proofs.untaken.first_untaken.Goals as goal

pub returns : goal.returns
returns g c =
    let hs : List History = map g.S.Strand.history c.args.strands.now in
    subst (λ (xs : List CodeAct). All (λ (p : Placed). HasNoWanted (kept_in c.args.taken.now) c.args.receiver p.act.entry.sent) (map (placed hs) xs))
    (take_all c.loop-act.act-index c.args.acts.now c.loop-act-test.false) c.loop-act.invariant

pub loop-act-preserved : goal.loop-act-preserved
loop-act-preserved g c =
    let hs : List History = map g.S.Strand.history c.args.strands.now in
    let taken : List Envelope = kept_in c.args.taken.now in
    let acts : List CodeAct = c.args.acts.now in
    let i = c.loop-act.act-index in
    let one : CodeAct = at_turn acts i in
    let so_far : List Placed = map (placed hs) (take i acts) in
    let none : HasNoWanted taken c.args.receiver (entry_seen c.entry.result).sent =
    subst (λ (found : Option (Bor CodeEnvelope)). IfNone found (HasNoWanted taken c.args.receiver (entry_seen c.entry.result).sent))
    c.in_default.is c.first_sent_by.ensures.none in
    subst (All (λ (p : Placed). HasNoWanted taken c.args.receiver p.act.entry.sent))
    (sym (placed_more hs acts i one c.loop-act-test.true (is_at_turn acts i c.loop-act-test.true)))
    (All-push (λ (p : Placed). HasNoWanted taken c.args.receiver p.act.entry.sent) so_far (placed hs one) c.loop-act.invariant
    (subst (HasNoWanted taken c.args.receiver) (ap (λ (e : CellEntry). e.sent) c.entry.ensures) none))

pub returns-in-Some : goal.returns-in-Some
returns-in-Some g c =
    let hs : List History = map g.S.Strand.history c.args.strands.now in
    let taken : List Envelope = kept_in c.args.taken.now in
    let x = c.args.receiver in
    let acts : List CodeAct = c.args.acts.now in
    let i = c.loop-act.act-index in
    let one : CodeAct = at_turn acts i in
    let sent : List Envelope = (entry_seen c.entry.result).sent in
    let first : IsFirstWanted taken x sent (plain_envelope c.in-Some.envelope.now) =
    subst (λ (found : Option (Bor CodeEnvelope)). IfSome found (λ v. IsFirstWanted taken x sent (plain_envelope v.now)))
    c.in-Some.is c.first_sent_by.ensures.some in
    record {
      before = map (placed hs) (take i acts);
      stop = placed hs one;
      behind = map (placed hs) (drop (i + 1) acts);
      split = split_at hs acts i (i + 1) one (omega arith) c.loop-act-test.true (is_at_turn acts i c.loop-act-test.true);
      earlier = c.loop-act.invariant;
      named = record { node = sym c.node.ensures; at = refl };
      first = subst (λ (e : CodeEnvelope). IsFirstWanted taken x (act_at hs one).entry.sent (plain_envelope e)) (sym c.in_ok-copy.ensures)
          (subst (λ (vs : List Envelope). IsFirstWanted taken x vs (plain_envelope c.in-Some.envelope.now))
          (ap (λ (e : CellEntry). e.sent) c.entry.ensures) first);
    }
