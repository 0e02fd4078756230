use Rattle.std.proofs.Common.{◌≡◌, ◌∙◌, ◌++◌, ◌∷◌, [], List, ap, map, reverse, sym, arith}
use Rattle.std.proofs.lemmas.List.{append-nil, append_assoc, map-append, nil_from_length, reverse-append, reverse-reverse}
use Rattle.wire_msg.specs.Words.{Envelope, plain_envelope, plain_sent}
use Rattle.wire_msg.specs.declared.message.Outgoing.{Outgoing}
use Rattle.overlay_rules.specs.Record.{enveloped}
use Rattle.overlay_rules.proofs.flat.send_all.Goals as goal

pub loop-outgoing-init : goal.loop-outgoing-init
loop-outgoing-init c =
    record {
      added = ap (λ (ms : List Outgoing). map plain_envelope c.args.sent.now.items ++ map (enveloped c.args.stamp c.args.sender) (map plain_sent ms))
          (ap reverse c.reverse.ensures.items ∙ reverse-reverse c.args.messages.items);
      room = omega (arith, c.requires, c.reverse.ensures.len);
    }

pub loop-outgoing-preserved : goal.loop-outgoing-preserved
loop-outgoing-preserved c =
    let before : List Envelope = map plain_envelope c.loop-outgoing.sent.items in
    let taken : Outgoing = c.in-Some.outgoing in
    let rest : List Outgoing = c.pop.new.self.items in
    let added : List Outgoing → List Envelope = λ ms. map (enveloped c.args.stamp c.args.sender) (map plain_sent ms) in
    let turned : reverse c.loop-outgoing.messages.items ≡ taken ∷ reverse rest =
    ap reverse c.in-Some.ensures.items ∙ reverse-append rest (taken ∷ []) in
    record {
      added = ap (λ (es : List Envelope). es ++ added (reverse rest))
          (ap (map plain_envelope) c.push_reserved.ensures.items ∙ map-append plain_envelope c.loop-outgoing.sent.items _)
          ∙ append_assoc before (enveloped c.args.stamp c.args.sender (plain_sent taken) ∷ []) (added (reverse rest))
          ∙ ap (λ (ms : List Outgoing). before ++ added ms) (sym turned)
          ∙ c.loop-outgoing.invariant.added;
      room = omega (arith, c.loop-outgoing.invariant.room, c.in-Some.ensures.len, c.push_reserved.ensures.len, c.push_reserved.ensures.capacity);
    }

pub returns : goal.returns
returns c =
    let before : List Envelope = map plain_envelope c.loop-outgoing.sent.items in
    let none : c.loop-outgoing.messages.items ≡ [] = nil_from_length _ (omega (arith, c.in_default.ensures.cases)) in
    record {
      items = sym (append-nil before)
          ∙ ap (λ (ms : List Outgoing). before ++ map (enveloped c.args.stamp c.args.sender) (map plain_sent (reverse ms))) (sym none)
          ∙ c.loop-outgoing.invariant.added;
    }
