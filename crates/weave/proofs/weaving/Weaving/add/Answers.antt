use Rattle.std.proofs.Common.{◌≡◌, ◌++◌, ◌∙◌, List, map, sym, subst, ap}
use Rattle.wire_msg.specs.declared.message.Envelope.{Envelope as CodeEnvelope}
use Rattle.wire_msg.specs.Words.{Envelope, plain_envelope}
use Rattle.overlay_rules.specs.Record.{sent_in}
use Rattle.overlay_rules.proofs.Histories.{sent_in-push}
use Rattle.weave.specs.Table.{AreSeen, IsTableOf}
use Rattle.weave.proofs.Tabling.{seen-more}
use Rattle.weave.proofs.weaving.Weaving.add.Goals as goal

pub returns-clause-tabled : goal.returns-clause-tabled
returns-clause-tabled g c =
    let before : List Envelope = sent_in c.args.self.now.entries in
    let more : List Envelope = map plain_envelope c.hand_out.new.messages.items in
    let sent : sent_in c.append.new.self ≡ before ++ more = ap sent_in c.in_ok-append.ensures.ok ∙ sent_in-push c.args.self.now.entries _ in
    let table : IsTableOf c.add_all.new.self (before ++ more) =
    subst (λ (vs : List CodeEnvelope). IsTableOf c.add_all.new.self (before ++ map plain_envelope vs)) c.deref.ensures.value
    (c.in_ok-add_all.ensures before c.requires.tabled.table) in
    record {
      table = subst (IsTableOf c.add_all.new.self) (sym sent) table;
      seen = subst (λ (vs : List Envelope). AreSeen vs c.args.self.now.ahead) (sym sent) (seen-more before more c.args.self.now.ahead c.requires.tabled.seen);
    }
