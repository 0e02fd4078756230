use Rattle.std.proofs.Common.{◌≡◌, ◌++◌, Err, subst}
use Rattle.std.specs.Prelude.{OnOk}
use Rattle.std.proofs.lemmas.Result.{on_ok_weaker}
use Rattle.node_lines.specs.declared.refusal.Refusal.{Refusal}
use Rattle.node_lines.specs.declared.refusal.TellFault.{TellFault}
use Rattle.node_lines.specs.Lines.{IsDue, told_by}
use Rattle.node_process.specs.Texts.{refused_line}
use Rattle.node_process.proofs.Talking.{added_refused, added_told}
use Rattle.node_process.proofs.process.NodeProcess.answer.Goals as goal

pub returns-in-Ok : goal.returns-in-Ok
returns-in-Ok c t far = on_ok_weaker c.take_in.result
    (λ added. added_told t (told_by c.args.line.now) c.in-Ok.told c.take_in.new.self c.args.text.now c.take_in.new.text c.in-Ok.ensures added)
    (c.take_in.ensures t far)

pub returns-in-Err-Refused : goal.returns-in-Err-Refused
returns-in-Err-Refused c t far =
    let none : told_by c.args.line.now ≡ Err c.in-Err-Refused.refusal =
    subst (λ (f : TellFault). IsDue (told_by c.args.line.now) f) c.in-Err-Refused.field-0-is c.in-Err-Refused.ensures in
    on_ok_weaker c.put_refused.result
    (λ added. added_refused t (told_by c.args.line.now) c.in-Err-Refused.refusal c.args.self.now c.args.text.now c.put_refused.new.text none far added)
    (subst (λ (r : Refusal). OnOk c.put_refused.result (c.put_refused.new.text ≡ c.args.text.now ++ refused_line r)) c.in-Err-Refused.refusal-is
    c.put_refused.ensures)
