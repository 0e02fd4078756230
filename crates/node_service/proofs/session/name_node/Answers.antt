use Rattle.std.proofs.Common.{Some, refl, subst, sym}
use Rattle.std.proofs.lemmas.Result.{on_ok_weaker}
use Rattle.node_lines.specs.declared.start.Start.{Start}
use Rattle.node_lines.specs.Commands.{Reading}
use Rattle.node_process.specs.Talk.{talk_at_start}
use Rattle.node_process.specs.Texts.{done_line}
use Rattle.node_service.specs.Conversation.{IsNamed}
use Rattle.node_service.proofs.session.name_node.Goals as goal

pub returns-in_ok-new-in-Ok : goal.returns-in_ok-new-in-Ok
returns-in_ok-new-in-Ok c =
    on_ok_weaker c.put_done.result
    (λ added. record {
      answer = done_line 0;
      later = Some (talk_at_start c.in-Ok.start.me c.in-Ok.start.founder);
      answered = subst (λ (read : Reading Start). IsNamed read (done_line 0) (Some (talk_at_start c.in-Ok.start.me c.in-Ok.start.founder)))
          (sym c.in-Ok.ensures) (refl, refl);
      far = c.in_ok-new-in-Ok.ensures;
      added = added;
    }) c.put_done.ensures
