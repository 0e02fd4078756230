use Rattle.std.proofs.Common.{List, ℕ, sym, subst}
use Rattle.std.specs.Prelude.{IfOk}
use Rattle.std.proofs.lemmas.Result.{IfOk-weaker, on_err_weaker}
use Rattle.node_cell.specs.declared.live.Taken.{Taken}
use Rattle.node_cell.specs.Live.{TookNextBytes}
use Rattle.node_cell.specs.Reading.{IsInputOf}
use Rattle.node_lines.specs.declared.told.Told.{Told}
use Rattle.node_lines.specs.declared.told.Told.TheVariants as told
use Rattle.node_process.specs.Talk.{Process, IsAsFar}
use Rattle.node_process.specs.Steps.{Stepped}
use Rattle.node_process.proofs.Talking.{stepped_by}
use Rattle.node_process.proofs.process.NodeProcess.step.Goals as goal

pub returns-in-Comes-clause-ok : goal.returns-in-Comes-clause-ok
returns-in-Comes-clause-ok c t far =
    let before : IsAsFar (record { live = c.self.inside.live; commands = c.self.inside.commands }) t =
    subst (λ (p : Process). IsAsFar p t) (sym c.self.view_is) far in
    let after : Process = record { live = c.handle.new.self; commands = c.self.inside.commands } in
    subst (λ (tell : Told). IfOk c.handle.result (λ (taken : Taken). Stepped t tell taken after)) (sym c.in-Comes.is)
    (IfOk-weaker c.handle.result (λ (taken : Taken). TookNextBytes t.node t.last t.state c.as_slice.result.now taken c.handle.new.self)
    (λ (taken : Taken). Stepped t (told.Comes c.in-Comes.frame) taken after)
    (λ taken took. stepped_by t (told.Comes c.in-Comes.frame) took.input taken c.handle.new.self c.self.inside.commands
    (subst (λ (bytes : List ℕ). IsInputOf t.node bytes took.input) c.as_slice.ensures took.is) took.took before.commands_are)
    (c.handle.ensures.ok t.node t.last t.state before.is_at))

pub returns-in-Comes-clause-err : goal.returns-in-Comes-clause-err
returns-in-Comes-clause-err c t far =
    let before : IsAsFar (record { live = c.self.inside.live; commands = c.self.inside.commands }) t =
    subst (λ (p : Process). IsAsFar p t) (sym c.self.view_is) far in
    on_err_weaker c.handle.result (λ at. record { is_at = at; commands_are = before.commands_are })
    (c.handle.ensures.err t.node t.last t.state before.is_at)
