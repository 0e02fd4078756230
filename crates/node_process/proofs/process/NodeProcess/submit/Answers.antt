use Rattle.std.proofs.Common.{◌≡◌, ◌+◌, ℕ, refl, sym, subst, arith}
use Rattle.weave_laws.specs.Cells.{Command}
use Rattle.node_cell.specs.Live.{TookNext}
use Rattle.node_lines.specs.declared.told.Told.TheVariants as told
use Rattle.node_process.specs.Talk.{Process, IsAsFar}
use Rattle.node_process.proofs.Talking.{on_err_from, stepped_by}
use Rattle.node_process.proofs.process.NodeProcess.submit.Goals as goal

pub returns-in_err-taken-clause-err : goal.returns-in_err-taken-clause-err
returns-in_err-taken-clause-err c t far =
    let before : IsAsFar (record { live = c.self.inside.live; commands = c.self.inside.commands }) t =
    subst (λ (p : Process). IsAsFar p t) (sym c.self.view_is) far in
    on_err_from c.from_residual.result (record {
      is_at = c.in_err-taken.ensures.err t.node t.last t.state before.is_at;
      commands_are = before.commands_are;
    })

pub returns-clause-ok : goal.returns-clause-ok
returns-clause-ok c t far =
    let before : IsAsFar (record { live = c.self.inside.live; commands = c.self.inside.commands }) t =
    subst (λ (p : Process). IsAsFar p t) (sym c.self.view_is) far in
    let are : c.self.inside.commands ≡ t.commands = before.commands_are in
    let next : c.in-Some.number ≡ t.commands + 1 = omega (arith, c.in-Some.ensures, are) in
    let took : TookNext t.node t.last t.state (Command (t.commands + 1) c.args.command.now) c.in_ok-taken.taken c.submit.new.self =
    subst (λ (n : ℕ). TookNext t.node t.last t.state (Command n c.args.command.now) c.in_ok-taken.taken c.submit.new.self) next
    (c.in_ok-taken.ensures.ok t.node t.last t.state before.is_at) in
    stepped_by t (told.Does c.args.command.now) (Command (t.commands + 1) c.args.command.now) c.in_ok-taken.taken c.submit.new.self c.in-Some.number
    refl took next
