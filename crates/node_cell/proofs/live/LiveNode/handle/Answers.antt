use Rattle.std.proofs.Common.{◌∙◌, ℕ, ap, subst}
use Rattle.std.proofs.lemmas.Result.{IfOk-weaker}
use Rattle.weave_laws.specs.Cells.{CellInput}
use Rattle.node_cell.specs.declared.live.Taken.{Taken}
use Rattle.node_cell.specs.Entries.{plain_input_of}
use Rattle.node_cell.specs.Live.{Live, TookNext, TookNextBytes}
use Rattle.node_cell.specs.Reading.{IsInputOf}
use Rattle.node_cell.proofs.live.LiveNode.handle.Goals as goal

pub returns-clause-ok : goal.returns-clause-ok
returns-clause-ok c x last s at =
    let i : CellInput = plain_input_of c.in_ok-input.input in
    let is : IsInputOf x c.args.frame.now i =
    subst (λ (y : ℕ). IsInputOf y c.args.frame.now i) (c.id.ensures ∙ ap (λ (l : Live). l.node.me) c.self.view_is ∙ at.me) c.in_ok-input.ensures in
    IfOk-weaker c.take_in.result (λ (taken : Taken). TookNext x last s i taken c.take_in.new.self)
    (λ (taken : Taken). TookNextBytes x last s c.args.frame.now taken c.take_in.new.self) (λ taken took. record { input = i; is = is; took = took })
    (c.take_in.ensures.ok x last s at)
