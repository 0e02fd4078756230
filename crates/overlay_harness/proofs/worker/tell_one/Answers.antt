use Rattle.std.proofs.Common.{◌≡◌, ◌∙◌, ◌∷◌, [], refl, sym, subst, ap}
use Rattle.ring_math.specs.Names.{Id}
use Rattle.scenario_reader.specs.declared.action.What.TheVariants as what
use Rattle.overlay_harness.specs.Stages.{said_to}
use Rattle.overlay_harness.proofs.Working.{comes_behind, told_own, told-other}
use Rattle.overlay_harness.proofs.worker.tell_one.Goals as goal

pub submit-requires : goal.submit-requires
submit-requires c =
    comes_behind (c.args.cell.now ∷ []) c.args.action.now c.args.cell.now 0 c.args.cell.now.node c.in-Some.said.number c.in-Some.said.command.now c.requires
    refl
    (record {
      is = c.in-Some.ensures.some ∙ ap (λ (x : Id). what.Command c.in-Some.said.number x c.in-Some.said.command.now) c.me.ensures;
    })

pub returns : goal.returns
returns c =
    c.in_ok-submit.ensures.ok
    ∙ sym (told_own c.args.action.now c.args.cell.now c.in-Some.said.number c.in-Some.said.command.now
    (record {
      is = c.in-Some.ensures.some ∙ ap (λ (x : Id). what.Command c.in-Some.said.number x c.in-Some.said.command.now) c.me.ensures;
    }))

pub returns-in_default : goal.returns-in_default
returns-in_default c =
    sym (told-other c.args.action.now c.args.cell.now
    (subst (λ (x : Id). said_to x c.args.action.now.what ≡ []) c.me.ensures c.in_default.ensures.none))
