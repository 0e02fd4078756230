use Rattle.std.proofs.Common.{◌≡◌, ◌≤◌, IfOk, List, length, ap, sym, subst, ◌∙◌, arith}
use Rattle.fragments.specs.declared.piece.Piece.{Piece}
use Rattle.fragments.proofs.Planned.{pieces_few, is_making, are_large_tasks, scenario_is}
use Rattle.fragments.proofs.large.large_scenario.Goals as goal

pub overflow_cast-fragments : goal.overflow_cast-fragments
overflow_cast-fragments c =
    let few = pieces_few c.args.seed c.args.size c.in_ok-pieces.pieces c.in_ok-pieces.ensures c.requires.fits in
    let same = ap (λ (ps : List Piece). length ps) c.as_slice.ensures in omega (arith, few, same)

pub declared_pieces-requires : goal.declared_pieces-requires
declared_pieces-requires c =
    pieces_few c.args.seed c.args.size c.in_ok-pieces.pieces c.in_ok-pieces.ensures c.requires.fits

pub large_plan-requires-clause-fragments : goal.large_plan-requires-clause-fragments
large_plan-requires-clause-fragments c =
    subst (λ (ps : List Piece). length ps ≤ 204) (sym c.as_slice.ensures)
    (pieces_few c.args.seed c.args.size c.in_ok-pieces.pieces c.in_ok-pieces.ensures c.requires.fits)

pub scenario_of-requires-clause-made : goal.scenario_of-requires-clause-made
scenario_of-requires-clause-made c =
    is_making c.args.nodes c.args.seed (length c.as_slice.result.now) c.in_ok-pieces.pieces c.in_ok-made.made c.in_ok-files.files.items c.deref.result.now
    (record {
      made = c.in_ok-made.ensures;
      files_are = c.in_ok-files.ensures;
      planned = c.deref.ensures.value ∙ c.in_ok-tasks.ensures;
      counted = ap (λ (ps : List Piece). length ps) c.as_slice.ensures;
    })
    c.requires.some c.requires.few
    (pieces_few c.args.seed c.args.size c.in_ok-pieces.pieces c.in_ok-pieces.ensures c.requires.fits)

pub scenario_of-requires-clause-tasks : goal.scenario_of-requires-clause-tasks
scenario_of-requires-clause-tasks c =
    are_large_tasks c.args.nodes c.args.seed (length c.as_slice.result.now) c.in_ok-pieces.pieces c.in_ok-made.made c.in_ok-files.files.items
    c.deref.result.now
    (record {
      made = c.in_ok-made.ensures;
      files_are = c.in_ok-files.ensures;
      planned = c.deref.ensures.value ∙ c.in_ok-tasks.ensures;
      counted = ap (λ (ps : List Piece). length ps) c.as_slice.ensures;
    })
    c.requires.some c.requires.few
    (pieces_few c.args.seed c.args.size c.in_ok-pieces.pieces c.in_ok-pieces.ensures c.requires.fits)

pub returns : goal.returns
returns c =
    subst (λ s. IfOk c.scenario_of.result (λ scenario. scenario ≡ s))
    (scenario_is c.args.nodes c.args.seed c.args.size (length c.as_slice.result.now) c.in_ok-pieces.pieces c.in_ok-made.made c.in_ok-files.files.items
    c.deref.result.now
    (record {
      made = c.in_ok-made.ensures;
      files_are = c.in_ok-files.ensures;
      planned = c.deref.ensures.value ∙ c.in_ok-tasks.ensures;
      counted = ap (λ (ps : List Piece). length ps) c.as_slice.ensures;
    })
    c.in_ok-pieces.ensures)
    c.scenario_of.ensures
