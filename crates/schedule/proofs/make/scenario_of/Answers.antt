-- The founder is the first of the nodes that were declared.
use Rattle.std.proofs.Common.{ap, ◌∙◌, arith}
use Rattle.scenario_reader.specs.Plain.{Draft}
use Rattle.schedule.proofs.Keeping.{may_found}
use Rattle.schedule.proofs.make.scenario_of.Goals as goal

pub set_founder-requires : goal.set_founder-requires
set_founder-requires c =
    let some = c.requires.made.some in
    let files = c.in_ok-declare_files.ensures in
    let nodes = c.in_ok-declare_nodes.ensures in
    may_found c.args.made.now.nodes c.args.made.now.seed _ _ (omega arith)
    (ap (λ (draft : Draft). draft.founder) files ∙ ap (λ (draft : Draft). draft.founder) nodes ∙ ap (λ (draft : Draft). draft.founder) c.new-builder.ensures)
    (ap (λ (draft : Draft). draft.nodes) files ∙ ap (λ (draft : Draft). draft.nodes) nodes)
    c.id.ensures
