use Rattle.std.proofs.Common.{◌∙◌, List, ap, get_or-set_other}
use Rattle.std.proofs.lemmas.List.{map-set}
use Rattle.node_cell.specs.Entries.{plain_entry, plain_history}
use Rattle.weave_laws.specs.Cells.{CellEntry}
use Rattle.weave.specs.Placed.{entry_at}
use Rattle.weave.proofs.given.take_out.Goals as goal

pub returns-clause-others : goal.returns-clause-others
returns-clause-others c = λ k ne.
    ap (λ (es : List CellEntry). entry_at es k) (map-set plain_entry c.args.entries.now.items c.args.index _)
    ∙ get_or-set_other (plain_history c.args.entries.now.items) c.args.index k _ _ ne
