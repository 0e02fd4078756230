use Rattle.std.proofs.Common.{◌≤◌, ◌∙◌, ℕ, List, length, ap, arith}
use Rattle.std.proofs.lemmas.List.{length-map}
use Rattle.node_cell.specs.declared.entry.CellEntry.{CellEntry as CodeEntry}
use Rattle.node_cell.specs.Entries.{plain_entry, plain_history}
use Rattle.weave_laws.specs.Cells.{CellEntry}
use Rattle.weave.specs.Placed.{entry_at}
use Rattle.weave.proofs.Strands.{entry_left}
use Rattle.weave.proofs.given.GivenStrand.entry.Goals as goal

pub returns : goal.returns
returns c =
    let n : ℕ = c.self.inside.count in
    let es : List CellEntry = plain_history c.self.inside.entries.items in
    let index : ℕ = c.in_ok-index.field-0 in
    let le : length es ≤ n = let same = length-map c.self.inside.entries.items plain_entry in let within = c.self.invariant in omega arith in
    c.entry_of.ensures
    ∙ ap (λ (ds : List CodeEntry). entry_at (plain_history ds) index) c.deref.ensures.value
    ∙ (entry_left n es c.self.inside.node c.args.self.now c.args.place index le c.self.view_is c.in_ok-index.ensures.some).1
