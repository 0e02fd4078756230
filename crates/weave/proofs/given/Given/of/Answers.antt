use Rattle.std.proofs.Common.{◌≡◌, ◌∙◌, ℕ, List, length, ap, reverse, arith}
use Rattle.node_cell.specs.declared.entry.CellEntry.{CellEntry as CodeEntry}
use Rattle.node_cell.specs.Entries.{plain_history}
use Rattle.weave.specs.Strands.{left_of}
use Rattle.weave.proofs.Strands.{all_left}
use Rattle.weave.proofs.given.Given.of.Goals as goal

pub returns-clause-history : goal.returns-clause-history
returns-clause-history c =
    let came : List CodeEntry = c.into_history-entries.result.items in
    let turned : List CodeEntry = c.reverse.new.self.items in
    let is : turned ≡ reverse came = c.reverse.ensures.items in
    let count : c.len.result ≡ length (reverse came) =
    let told = c.len.ensures in let fits = c.reverse.new.self.ok in let same = ap length is in omega arith in
    let entries : left_of c.len.result (plain_history turned) ≡ c.args.cell.history =
    ap (λ (n : ℕ). left_of n (plain_history turned)) count
    ∙ ap (λ (es : List CodeEntry). left_of (length (reverse came)) (plain_history es)) is
    ∙ all_left came
    ∙ c.into_history-entries.ensures.value in
    λ i. record { node = c.me-node.ensures i; entries = entries i }
