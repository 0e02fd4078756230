use Rattle.std.proofs.Common.{◌≤◌, ◌∙◌, ℕ, List, length, ap, arith}
use Rattle.std.proofs.lemmas.List.{length-map}
use Rattle.node_cell.specs.declared.entry.CellEntry.{CellEntry as CodeEntry}
use Rattle.node_cell.specs.Entries.{plain_entry, plain_history}
use Rattle.weave_laws.specs.Cells.{CellEntry, History}
use Rattle.weave.specs.Placed.{entry_at}
use Rattle.weave.proofs.Strands.{entry_left, others_left}
use Rattle.weave.proofs.given.GivenStrand.hand_out.Goals as goal

fewer : (es : List CodeEntry) (n : ℕ) → length es ≤ n → length (plain_history es) ≤ n
fewer es n le = let same = length-map es plain_entry in omega arith

pub returns-clause-messages : goal.returns-clause-messages
returns-clause-messages c =
    let es : List CodeEntry = c.self.inside.entries.items in
    let n : ℕ = c.self.inside.count in
    c.in_ok-take_out.ensures.messages
    ∙ ap (λ (e : CellEntry). e.sent)
    (entry_left n (plain_history es) c.self.inside.node c.args.self.now c.args.place c.in-Some.index (fewer es n c.self.invariant) c.self.view_is
    c.in-Some.ensures.some).1

pub returns-clause-notes : goal.returns-clause-notes
returns-clause-notes c =
    let es : List CodeEntry = c.self.inside.entries.items in
    let n : ℕ = c.self.inside.count in
    c.in_ok-take_out.ensures.notes
    ∙ ap (λ (e : CellEntry). e.notes)
    (entry_left n (plain_history es) c.self.inside.node c.args.self.now c.args.place c.in-Some.index (fewer es n c.self.invariant) c.self.view_is
    c.in-Some.ensures.some).1

pub returns-clause-others : goal.returns-clause-others
returns-clause-others c = λ k ne.
    let n : ℕ = c.self.inside.count in
    let es : List CodeEntry = c.self.inside.entries.items in
    let after : List CodeEntry = c.drop_last.new.entries.items in
    let le : length es ≤ n = c.self.invariant in
    let less : length after ≤ n = let taken = c.take_out.ensures.long in let dropped = c.drop_last.ensures.long in omega arith in
    others_left n (plain_history es) (plain_history after) c.args.place c.in-Some.index (fewer es n le) (fewer after n less)
    (entry_left n (plain_history es) c.self.inside.node c.args.self.now c.args.place c.in-Some.index (fewer es n le) c.self.view_is
    c.in-Some.ensures.some).0
    (λ j other. c.drop_last.ensures.others j other ∙ c.in_ok-take_out.ensures.others j other) k ne
    ∙ ap (λ (h : History). entry_at h.entries k) c.self.view_is
