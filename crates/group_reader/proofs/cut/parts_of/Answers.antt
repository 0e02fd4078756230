use Rattle.std.proofs.Common.{◌∙◌, List, ℕ, sym}
use Rattle.std.proofs.lemmas.List.{take_rest}
use Rattle.group_reader.proofs.Cutting.{cut_next}
use Rattle.group_reader.proofs.cut.parts_of.Goals as goal

pub loop-from-preserved : goal.loop-from-preserved
loop-from-preserved c =
    let bytes : List ℕ = c.args.bytes.now in
    let from : ℕ = c.loop-from.from in
    let rest = take_rest bytes from in
    let end = c.line_end-end.ensures in
    let other = sym c.is_mark.ensures ∙ c.if-is_mark.false in
    cut_next bytes from c.loop-from.lines c.line_end-end.result c.min-next.result c.loop-from.invariant c.loop-from-test.true
    (rw rest at end.within) (rw rest at c.min-next.ensures) (rw rest at end.lines) (rw rest at end.alone) (rw rest at end.closed) (rw rest at other)
