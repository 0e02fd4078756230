use Rattle.std.proofs.Common.{sym, ◌∙◌}
use Rattle.ring_math.specs.Bytewise.{same_bytes}
use Rattle.scenario_reader.specs.declared.node.FileLine.{FileLine}
use Rattle.message_table.proofs.Found.{find-here, find-past}
use Rattle.message_table.proofs.labels.line_of.Goals as goal

pub returns-then-eq : goal.returns-then-eq
returns-then-eq c =
    sym (find-here (λ (line : FileLine). same_bytes line.file c.args.file.now) c.args.files.now c.loop-line.line-index c.line-item.result
    c.loop-line-test.true c.line-item.is c.loop-line.invariant (sym c.eq.ensures ∙ c.if-eq.true))

pub loop-line-preserved : goal.loop-line-preserved
loop-line-preserved c =
    find-past (λ (line : FileLine). same_bytes line.file c.args.file.now) c.args.files.now c.loop-line.line-index c.line-item.result
    c.loop-line-test.true c.line-item.is c.loop-line.invariant (sym c.eq.ensures ∙ c.if-eq.false)
