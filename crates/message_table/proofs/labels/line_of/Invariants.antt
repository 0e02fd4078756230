use Rattle.std.proofs.Common.{◌≡◌, None, take}
use Rattle.std.specs.List.{find}
use Rattle.ring_math.specs.Bytewise.{same_bytes}
use Rattle.scenario_reader.specs.declared.node.FileLine.{FileLine}
use Rattle.message_table.proofs.labels.line_of.Given as goal

-- none so far has the identifier
abbrev pub invariant-loop-line : goal.invariant-loop-line
invariant-loop-line l = find (λ (line : FileLine). same_bytes line.file l.file) (take l.line-index l.files) ≡ None
