use Rattle.std.proofs.Common.{◌≡◌, ◌+◌, ◌++◌, drop}
use Rattle.schedule.specs.Making.{file_lines}
use Rattle.schedule.proofs.make.declare_files.Given as goal

abbrev pub invariant-loop-made : goal.invariant-loop-made
invariant-loop-made l = record {
  rest : l.builder.files ++ file_lines l.line (drop l.made-index l.files) ≡ file_lines l.fn.line l.files;
  same : l.builder ≡ record l.fn.builder { files = l.builder.files };
  line : l.line ≡ l.fn.line + l.made-index;
}
