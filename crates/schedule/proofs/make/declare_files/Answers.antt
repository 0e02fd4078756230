use Rattle.std.proofs.Common.{IsTrue, get_or, sym, subst, ap, ◌∙◌}
use Rattle.scenario_reader.specs.Spelling.{is_name}
use Rattle.schedule.specs.declared.file.MadeFile.{MadeFile}
use Rattle.schedule.specs.Making.{file_line}
use Rattle.schedule.proofs.Adding.{next_file}
use Rattle.schedule.proofs.Names.{may_declare_file}
use Rattle.schedule.proofs.make.declare_files.Goals as goal

pub add_file-requires : goal.add_file-requires
add_file-requires c =
    may_declare_file c.loop-made.builder c.as_slice.result.now c.args.line
    (file_line c.loop-made.line (get_or c.args.files.now c.loop-made.made-index c.made-item.result)) _ c.args.files.now c.requires.few c.requires.names
    (next_file c.loop-made.line c.loop-made.made-index c.loop-made.builder.files _ c.args.files.now c.made-item.result c.loop-made-test.true
    c.loop-made.invariant.rest)
    (ap (λ (made : MadeFile). made.name) (sym c.made-item.is) ∙ sym c.as_slice.ensures.value)
    (subst (λ name. IsTrue (is_name name)) (sym c.as_slice.ensures.value) c.as_slice.ensures.spelled)
