use Rattle.std.proofs.Common.{rules, ◌∙◌}
use Rattle.text_writer.proofs.Blocks.{block_written}
use Rattle.text_writer.proofs.put_blocks.Goals as goal

pub loop-block-preserved : goal.loop-block-preserved
loop-block-preserved c = record {
  within = search rules;
  length = search rules;
  digits = block_written c.args.bytes.now c.loop-block.digits c.in-Some.block.now c.copy_from_slice.new.self c.loop-block.place 8 _
      c.in-Some.ensures.cases.enough c.in-Some.ensures.cases.same (c.copy_from_slice.ensures.after ∙ c.block_digits.ensures)
      c.loop-block.invariant.within c.loop-block.invariant.length c.loop-block.invariant.digits;
}
