use Rattle.std.proofs.Common.{arith}
use Rattle.schedule.specs.Made.{made_file}
use Rattle.schedule.proofs.Making.{file_made, file_after, made_more}
use Rattle.schedule.proofs.file.make_files.Goals as goal

pub loop-file-preserved : goal.loop-file-preserved
loop-file-preserved c = record {
  files = made_more (made_file c.args.nodes c.args.seed) c.loop-file.files.items c.push.new.self.items c.loop-file.file c.in_ok-make_file.field-0
      c.loop-file.invariant.files c.in_ok-push.ensures.items
      (file_made c.args.nodes c.args.seed c.loop-file.file c.in_ok-make_file.field-0 c.loop-file.words c.loop-file.invariant.words (omega arith)
      (omega arith) c.in_ok-make_file.ensures.file);
  words = file_after c.args.nodes c.args.seed c.loop-file.file c.loop-file.words c.make_file.new.words c.loop-file.invariant.words (omega arith)
      (omega arith) c.in_ok-make_file.ensures.after;
}
