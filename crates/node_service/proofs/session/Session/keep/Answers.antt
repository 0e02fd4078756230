use Rattle.std.proofs.Common.{◌+◌, ◌∙◌, arith}
use Rattle.node_lines.specs.declared.limits.TheConstants.{MOST_FRAME_LINE}
use Rattle.node_service.proofs.Cutting.{cut_byte}
use Rattle.node_service.proofs.Keeping.{kept_more, kept_same}
use Rattle.node_service.proofs.session.Session.keep.Goals as goal

pub returns-then-len-gt-MOST_FRAME_LINE : goal.returns-then-len-gt-MOST_FRAME_LINE
returns-then-len-gt-MOST_FRAME_LINE c line p far = record {
  kept = kept_same (MOST_FRAME_LINE + 1) c.args.self.now.line.items line c.args.byte far.kept (omega (arith, c.len.ensures, c.if-len-gt-MOST_FRAME_LINE.true));
  begun = (cut_byte line c.args.byte far.begun c.requires).begun;
  process = far.process;
}

pub returns : goal.returns
returns c line p far = record {
  kept =
      c.in_ok-push.ensures.items
      ∙ kept_more (MOST_FRAME_LINE + 1) c.args.self.now.line.items line c.args.byte far.kept (omega (arith, c.len.ensures, c.if-len-gt-MOST_FRAME_LINE.false));
  begun = (cut_byte line c.args.byte far.begun c.requires).begun;
  process = far.process;
}
