use Rattle.std.proofs.Common.{length, slice_range}
use Rattle.overlay_rules.specs.Record.{sent_in}
use Rattle.course_picture.specs.Marks.{AreMarks}
use Rattle.course_picture.proofs.marks.marks.Given as goal

abbrev pub invariant-loop-place : goal.invariant-loop-place
invariant-loop-place l = AreMarks l.marks.items (length (sent_in l.front)) (slice_range l.front l.fn.first l.place)
