use Rattle.std.proofs.Common.{◌≡◌, length, take}
use Rattle.overlay_rules.specs.Record.{sent_in}
use Rattle.course_picture.proofs.front.sent_by.Given as goal

-- how much was sent so far
abbrev pub invariant-loop-place : goal.invariant-loop-place
invariant-loop-place l = l.count ≡ length (sent_in (take l.place l.entries))
