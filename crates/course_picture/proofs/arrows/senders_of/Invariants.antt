use Rattle.std.proofs.Common.{◌≡◌, ◌++◌, replicate, take}
use Rattle.course_picture.specs.Arrows.{senders_from}
use Rattle.course_picture.proofs.arrows.senders_of.Given as goal

-- the senders of what the entries so far sent
abbrev pub invariant-loop-place : goal.invariant-loop-place
invariant-loop-place l = l.senders.items ≡ senders_from 0 (take l.place l.front)

-- and of the messages so far of this entry
abbrev pub invariant-loop-message : goal.invariant-loop-message
invariant-loop-message l = l.senders.items ≡ l.initial.senders.items ++ replicate l._message-index l.place
