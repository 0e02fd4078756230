use Rattle.std.proofs.Common.{◌≡◌, ◌++◌, drop}
use Rattle.delivery_report.specs.Deliveries.{note_lines}
use Rattle.delivery_report.proofs.deliveries.note_lines.Given as goal

-- the lines so far and those still to come
abbrev pub invariant-loop-note : goal.invariant-loop-note
invariant-loop-note l = l.text ++ note_lines l.names l.node (drop l.note-index l.notes) ≡ l.initial.text ++ note_lines l.names l.node l.notes
