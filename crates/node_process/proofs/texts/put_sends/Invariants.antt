use Rattle.std.proofs.Common.{◌≡◌, ◌++◌, take}
use Rattle.std.specs.List.{flat_map}
use Rattle.node_process.specs.Texts.{send_line}
use Rattle.node_process.proofs.texts.put_sends.Given as goal

-- the lines so far are written
abbrev pub invariant-loop-addressed : goal.invariant-loop-addressed
invariant-loop-addressed l = l.text ≡ l.initial.text ++ flat_map send_line (take l.addressed-index l.frames)
