use Rattle.std.proofs.Common.{◌≡◌, All, map, take}
use Rattle.wire_msg.specs.Words.{plain_envelope}
use Rattle.node_cell.specs.Cell.{frame_of}
use Rattle.node_cell.specs.Kept.{HasFrame}
use Rattle.node_cell.proofs.frames.frames_of.Given as goal

-- the frames of the envelopes so far
abbrev pub invariant-loop-envelope : goal.invariant-loop-envelope
invariant-loop-envelope l = record {
  frames : l.frames.items ≡ map frame_of (map plain_envelope (take l.envelope-index l.envelopes));
  spelled : All HasFrame (map plain_envelope (take l.envelope-index l.envelopes));
}
