use Rattle.std.proofs.Common.{◌≡◌, ◌≤◌, ◌*◌, ◌++◌, ◌-◌, drop, length, take}
use Rattle.hex.specs.Hex.{encode_lower}
use Rattle.text_writer.proofs.put_blocks.Given as goal

-- with the digits of what is left these are those of all bytes
abbrev pub invariant-loop-block : goal.invariant-loop-block
invariant-loop-block l = record {
  within : l.place ≤ length l.bytes;
  length : length l.digits ≡ 2 * length l.bytes;
  digits : take (2 * l.place) l.digits ++ encode_lower (drop l.place l.bytes) ≡ encode_lower l.bytes;
}

abbrev pub decreases-loop-block : goal.decreases-loop-block
decreases-loop-block l = length l.bytes - l.place
