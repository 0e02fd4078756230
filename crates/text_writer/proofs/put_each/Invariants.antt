use Rattle.std.proofs.Common.{◌≡◌, ◌*◌, ◌++◌, take, drop}
use Rattle.hex.specs.Hex.{encode_lower}
use Rattle.text_writer.proofs.put_each.Given as goal

-- with the digits of what is left these are those of all bytes
abbrev pub invariant-loop-place : goal.invariant-loop-place
invariant-loop-place l = take (2 * l.place) l.digits ++ encode_lower (drop l.place l.bytes) ≡ encode_lower l.bytes
