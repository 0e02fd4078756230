use Rattle.std.proofs.Common.{◌≡◌, map}
use Rattle.std.specs.List.{range_with_len}
use Rattle.fragments.specs.Pieces.{fragment}
use Rattle.fragments.proofs.cutting.pieces_of.Given as goal

abbrev pub invariant-loop-i : goal.invariant-loop-i
invariant-loop-i l =
    l.fragments.items ≡ map (fragment (record { name = l.name; owner = l.owner; salt = l.salt; bytes = l.bytes })) (range_with_len 0 l.i)
