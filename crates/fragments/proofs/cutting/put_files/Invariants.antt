use Rattle.std.proofs.Common.{◌≡◌, ◌++◌, take}
use Rattle.std.specs.List.{flat_map}
use Rattle.fragments.specs.declared.piece.Piece.{Piece}
use Rattle.fragments.proofs.cutting.put_files.Given as goal

abbrev pub invariant-loop-fragment : goal.invariant-loop-fragment
invariant-loop-fragment l = l.bytes.items ≡ l.fn.bytes.items ++ flat_map (λ (p : Piece). p.file) (take l.fragment-index l.fragments)
