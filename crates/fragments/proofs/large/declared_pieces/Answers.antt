use Rattle.std.proofs.Common.{rules}
use Rattle.fragments.proofs.Planned.{x_spelled}
use Rattle.fragments.proofs.large.declared_pieces.Goals as goal

pub unwrap-name-requires : goal.unwrap-name-requires
unwrap-name-requires c = let spelled = x_spelled in search (rules, spelled)
