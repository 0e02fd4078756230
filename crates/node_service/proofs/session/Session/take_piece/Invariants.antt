use Rattle.std.proofs.Common.{ℕ, List, Option, take}
use Rattle.node_process.specs.Talk.{Talk}
use Rattle.node_service.specs.Session.{HasTaken, IsFar}
use Rattle.node_service.proofs.session.Session.take_piece.Given as goal

-- the bytes so far are taken in
abbrev pub invariant-loop-byte : goal.invariant-loop-byte
invariant-loop-byte l = (line : List ℕ) (p : Option Talk) → IsFar l.fn.self line p → HasTaken line p (take l.byte-index l.piece) l.self l.fn.text l.text
