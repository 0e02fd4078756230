use Rattle.std.proofs.Common.{ℕ, List, [], ◌∷◌, get_or, subst, sym, take, arith}
use Rattle.std.proofs.lemmas.List.{take_all, take_more}
use Rattle.node_service.specs.Session.{HasTaken}
use Rattle.node_service.proofs.Sessions.{taken_nothing, taken_then}
use Rattle.node_service.proofs.session.Session.take_piece.Goals as goal

pub loop-byte-init : goal.loop-byte-init
loop-byte-init c line p far = taken_nothing line p c.args.self.now c.args.text.now far

pub loop-byte-preserved : goal.loop-byte-preserved
loop-byte-preserved c line p far =
    subst (λ (bytes : List ℕ). HasTaken line p bytes c.take_byte.new.self c.args.text.now c.take_byte.new.text)
    (sym (take_more c.args.piece.now c.loop-byte.byte-index 0 c.loop-byte-test.true))
    (taken_then line p (take c.loop-byte.byte-index c.args.piece.now) (get_or c.args.piece.now c.loop-byte.byte-index 0 ∷ []) c.loop-byte.self
    c.take_byte.new.self c.args.text.now c.loop-byte.text c.take_byte.new.text (c.loop-byte.invariant line p far) c.in_ok-take_byte.ensures)

pub returns : goal.returns
returns c line p far =
    subst (λ (bytes : List ℕ). HasTaken line p bytes c.loop-byte.self c.args.text.now c.loop-byte.text)
    (take_all c.loop-byte.byte-index c.args.piece.now (omega arith)) (c.loop-byte.invariant line p far)
