use Rattle.std.proofs.Common.{◌≡◌, false, arith}
use Rattle.std.proofs.lemmas.Bool.Decides.{nat_tests}
use Rattle.std.proofs.lemmas.Result.{on_ok_weaker}
use Rattle.node_service.specs.Cut.{is_end}
use Rattle.node_service.proofs.Sessions.{taken_byte}
use Rattle.node_service.proofs.session.Session.take_byte.Goals as goal

pub returns-else-byte-eq10 : goal.returns-else-byte-eq10
returns-else-byte-eq10 c line p far =
    let goes_on : is_end c.args.byte ≡ false = grind (arith, nat_tests, c.if-byte-eq10.false) in
    on_ok_weaker c.keep.result (λ kept. taken_byte line p c.args.byte c.keep.new.self c.args.text.now far.begun goes_on kept) (c.keep.ensures line p far)
