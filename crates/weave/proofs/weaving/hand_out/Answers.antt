use Rattle.std.proofs.Common.{◌<◌, length, get_or, arith}
use Rattle.std.proofs.lemmas.List.{get_or_default, length-map}
use Rattle.weave.proofs.Strands.{keeps_others}
use Rattle.weave.proofs.weaving.hand_out.Goals as goal

pub returns-clause-others : goal.returns-clause-others
returns-clause-others g c =
    let lt : c.args.act.now.history < length c.args.strands.now =
    let long = length-map c.args.strands.now g.S.Strand.history in let within = c.requires.within.history in omega arith in
    let strand = get_or c.args.strands.now c.args.act.now.history c.index-strands-act.result in
    keeps_others g.S.Strand.history c.args.strands.now c.args.act.now strand c.hand_out.new.self lt
    (get_or_default c.args.strands.now c.args.act.now.history c.index-strands-act.result strand lt)
    c.in_ok-hand_out.ensures.node c.in_ok-hand_out.ensures.long c.in_ok-hand_out.ensures.others
