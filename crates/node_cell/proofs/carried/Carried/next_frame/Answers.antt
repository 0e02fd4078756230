use Rattle.std.proofs.Common.{◌≡◌, None, rules, sym}
use Rattle.std.proofs.lemmas.Option.{same_Some}
use Rattle.node_cell.proofs.Serves.{own-after_take, keeps-after_take}
use Rattle.node_cell.proofs.carried.Carried.next_frame.Goals as goal

pub returns-clause-passes : goal.returns-clause-passes
returns-clause-passes g c =
    own-after_take c.args.post.now c.args.node c.args.self.now.passes c.take-2.new.self c.in_ok-place.place c.take-2.result
    c.in_ok-place.ensures.some c.take-2.ensures.some c.take-2.ensures.none c.take-2.ensures.of c.requires.passes

pub returns-clause-kept : goal.returns-clause-kept
returns-clause-kept g c es kept =
    let no_hand : c.args.self.now.in_hand ≡ None = search rules in
    keeps-after_take c.args.post.now c.args.node es c.args.self.now c.take-2.new.self c.in_ok-place.place c.take-2.result
    (λ y at. sym (same_Some c.in_ok-place.place y (c.in_ok-place.ensures.only y at))) c.in_ok-place.ensures.some no_hand c.take-2.ensures.some
    c.requires.passes kept
