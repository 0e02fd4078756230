use Rattle.std.proofs.Common.{◌∙◌, ◌+◌, ◌<◌, length, drop, arith, sym}
use Rattle.std.proofs.lemmas.List.{take_rest}
use Rattle.scenario_reader.proofs.Cuts.{NoneBelow-from_search}
use Rattle.scenario_reader.proofs.Marked.{find-nothing, find-here, find-later, place_within}
use Rattle.scenario_reader.proofs.named.find_named.Goals as goal

pub returns-then-eq : goal.returns-then-eq
returns-then-eq g c =
    let marks = c.args.marks.now in
    let from = c.loop-step.from in
    let n = c.in-Some.step in
    let rest = take_rest marks from in
    let none = rw (rest, c.mark_of-mark.ensures) at (NoneBelow-from_search c.mark_of-mark.result _ n c.in-Some.ensures.0.before) in
    let before : n < length (drop from marks) = rw rest at c.in-Some.ensures.0.high in
    let hit = rw c.name.ensures at (sym c.eq.ensures ∙ c.if-eq.true) in
    sym (find-here g.T.Named.name_of c.args.name.now c.args.items.now marks from n c.index-items-place.result c.requires before none c.index-items-place.is hit)
    ∙ c.loop-step.invariant.same

pub loop-step-preserved : goal.loop-step-preserved
loop-step-preserved g c =
    let marks = c.args.marks.now in
    let from = c.loop-step.from in
    let n = c.in-Some.step in
    let rest = take_rest marks from in
    let none = rw (rest, c.mark_of-mark.ensures) at (NoneBelow-from_search c.mark_of-mark.result _ n c.in-Some.ensures.0.before) in
    let before : n < length (drop from marks) = rw rest at c.in-Some.ensures.0.high in
    let missed = rw c.name.ensures at (sym c.eq.ensures ∙ c.if-eq.false) in
    let within : from + n < length c.args.items.now = place_within g.T.Named.name_of c.args.items.now marks from n c.requires before in
    record {
      within = omega (arith, within);
      same = sym (find-later g.T.Named.name_of c.args.name.now c.args.items.now marks from n c.index-items-place.result c.requires before none
          c.index-items-place.is missed) ∙ c.loop-step.invariant.same;
    }

pub returns : goal.returns
returns g c =
    let marks = c.args.marks.now in
    let from = c.loop-step.from in
    let none = rw (take_rest marks from, c.mark_of-mark.ensures) at
    (NoneBelow-from_search c.mark_of-mark.result _ _ (rw c.in_default.is at c.memchr.ensures)) in
    sym (find-nothing g.T.Named.name_of c.args.name.now c.args.items.now marks from c.requires c.loop-step.invariant.within none)
    ∙ c.loop-step.invariant.same
