use Rattle.std.proofs.Common.{◌≤◌, ◌<◌, ℕ, List, length, get_or, subst, sym, ap, ◌∙◌, arith}
use Rattle.std.proofs.lemmas.List.{get_or_default}
use Rattle.overlay_rules.proofs.Each.{Each, Each-from_all}
use Rattle.weave_laws.specs.Answered.{AllSent}
use Rattle.node_cell.specs.Cell.{Cell}
use Rattle.node_cell.specs.Equipped.{HasPassesOf}
use Rattle.node_cell.specs.Histories.{histories}
use Rattle.node_cell.proofs.Gathered.{Gathered, all_parts, all_sent, gathering_none, gathering_more, gathering_end, same_histories}
use Rattle.node_cell.proofs.gathering.gather.Goals as goal

pub loop-place-init : goal.loop-place-init
loop-place-init g c = record { passes = gathering_none c.args.post.now c.args.own c.args.cells.now c.requires.own }

pub loop-place-preserved : goal.loop-place-preserved
loop-place-preserved g c =
    let i : ℕ = c.loop-place.place in
    let start : List Cell = c.args.cells.now in
    let now : List Cell = c.loop-place.cells in
    let cell : Cell = get_or now i c.index-cells-place.result in
    let lt : i < length start = c.loop-place-test.true in
    record {
      passes = gathering_more c.args.post.now i c.args.own start now c.loop-place.all c.join.new.self cell c.unequip-passes.result.0
          c.unequip-passes.result.1 c.unequip-passes.new.self lt
          (get_or_default now i c.index-cells-place.result cell (omega (arith, c.loop-place.auto.cells)))
          c.unequip-passes.ensures c.join.ensures.of c.join.ensures.joined c.join.ensures.was_put c.loop-place.invariant.passes;
    }

pub returns-clause-parts : goal.returns-clause-parts
returns-clause-parts g c =
    let end : length c.args.cells.now ≤ c.loop-place.place = omega arith in
    let of : Each (HasPassesOf c.args.post.now) c.args.cells.now = Each-from_all (HasPassesOf c.args.post.now) c.args.cells.now c.requires.cells in
    let all : Gathered c.args.own c.args.cells.now c.loop-place.cells c.loop-place.all =
    gathering_end c.args.post.now c.loop-place.place c.args.own c.args.cells.now c.loop-place.cells c.loop-place.all end c.requires.nodes
    c.loop-place.invariant.passes in
    all_parts c.args.post.now c.args.own c.args.cells.now c.loop-place.all c.requires.own of c.requires.parts all.joined
    c.loop-place.invariant.passes.of

pub returns-clause-sent : goal.returns-clause-sent
returns-clause-sent g c =
    let end : length c.args.cells.now ≤ c.loop-place.place = omega arith in
    let of : Each (HasPassesOf c.args.post.now) c.args.cells.now = Each-from_all (HasPassesOf c.args.post.now) c.args.cells.now c.requires.cells in
    let all : Gathered c.args.own c.args.cells.now c.loop-place.cells c.loop-place.all =
    gathering_end c.args.post.now c.loop-place.place c.args.own c.args.cells.now c.loop-place.cells c.loop-place.all end c.requires.nodes
    c.loop-place.invariant.passes in
    subst AllSent (sym (ap histories all.cells ∙ same_histories c.args.cells.now))
    (all_sent c.args.post.now c.args.own c.args.cells.now c.loop-place.all c.requires.own of c.requires.parts c.requires.noise all.joined
    c.loop-place.invariant.passes.of all.fair all.kept)
