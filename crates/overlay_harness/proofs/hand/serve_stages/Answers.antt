use Rattle.std.proofs.Common.{◌∙◌, List, arith}
use Rattle.node_cell.specs.Cell.{Cell}
use Rattle.overlay_harness.specs.declared.stage.Stage.{Stage as CodeStage}
use Rattle.overlay_harness.proofs.Ending.{all_served, may_be_told_next, served_next}
use Rattle.overlay_harness.proofs.Made.{own_nodes}
use Rattle.overlay_harness.proofs.hand.serve_stages.Goals as goal

pub serve_by_hand-requires-clause-apart : goal.serve_by_hand-requires-clause-apart
serve_by_hand-requires-clause-apart c =
    own_nodes c.args.scenario.now c.loop-place.cells c.founder-founder.ensures.rules c.loop-place.invariant.served.cells_are

pub serve_by_hand-requires-clause-numbers : goal.serve_by_hand-requires-clause-numbers
serve_by_hand-requires-clause-numbers c =
    may_be_told_next c.args.scenario.now c.args.stages.now c.loop-place.place c.index-stages-place.result c.loop-place.cells c.founder-founder.ensures.rules
    (record { stages = c.requires.stages; within = c.loop-place-test.true; there = c.index-stages-place.is }) c.loop-place.invariant.served

pub loop-place-preserved : goal.loop-place-preserved
loop-place-preserved c =
    let codes : List CodeStage = c.args.stages.now in
    let code : CodeStage = c.index-stages-place.result in
    let news : List Cell = c.serve_by_hand.new.cells in
    record {
      served = served_next c.args.scenario.now codes c.loop-place.place code c.loop-place.cells news c.founder-founder.ensures.rules
          (record { stages = c.requires.stages; within = c.loop-place-test.true; there = c.index-stages-place.is }) c.loop-place.invariant.served
          (record {
            whole = c.in_ok-serve_by_hand.ensures.whole;
            sent = c.in_ok-serve_by_hand.ensures.sent;
            nodes_are = c.serve_by_hand.ensures.nodes;
            lawful = c.in_ok-serve_by_hand.ensures.lawful;
          });
      once = λ once. c.in_ok-serve_by_hand.ensures.once (c.loop-place.invariant.once once);
      nodes_are = c.serve_by_hand.ensures.nodes ∙ c.loop-place.invariant.nodes_are;
    }

pub returns-clause-served : goal.returns-clause-served
returns-clause-served c =
    all_served c.args.scenario.now c.args.stages.now c.loop-place.place c.loop-place.cells c.requires.stages (omega arith) c.loop-place.invariant.served
