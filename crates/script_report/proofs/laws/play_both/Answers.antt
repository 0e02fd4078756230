use Rattle.std.proofs.Common.{◌∙◌, List, ap, subst}
use Rattle.play_engine.specs.Progress.{IsWhole, Plays}
use Rattle.scenario_reader.specs.declared.node.NodeLine.{NodeLine}
use Rattle.scenario_reader.specs.Plain.{PlainScenario, ids}
use Rattle.schedule.specs.Schedule.{setting_of}
use Rattle.world_model.specs.Recorded.{Recorded}
use Rattle.script_report.proofs.Both.{is_played_both, named_groups, named_record, named_steps, setting_named}
use Rattle.script_report.proofs.laws.play_both.Goals as goal

pub play_groups-requires : goal.play_groups-requires
play_groups-requires g c =
    ap (λ (r : Recorded). r.nodes) c.world.ensures ∙ c.in_ok-player.ensures.plays.on.nodes
    ∙ ap (λ (s : PlainScenario). ids s.nodes) c.scenario-scenario.ensures

pub all_laws-requires-clause-record_one : goal.all_laws-requires-clause-record_one
all_laws-requires-clause-record_one g c =
    let s : PlainScenario = c.scenario-scenario.result.now in
    let nodes = c.deref.ensures.value ∙ c.in_ok-nodes.ensures ∙ ap (λ (lines : List NodeLine). ids lines) c.nodes.ensures.value in
    named_record s c.in_ok-player.player _ _ c.in_ok-player.ensures.plays.on c.finish-record.ensures.entries
    (setting_named s _ _ nodes c.founder.ensures.value) c.finish-record.ensures.legal

pub all_laws-requires-clause-groups : goal.all_laws-requires-clause-groups
all_laws-requires-clause-groups g c =
    let s : PlainScenario = c.scenario-scenario.result.now in
    let nodes = c.deref.ensures.value ∙ c.in_ok-nodes.ensures ∙ ap (λ (lines : List NodeLine). ids lines) c.nodes.ensures.value in
    named_groups s c.in_ok-player.player _ _ _ _ c.in_ok-player.ensures.plays.on c.world.ensures c.finish-record.ensures.entries
    (setting_named s _ _ nodes c.founder.ensures.value) c.in_ok-steps.ensures.legal

pub returns-clause-steps : goal.returns-clause-steps
returns-clause-steps g c =
    let plays = subst (λ (s : PlainScenario). Plays s c.in_ok-player.player) c.scenario-scenario.ensures c.in_ok-player.ensures.plays in
    named_steps c.args.script.now c.in_ok-player.player _ _ _ plays.on c.world.ensures c.finish-record.ensures.entries c.in_ok-steps.ensures.played

pub returns-clause-played : goal.returns-clause-played
returns-clause-played g c =
    let s : PlainScenario = c.scenario-scenario.result.now in
    let player = c.in_ok-player.player in
    let same = c.scenario-scenario.ensures in
    let plays = subst (λ (t : PlainScenario). Plays t player) same c.in_ok-player.ensures.plays in
    let whole = subst (λ (t : PlainScenario). IsWhole t player.recorded.entries player.skipped) same c.in_ok-player.ensures.whole in
    let nodes = c.deref.ensures.value ∙ c.in_ok-nodes.ensures ∙ ap (λ (lines : List NodeLine). ids lines) c.nodes.ensures.value in
    let named = setting_named s _ _ nodes c.founder.ensures.value in
    is_played_both c.args.script.now player c.finish-record.result c.in_ok-steps.steps _ plays whole c.finish-record.ensures.legal
    c.finish-record.ensures.entries c.finish-record.ensures.skipped
    (named_steps c.args.script.now player _ _ _ plays.on c.world.ensures c.finish-record.ensures.entries c.in_ok-steps.ensures.played)
    (named_groups s player _ _ _ _ c.in_ok-player.ensures.plays.on c.world.ensures c.finish-record.ensures.entries named c.in_ok-steps.ensures.legal)
    (named ∙ ap (λ (t : PlainScenario). setting_of t) same) c.all_laws.ensures
