use Rattle.std.proofs.Common.{◌≡◌, ℕ, List, ap, sym, subst, ◌∙◌}
use Rattle.overlay_rules.specs.Record.{IsRecord}
use Rattle.scenario_reader.specs.declared.node.NodeLine.{NodeLine}
use Rattle.scenario_reader.specs.Plain.{ids}
use Rattle.schedule.specs.Schedule.{setting_of}
use Rattle.step_facts.specs.Setting.{setting}
use Rattle.play_engine.proofs.Wholes.{legal_record}
use Rattle.pastry.proofs.playing.finished.Goals as goal

pub headline_law-requires : goal.headline_law-requires
headline_law-requires c =
    let s = c.args.scenario.now in
    let es = c.finish-record.result.entries in
    let legal : IsRecord (setting_of s) es =
    legal_record s c.args.player _ c.requires.plays.on c.finish-record.ensures.legal c.finish-record.ensures.entries in
    let nodes : c.deref.result.now ≡ ids s.nodes =
    c.deref.ensures.value ∙ c.in_ok-nodes.ensures ∙ ap (λ (lines : List NodeLine). ids lines) c.nodes.ensures.value in
    subst (λ (xs : List ℕ). IsRecord (setting xs c.founder.result) es) (sym nodes)
    (subst (λ (x : ℕ). IsRecord (setting (ids s.nodes) x) es) (sym c.founder.ensures.value) legal)
