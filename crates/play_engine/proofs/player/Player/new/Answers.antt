use Rattle.std.proofs.Common.{rules, ◌≡◌, sym, subst, ap, ◌∙◌}
use Rattle.scenario_reader.specs.Plain.{ids}
use Rattle.play_engine.specs.Progress.{Plays, Progress, progress_at_start}
use Rattle.play_engine.proofs.Starting.{is_setting_of, plays_at_start}
use Rattle.play_engine.proofs.player.Player.new.Goals as goal

pub new-requires : goal.new-requires
new-requires c =
    is_setting_of c.args.scenario.now _ _ (c.deref.ensures.value ∙ c.in_ok-nodes.ensures ∙ ap ids c.nodes.ensures.value) c.founder.ensures.value
    c.nodes.ensures.rules

pub returns-clause-plays : goal.returns-clause-plays
returns-clause-plays c =
    let start : ◌≡◌ {A = Progress} (record { recorded = c.in_ok-new.field-0; spot = c.new-2.result; skipped = 0 }) (progress_at_start c.args.scenario.now) =
    search rules in
    subst (Plays c.args.scenario.now) (sym start) (plays_at_start c.args.scenario.now c.nodes.ensures.rules)
