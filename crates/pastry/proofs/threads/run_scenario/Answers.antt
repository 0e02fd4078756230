use Rattle.std.proofs.Common.{◌≡◌, ◌∙◌, List, sym, subst, ap}
use Rattle.ring_math.specs.Names.{Id}
use Rattle.overlay_rules.specs.declared.entry.Entry.{Entry}
use Rattle.overlay_rules.specs.Record.{IsRecord}
use Rattle.scenario_reader.specs.Plain.{PlainScenario, ids}
use Rattle.play_engine.proofs.Starting.{is_setting}
use Rattle.pastry.specs.Headline.{Headline}
use Rattle.pastry.proofs.threads.run_scenario.Goals as goal

pub headline_law-requires : goal.headline_law-requires
headline_law-requires g c =
    let s : PlainScenario = c.args.scenario.now in
    let es : List Entry = c.in_ok-record.record.entries in
    let nodes : c.deref.result.now ≡ ids s.nodes = c.deref.ensures.value ∙ c.in_ok-nodes.ensures ∙ ap ids c.nodes.ensures.value in
    subst (λ (x : Id). IsRecord (record { nodes = c.deref.result.now; founder = x }) es) (sym c.founder.ensures.value)
    (subst (λ (xs : List Id). IsRecord (record { nodes = xs; founder = s.founder }) es) (sym nodes)
    (record { setting = is_setting s c.nodes.ensures.rules; said = c.said_law.ensures; legal = c.in_ok-record.ensures.run.legal }))

pub returns-clause-run : goal.returns-clause-run
returns-clause-run g c =
    let s : PlainScenario = c.args.scenario.now in
    let es : List Entry = c.in_ok-record.record.entries in
    let nodes : c.deref.result.now ≡ ids s.nodes = c.deref.ensures.value ∙ c.in_ok-nodes.ensures ∙ ap ids c.nodes.ensures.value in
    record {
      is_run = c.in_ok-record.ensures.run;
      legal = record { setting = is_setting s c.nodes.ensures.rules; said = c.said_law.ensures; legal = c.in_ok-record.ensures.run.legal };
      headline = subst (λ (x : Id). Headline (record { nodes = ids s.nodes; founder = x }) es) c.founder.ensures.value
          (subst (λ (xs : List Id). Headline (record { nodes = xs; founder = c.founder.result }) es) nodes c.headline_law.ensures);
    }
