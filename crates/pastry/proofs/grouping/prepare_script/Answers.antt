use Rattle.std.proofs.Common.{◌≡◌, ◌∙◌, List, sym, subst, ap}
use Rattle.ring_math.specs.Names.{Id}
use Rattle.overlay_rules.specs.declared.entry.Entry.{Entry}
use Rattle.overlay_rules.specs.Record.{IsRecord}
use Rattle.scenario_reader.specs.Plain.{PlainScenario, ids}
use Rattle.pastry.specs.Headline.{Headline}
use Rattle.pastry.proofs.grouping.prepare_script.Goals as goal

pub headline_law-requires : goal.headline_law-requires
headline_law-requires g c =
    let s : PlainScenario = c.args.script.now.scenario in
    let es : List Entry = c.in_ok-played.played.record.entries in
    let said : c.scenario-scenario.result.now ≡ s = c.scenario-scenario.ensures in
    let nodes : c.deref.result.now ≡ ids s.nodes =
    c.deref.ensures.value ∙ c.in_ok-nodes.ensures ∙ ap ids c.nodes.ensures.value ∙ ap (λ (t : PlainScenario). ids t.nodes) said in
    let founder : c.founder.result ≡ s.founder = c.founder.ensures.value ∙ ap (λ (t : PlainScenario). t.founder) said in
    subst (λ (x : Id). IsRecord (record { nodes = c.deref.result.now; founder = x }) es) (sym founder)
    (subst (λ (xs : List Id). IsRecord (record { nodes = xs; founder = s.founder }) es) (sym nodes) c.in_ok-played.ensures.played.played.legal)

pub returns : goal.returns
returns g c =
    let s : PlainScenario = c.args.script.now.scenario in
    let es : List Entry = c.in_ok-played.played.record.entries in
    let said : c.scenario-scenario.result.now ≡ s = c.scenario-scenario.ensures in
    let nodes : c.deref.result.now ≡ ids s.nodes =
    c.deref.ensures.value ∙ c.in_ok-nodes.ensures ∙ ap ids c.nodes.ensures.value ∙ ap (λ (t : PlainScenario). ids t.nodes) said in
    let founder : c.founder.result ≡ s.founder = c.founder.ensures.value ∙ ap (λ (t : PlainScenario). t.founder) said in
    let both = c.in_ok-played.ensures.played.played in
    record {
      is = record {
        played = record {
          entries = both.whole.entries;
          skipped = both.whole.skips;
          legal = both.legal;
          headline = subst (λ (x : Id). Headline (record { nodes = ids s.nodes; founder = x }) es) founder
              (subst (λ (xs : List Id). Headline (record { nodes = xs; founder = c.founder.result }) es) nodes c.headline_law.ensures);
        };
        both = both;
      };
      is_text = c.in_ok-played.ensures.played.is_text;
    }
