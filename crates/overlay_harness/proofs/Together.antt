-- Histories of a scenario that were served by hand are those of a run.
use Rattle.std.proofs.Common.{◌≡◌, ◌≤◌, inl, inr, ℕ, zero, suc, ◌*◌, true, false, List, [], ◌∷◌, ◌++◌, map, filter, Contains, refl, sym, subst, ap, ◌∙◌, arith}
use Rattle.std.specs.List.{sum_by}
use Rattle.ring_math.specs.Names.{Number}
use Rattle.wire_msg.specs.declared.command.Command.{Command as NodeCommand}
use Rattle.overlay_rules.proofs.Each.{Each, Each-contains, Each-itself}
use Rattle.scenario_reader.specs.declared.node.NodeLine.{NodeLine}
use Rattle.scenario_reader.specs.declared.node.FileLine.{FileLine}
use Rattle.scenario_reader.specs.declared.tally.Tally.{Tally}
use Rattle.scenario_reader.specs.Rules.{AreActions}
use Rattle.weave_laws.specs.Answered.{AllSent}
use Rattle.weave_laws.specs.Cells.{CellEntry, CellInput, Command, Comes, Noise, History}
use Rattle.weave_laws.specs.Numbers.{HasNumber, ShareNoNumber}
use Rattle.overlay_harness.specs.Stages.{Stage, actions_of, commands_to, most_copies}
use Rattle.overlay_harness.specs.Inputs.{envelope_in, envelopes_in, is_command}
use Rattle.overlay_harness.specs.Clauses.{HasItsCommands, WasSentEnough}
use Rattle.overlay_harness.specs.Once.{TookOnce}
use Rattle.overlay_harness.specs.Served.{ServedTo}
use Rattle.overlay_harness.specs.Ran.{KeptStages, RanStages, all_sent, inputs_in}
use Rattle.overlay_harness.proofs.Along.{within_budgets}
use Rattle.overlay_harness.proofs.Hands.{sent_among, weigh_once}
use Rattle.overlay_harness.proofs.Numbering.{Among, one_node}

-- ---- no number stands in two histories

among_inputs : (es : List CellEntry) (e : CellEntry) (i : CellInput) → is_command i ≡ true → e.input ≡ i → Contains es e →
    Among i (filter is_command (map (λ (d : CellEntry). d.input) es))
among_inputs [] e i t is (k, lt, same) = absurd (omega arith)
among_inputs (d ∷ es) e i t is (zero, lt, same) =
    let here : d.input ≡ i = ap (λ (f : CellEntry). f.input) same ∙ is in
    subst (Among i) (sym (kept d.input (map (λ (f : CellEntry). f.input) es) (ap is_command here ∙ t))) (inl here) where
      kept : (j : CellInput) (inputs : List CellInput) → is_command j ≡ true → filter is_command (j ∷ inputs) ≡ j ∷ filter is_command inputs
      kept (Command n c) inputs e = refl
      kept (Comes v) inputs e = absurd (let no : false ≡ true = e in cc)
      kept Noise inputs e = absurd (let no : false ≡ true = e in cc)
among_inputs (d ∷ es) e i t is (suc k, lt, same) =
    passed d.input (map (λ (f : CellEntry). f.input) es) (among_inputs es e i t is (k, omega arith, same)) where
      passed : (j : CellInput) (inputs : List CellInput) → Among i (filter is_command inputs) → Among i (filter is_command (j ∷ inputs))
      passed (Command n c) inputs h = inr h
      passed (Comes v) inputs h = h
      passed Noise inputs h = h

-- a number in a history is that of a command to its node
number_said : (actions : List _) (h : History) (n : Number) → filter is_command (inputs_in h) ≡ commands_to h.node actions → HasNumber h.entries n →
    (c : NodeCommand) × Among (Command n c) (commands_to h.node actions)
number_said actions h n e k = (k.command, subst (Among (Command n k.command)) e (among_inputs h.entries k.entry (Command n k.command) refl k.is k.stands))

pub share_none : (nodes : List NodeLine) (files : List FileLine) (tally : Tally) (stages : List Stage) (hs : List History) →
    AreActions nodes files tally (actions_of stages) → Each (λ (h : History). HasItsCommands stages h.node (inputs_in h)) hs → ShareNoNumber hs
share_none nodes files tally stages hs rules each = record {
  one_node = λ h k n ch ck nh nk.
      let said = number_said (actions_of stages) h n (Each-contains (λ (j : History). HasItsCommands stages j.node (inputs_in j)) hs h each ch) nh in
      let other = number_said (actions_of stages) k n (Each-contains (λ (j : History). HasItsCommands stages j.node (inputs_in j)) hs k each ck) nk in
      one_node nodes files tally (actions_of stages) h.node k.node n said.0 other.0 rules said.1 other.1;
}

-- ---- what each keeps

some_copies : (stages : List Stage) → 1 ≤ most_copies stages
some_copies [] = omega arith
some_copies (s ∷ stages) = let rest = some_copies stages in omega arith

no_more : (k x : ℕ) → 1 ≤ k → x ≤ k * x
no_more (suc k) x le = omega arith
no_more zero x le = absurd (omega arith)

-- what came is among what was sent
came_among : (hs : List History) (h : History) → AllSent hs → Contains hs h → Each (λ v. Among v (all_sent hs)) (envelopes_in (inputs_in h))
came_among hs h all among = each h.entries (Each-itself h.entries) where
  each : (es : List CellEntry) → Each (Contains h.entries) es → Each (λ v. Among v (all_sent hs)) (envelopes_in (map (λ (e : CellEntry). e.input) es))
  each [] there = tt
  each (e ∷ es) there = by e.input refl (each es there.1) where
    rest : List CellInput
    rest = map (λ (d : CellEntry). d.input) es

    by : (i : CellInput) → e.input ≡ i → Each (λ v. Among v (all_sent hs)) (envelopes_in rest) →
        Each (λ v. Among v (all_sent hs)) (envelope_in i ++ envelopes_in rest)
    by (Command n c) is others = others
    by (Comes v) is others = (sent_among hs v (all.sent h e v among there.0 is), others)
    by Noise is others = others

sent_enough : (stages : List Stage) (hs : List History) (h : History) → AllSent hs → Contains hs h → TookOnce h →
    WasSentEnough stages (all_sent hs) (inputs_in h)
sent_enough stages hs h all among t = λ weight.
    let once = weigh_once weight (envelopes_in (inputs_in h)) (all_sent hs) t.once (came_among hs h all among) in
    let more = no_more (most_copies stages) (sum_by weight (all_sent hs)) (some_copies stages) in
    omega arith

pub kept_stages : (stages : List Stage) (hs : List History) (h : History) → ServedTo stages hs h → KeptStages stages hs h
kept_stages stages hs h s =
    record { commands = s.along.commands; budgets = within_budgets stages h.node (inputs_in h) s.along; served = s.served }

-- what took each envelope once besides
pub by_hand : (stages : List Stage) (hs : List History) (h : History) → AllSent hs → Contains hs h → ServedTo stages hs h → TookOnce h → RanStages stages hs h
by_hand stages hs h all among s t = record {
  kept = kept_stages stages hs h s;
  noise = (let none = t.no_noise in omega arith);
  sent = sent_enough stages hs h all among t;
}
