-- Histories of cells that ran the stages of a scenario are woven into a run of it.
use Rattle.std.proofs.Common.{◌≡◌, inl, inr, suc, ◌==◌, true, List, [], ◌∷◌, ◌++◌, map, All, Contains, refl, sym, subst, ap, ◌∙◌, arith}
use Rattle.std.specs.List.{AllZip, flat_map, sum_by}
use Rattle.std.proofs.Math.Nat.{mul-le-mul_left}
use Rattle.std.proofs.lemmas.List.Concat.{flat_map-cons}
use Rattle.ring_math.specs.Names.{Id}
use Rattle.wire_msg.specs.Words.{Envelope}
use Rattle.overlay_rules.specs.declared.entry.Event.{Event}
use Rattle.overlay_rules.specs.declared.entry.Entry.{Entry}
use Rattle.overlay_rules.specs.declared.entry.Record.{Record}
use Rattle.overlay_rules.specs.Record.{Setting, all_differ, sent_in}
use Rattle.overlay_rules.proofs.Each.{Each, Each-all, Each-contains, Each-itself, Each-weaker}
use Rattle.scenario_reader.specs.Plain.{PlainScenario, ids}
use Rattle.schedule.specs.Schedule.{setting_of}
use Rattle.weave_laws.specs.Cells.{CellEntry, CellInput, Command, Comes, Noise, History, nodes_of}
use Rattle.weave_laws.specs.Given.{history_of}
use Rattle.weave_laws.specs.Histories.{AreHistories}
use Rattle.weave_laws.specs.Woven.{Act, IsEventOf, IsEntryOf, IsWoven}
use Rattle.weave_laws.proofs.Lawful.{history_in, woven_is_legal}
use Rattle.weave_laws.proofs.OneMore.{history_is_given}
use Rattle.weave_laws.proofs.Parts.{StandsIn, stand_in}
use Rattle.overlay_harness.specs.Stages.{Stage, most_copies, stages_of}
use Rattle.overlay_harness.specs.Enough.{CameAtMost, delivered}
use Rattle.overlay_harness.specs.Inputs.{envelopes_in, history_at, inputs_at}
use Rattle.overlay_harness.specs.Clauses.{HasItsCommands, HasItsNoise, IsServed, IsWithinBudgets, WasSentEnough, is_late}
use Rattle.overlay_harness.specs.Ran.{KeptStages, RanStages, SentInTime, all_sent, inputs_in}
use Rattle.overlay_harness.specs.Run.{IsRunAt, IsRunOf, WasSentInTime, is_late_event}
use Rattle.overlay_harness.proofs.Brought.{inputs_are}
use Rattle.overlay_harness.proofs.Counting.{brought_weigh}
use Rattle.overlay_harness.proofs.Weights.{sent_weigh}

sent_is : (sent : List Envelope) (acts : List Act) (es : List Entry) → AllZip (IsEntryOf sent) acts es → sent_in es ≡ flat_map (λ (a : Act). a.entry.sent) acts
sent_is sent [] [] z = refl
sent_is sent [] (e ∷ es) z = absurd z
sent_is sent (a ∷ acts) [] z = absurd z
sent_is sent (a ∷ acts) (e ∷ es) z =
    ap (λ vs. vs ++ sent_in es) z.0.messages ∙ ap (λ vs. a.entry.sent ++ vs) (sent_is sent acts es z.1)
    ∙ sym (flat_map-cons (λ (d : Act). d.entry.sent) a acts)

-- ---- each history is the one that its inputs in the record give

history_is : (g : Setting) (hs : List History) (r : Record) → AreHistories g hs → IsWoven hs r → (h : History) → Contains hs h →
    history_at g r.entries h.node ≡ h
history_is g hs r own w h c =
    let same : history_of h.node (h.node == g.founder) (inputs_at h.node r.entries) ≡ h.entries =
    ap (history_of h.node (h.node == g.founder)) (inputs_are g hs r own w h c)
    ∙ sym (history_is_given h.node (h.node == g.founder) h.entries (history_in g hs own h c).cell) in
    ap (kept h.node) same where
      kept : Id → List CellEntry → History
      kept x es = record { node = x; entries = es }

map_back : (f : Id → History) (hs : List History) → Each (λ (h : History). f h.node ≡ h) hs → map f (nodes_of hs) ≡ hs
map_back f [] e = refl
map_back f (h ∷ hs) e = ap (λ k. k ∷ map f (nodes_of hs)) e.0 ∙ ap (λ ks. h ∷ ks) (map_back f hs e.1)

histories_are : (g : Setting) (hs : List History) (r : Record) → AreHistories g hs → IsWoven hs r → map (history_at g r.entries) (nodes_of hs) ≡ hs
histories_are g hs r own w =
    map_back (history_at g r.entries) hs
    (Each-weaker (Contains hs) (λ (h : History). history_at g r.entries h.node ≡ h) hs (λ h c. history_is g hs r own w h c) (Each-itself hs))

-- ---- what was sent in time

record IsZipped (R : Act → Entry → Type 0) (acts : List Act) (e : Entry) : Type 0 where
  act : Act
  among : Contains acts act
  is : R act e

zipped : (R : Act → Entry → Type 0) (acts : List Act) (es : List Entry) → AllZip R acts es → Each (IsZipped R acts) es
zipped R [] [] z = tt
zipped R [] (e ∷ es) z = absurd z
zipped R (a ∷ acts) [] z = absurd z
zipped R (a ∷ acts) (e ∷ es) z = (
  record { act = a; among = (0, omega arith, refl); is = z.0 },
  Each-weaker (IsZipped R acts) (IsZipped R (a ∷ acts)) es
      (λ d k. record { act = k.act; among = (suc k.among.0, (let l = k.among.1 in omega arith), k.among.2); is = k.is }) (zipped R acts es z.1),
)

late_same : (stages : List Stage) (sent : List Envelope) (x : Id) (i : CellInput) (e : Event) → IsEventOf sent x i e →
    is_late_event stages e ≡ is_late stages i
late_same stages sent x (Command n c) e h = ap (is_late_event stages) h
late_same stages sent x (Comes v) e (m, is, number) = ap (is_late_event stages) is
late_same stages sent x Noise e h = ap (is_late_event stages) h

in_time : (stages : List Stage) (hs : List History) (r : Record) → (w : IsWoven hs r) → (v : Envelope) → WasSentInTime stages r.entries v →
    SentInTime stages hs v
in_time stages hs r w v s =
    let sent = sent_in r.entries in
    let own = Each-contains (IsZipped (IsEntryOf sent) w.acts) r.entries s.entry (zipped (IsEntryOf sent) w.acts r.entries w.entries) s.stands in
    let at = Each-contains (λ (a : Act). StandsIn hs a.node a.entry) w.acts own.act (stand_in hs w.acts w.order) own.among in
    record {
      history = at.history;
      among = at.among;
      entry = own.act.entry;
      stands = at.stands;
      in_time = sym (late_same stages sent own.act.node own.act.entry.input s.entry.event own.is.event) ∙ s.in_time;
      sent = subst (λ vs. Contains vs v) own.is.messages s.sent;
    }

-- ---- at each node

-- what a history keeps, and what came in it of what the record has as sent
pub record RunsIn (stages : List Stage) (hs : List History) (r : Record) (h : History) : Type 0 where
  pub kept : KeptStages stages hs h
  pub noise : HasItsNoise stages h.node (inputs_in h)
  pub sent : WasSentEnough stages (sent_in r.entries) (inputs_in h)

run_at : (stages : List Stage) (hs : List History) (r : Record) → (w : IsWoven hs r) → (h : History) →
    inputs_at h.node r.entries ≡ inputs_in h → RunsIn stages hs r h → IsRunAt stages r.entries h.node
run_at stages hs r w h same ran = record {
  commands = subst (HasItsCommands stages h.node) (sym same) ran.kept.commands;
  budgets = subst (IsWithinBudgets stages) (sym same) ran.kept.budgets;
  served = subst (IsServed stages (WasSentInTime stages r.entries) h.node) (sym same) (served ran.kept.served);
  noise = subst (HasItsNoise stages h.node) (sym same) ran.noise;
  sent = subst (WasSentEnough stages (sent_in r.entries)) (sym same) ran.sent;
} where
  served : IsServed stages (SentInTime stages hs) h.node (inputs_in h) → IsServed stages (WasSentInTime stages r.entries) h.node (inputs_in h)
  served (inl full) = inl full
  served (inr none) = inr (λ v s m. none v (in_time stages hs r w v s) m)

-- what came enough of what the histories sent, came enough of what the record has as sent
pub runs_in : (stages : List Stage) (hs : List History) (r : Record) → IsWoven hs r → all_differ (nodes_of hs) ≡ true → (h : History) →
    RanStages stages hs h → RunsIn stages hs r h
runs_in stages hs r w d h ran = record { kept = ran.kept; noise = ran.noise; sent = sent } where
  sent : WasSentEnough stages (sent_in r.entries) (inputs_in h)
  sent weight =
      let own = ran.sent weight in
      let more = sent_weigh weight hs w.acts d w.order in
      let is : sum_by weight (sent_in r.entries) ≡ sum_by weight (flat_map (λ (a : Act). a.entry.sent) w.acts) =
      ap (sum_by weight) (sent_is (sent_in r.entries) w.acts r.entries w.entries) in
      let all = mul-le-mul_left {m = sum_by weight (all_sent hs)} {n = sum_by weight (sent_in r.entries)} (most_copies stages) (omega arith) in
      omega arith

-- what the record delivered, it brought to one of the nodes
pub runs_counted : (g : Setting) (stages : List Stage) (hs : List History) (r : Record) → IsWoven hs r → AreHistories g hs →
    CameAtMost (most_copies stages) (sent_in r.entries) (delivered (sent_in r.entries) r.entries) → (h : History) → Contains hs h →
    KeptStages stages hs h → HasItsNoise stages h.node (inputs_in h) → RunsIn stages hs r h
runs_counted g stages hs r w own enough h c kept noise = record { kept = kept; noise = noise; sent = sent } where
  sent : WasSentEnough stages (sent_in r.entries) (inputs_in h)
  sent weight =
      let same : sum_by weight (envelopes_in (inputs_at h.node r.entries)) ≡ sum_by weight (envelopes_in (inputs_in h)) =
      ap (λ is. sum_by weight (envelopes_in is)) (inputs_are g hs r own w h c) in
      let some = brought_weigh weight h.node (sent_in r.entries) r.entries in
      let all = enough weight in
      omega arith

-- what each history of them keeps makes the record a run of the scenario
pub woven_is_run : (s : PlainScenario) (hs : List History) (r : Record) → nodes_of hs ≡ ids s.nodes → AreHistories (setting_of s) hs →
    Each (RunsIn (stages_of s) hs r) hs → IsWoven hs r → IsRunOf s r
woven_is_run s hs r nodes own ran w = record {
  legal = woven_is_legal (setting_of s) hs r own w;
  whole = w.skipped;
  at_each = subst (All (IsRunAt (stages_of s) r.entries)) nodes each;
  woven = subst (λ ks. IsWoven ks r) (sym (ap (map (history_at (setting_of s) r.entries)) (sym nodes) ∙ histories_are (setting_of s) hs r own w)) w;
} where
  each : All (IsRunAt (stages_of s) r.entries) (nodes_of hs)
  each =
      Each-all (IsRunAt (stages_of s) r.entries) (nodes_of hs)
      (of_nodes hs (Each-weaker (Contains hs) (λ (h : History). IsRunAt (stages_of s) r.entries h.node) hs
      (λ h c. run_at (stages_of s) hs r w h (inputs_are (setting_of s) hs r own w h c)
      (Each-contains (RunsIn (stages_of s) hs r) hs h ran c)) (Each-itself hs))) where
        of_nodes : (ks : List History) → Each (λ (h : History). IsRunAt (stages_of s) r.entries h.node) ks →
            Each (IsRunAt (stages_of s) r.entries) (nodes_of ks)
        of_nodes [] e = tt
        of_nodes (k ∷ ks) e = (e.0, of_nodes ks e.1)
