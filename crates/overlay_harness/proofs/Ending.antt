-- Cells that ran a whole scenario are woven into a run of it.
use Rattle.std.proofs.Common.{◌≡◌, ◌==◌, ◌≤◌, ◌+◌, ℕ, zero, suc, ◌<◌, List, [], ◌∷◌, ◌++◌, map, take, drop, length, get_or, All, Contains, refl, sym, subst}
use Rattle.std.proofs.Common.{ap, ◌∙◌, arith}
use Rattle.std.specs.List.{AllZip}
use Rattle.std.proofs.Math.Seq.{take-append_seam}
use Rattle.std.proofs.lemmas.List.{length-map, map_more, take_all}
use Rattle.ring_math.specs.Names.{Id}
use Rattle.overlay_rules.specs.declared.entry.Record.{Record}
use Rattle.overlay_rules.specs.Record.{sent_in}
use Rattle.overlay_rules.specs.State.{State}
use Rattle.overlay_rules.proofs.Each.{Each, Each-all, Each-contains, Each-from_all, Each-itself, Each-weaker}
use Rattle.scenario_reader.specs.Plain.{PlainScenario}
use Rattle.scenario_reader.specs.Rules.{AreActions, KeepsRules}
use Rattle.scenario_reader.specs.Tallies.{start}
use Rattle.schedule.specs.Schedule.{setting_of}
use Rattle.weave_laws.specs.Answered.{AllSent}
use Rattle.weave_laws.specs.Cells.{CellEntry, History, IsFor, AreSteps, stepped}
use Rattle.weave_laws.specs.Histories.{AreHistories}
use Rattle.weave_laws.specs.Numbers.{ShareNoNumber}
use Rattle.weave_laws.specs.Woven.{IsWoven}
use Rattle.node_cell.specs.Cell.{Cell}
use Rattle.weave.specs.Cells.{AreOneRing, HasNoPasses, IsLawful, histories, nodes}
use Rattle.weave.proofs.Woven.{are_histories}
use Rattle.overlay_harness.specs.Clauses.{HasItsCommands, HasItsNoise}
use Rattle.overlay_harness.specs.Enough.{CameAtMost, delivered}
use Rattle.overlay_harness.specs.Once.{AllTookOnce, TookOnce}
use Rattle.overlay_harness.specs.Ran.{KeptStages, RanStages, inputs_in}
use Rattle.overlay_harness.specs.Run.{IsRunOf}
use Rattle.overlay_harness.specs.Served.{IsServedTo, ServedTo}
use Rattle.overlay_harness.specs.Stages.{Stage, most_copies, stages_of}
use Rattle.overlay_harness.specs.Hand.{ServedWhole}
use Rattle.overlay_harness.specs.Work.{MayBeTold, fresh_cells}
use Rattle.overlay_harness.specs.Shown.{shown}
use Rattle.overlay_harness.specs.declared.stage.Stage.{Stage as CodeStage}
use Rattle.overlay_harness.specs.Whole.{AreCellsOf, HaveKept, HaveRun}
use Rattle.overlay_harness.proofs.Made.{actions_staged, are_stages, fresh_are, fresh_once, fresh_sent, fresh_served, may_be_told, own_nodes}
use Rattle.overlay_harness.proofs.Running.{RunsIn, runs_counted, runs_in, woven_is_run}
use Rattle.overlay_harness.proofs.Serving.{AreStages, founders_whole, served_more}
use Rattle.overlay_harness.proofs.Without.{fresh_without, whole_without}
use Rattle.overlay_harness.proofs.Together.{by_hand, kept_stages, share_none}

-- ---- cells that were served every stage by hand

pub have_run : (s : PlainScenario) (cells : List Cell) → IsServedTo s (stages_of s) cells → AllTookOnce (histories cells) → HaveRun s cells
have_run s cells k t = record {
  cells_are = k.cells_are;
  ran = Each-all (RanStages (stages_of s) hs) hs
      (Each-weaker (Contains hs) (RanStages (stages_of s) hs) hs
      (λ h c. by_hand (stages_of s) hs h k.sent c (Each-contains (ServedTo (stages_of s) hs) hs h served c) (Each-contains TookOnce hs h once c))
      (Each-itself hs));
  sent = k.sent;
} where
  hs : List History
  hs = histories cells

  served : Each (ServedTo (stages_of s) hs) hs
  served = Each-from_all (ServedTo (stages_of s) hs) hs k.served

  once : Each TookOnce hs
  once = Each-from_all TookOnce hs t

pub have_kept : (s : PlainScenario) (cells : List Cell) → IsServedTo s (stages_of s) cells → HaveKept s cells
have_kept s cells k = record {
  cells_are = k.cells_are;
  kept = Each-all (KeptStages (stages_of s) (histories cells)) (histories cells)
      (Each-weaker (ServedTo (stages_of s) (histories cells)) (KeptStages (stages_of s) (histories cells)) (histories cells)
      (λ h d. kept_stages (stages_of s) (histories cells) h d) (Each-from_all (ServedTo (stages_of s) (histories cells)) (histories cells) k.served));
  sent = k.sent;
}

-- ---- they are one ring

pub kept_of : (s : PlainScenario) (cells : List Cell) → HaveRun s cells → HaveKept s cells
kept_of s cells h = record {
  cells_are = h.cells_are;
  kept = Each-all (KeptStages (stages_of s) (histories cells)) (histories cells)
      (Each-weaker (RanStages (stages_of s) (histories cells)) (KeptStages (stages_of s) (histories cells)) (histories cells) (λ k r. r.kept)
      (Each-from_all (RanStages (stages_of s) (histories cells)) (histories cells) h.ran));
  sent = h.sent;
}

shares_none : (s : PlainScenario) (cells : List Cell) → KeepsRules s → HaveKept s cells → ShareNoNumber (histories cells)
shares_none s cells rules h =
    share_none s.nodes s.files start (stages_of s) (histories cells)
    (subst (AreActions s.nodes s.files start) (sym (actions_staged 1 s.actions)) rules.actions)
    (Each-weaker (KeptStages (stages_of s) (histories cells)) (λ (k : History). HasItsCommands (stages_of s) k.node (inputs_in k)) (histories cells)
    (λ k r. r.commands) (Each-from_all (KeptStages (stages_of s) (histories cells)) (histories cells) h.kept))

one_ring : (s : PlainScenario) (cells : List Cell) → KeepsRules s → HaveKept s cells → AreOneRing cells s.founder
one_ring s cells rules h = record {
  there = subst (λ xs. Contains xs s.founder) (sym h.cells_are.nodes_are) rules.founder;
  alone = h.cells_are.founders;
  numbers = shares_none s cells rules h;
}

in_setting : (s : PlainScenario) (cells : List Cell) → KeepsRules s → HaveKept s cells → All IsLawful cells → AreHistories (setting_of s) (histories cells)
in_setting s cells rules h lawful =
    subst (λ xs. AreHistories (record { nodes = xs; founder = s.founder }) (histories cells)) h.cells_are.nodes_are
    (are_histories cells s.founder (one_ring s cells rules h) lawful)

-- the record that is woven from them is a run of the scenario
pub run_of : (s : PlainScenario) (cells : List Cell) (r : Record) → KeepsRules s → HaveRun s cells → All IsLawful cells → IsWoven (histories cells) r →
    IsRunOf s r
run_of s cells r rules h lawful w =
    let differ = own_nodes s cells rules h.cells_are in
    woven_is_run s (histories cells) r h.cells_are.nodes_are (in_setting s cells rules (kept_of s cells h) lawful)
    (Each-weaker (RanStages (stages_of s) (histories cells)) (RunsIn (stages_of s) (histories cells) r) (histories cells)
    (λ k d. runs_in (stages_of s) (histories cells) r w differ k d)
    (Each-from_all (RanStages (stages_of s) (histories cells)) (histories cells) h.ran)) w

-- so it is where no message and no noise came more often than it could
pub counted_run_of : (s : PlainScenario) (cells : List Cell) (r : Record) → KeepsRules s → HaveKept s cells → All IsLawful cells →
    IsWoven (histories cells) r → All (λ (h : History). HasItsNoise (stages_of s) h.node (inputs_in h)) (histories cells) →
    CameAtMost (most_copies (stages_of s)) (sent_in r.entries) (delivered (sent_in r.entries) r.entries) → IsRunOf s r
counted_run_of s cells r rules h lawful w noise enough =
    woven_is_run s hs r h.cells_are.nodes_are own
    (Each-weaker (Contains hs) (RunsIn (stages_of s) hs r) hs
    (λ k c. runs_counted (setting_of s) (stages_of s) hs r w own enough k c
    (Each-contains (KeptStages (stages_of s) hs) hs k (Each-from_all (KeptStages (stages_of s) hs) hs h.kept) c)
    (Each-contains (λ (j : History). HasItsNoise (stages_of s) j.node (inputs_in j)) hs k
    (Each-from_all (λ (j : History). HasItsNoise (stages_of s) j.node (inputs_in j)) hs noise) c)) (Each-itself hs)) w where
      hs : List History
      hs = histories cells

      own : AreHistories (setting_of s) hs
      own = in_setting s cells rules h lawful

-- ---- by the type of cells

steps_addressed : (x : Id) (s : State) (es : List CellEntry) → AreSteps x s es → Each (λ (e : CellEntry). IsFor x e.input) es
steps_addressed x s [] h = tt
steps_addressed x s (e ∷ es) h = (h.0.addressed, steps_addressed x (stepped s e) es h.1)

pub all_addressed_by : (cells : List Cell) → Each IsLawful cells →
    Each (λ (h : History). Each (λ (e : CellEntry). IsFor h.node e.input) h.entries) (histories cells)
all_addressed_by [] h = tt
all_addressed_by (c ∷ cells) h = (steps_addressed c.node _ c.history h.0.history.steps, all_addressed_by cells h.1)

-- ---- stage after stage

-- what the service of one stage more promises
pub record IsOneMore (stage : Stage) (olds news : List Cell) : Type 0 where
  pub whole : AllZip (ServedWhole stage (histories news)) olds news
  pub sent : AllSent (histories olds) → AllSent (histories news)
  pub nodes_are : nodes news ≡ nodes olds
  pub lawful : All IsLawful news

pub served_to_next : (s : PlainScenario) (stages : List Stage) (stage : Stage) (olds news : List Cell) → KeepsRules s → AreStages stages stage →
    IsServedTo s stages olds → IsOneMore stage olds news → IsServedTo s (stages ++ stage ∷ []) news
served_to_next s stages stage olds news rules a k m = record {
  cells_are = are;
  served = Each-all (ServedTo (stages ++ stage ∷ []) (histories news)) (histories news)
      (served_more stages stage olds news a (own_nodes s news rules are) (all_addressed_by news (Each-from_all IsLawful news m.lawful)) m.whole
      (Each-from_all (ServedTo stages (histories olds)) (histories olds) k.served));
  sent = m.sent k.sent;
  without = Each-all HasNoPasses news (whole_without stage (histories news) olds news m.whole (Each-from_all HasNoPasses olds k.without));
} where
  are : AreCellsOf s news
  are = record {
    nodes_are = m.nodes_are ∙ k.cells_are.nodes_are;
    founders = Each-all (λ (c : Cell). c.is_founder ≡ (c.node == s.founder)) news
        (founders_whole s.founder stage (histories news) olds news m.whole
        (Each-from_all (λ (c : Cell). c.is_founder ≡ (c.node == s.founder)) olds k.cells_are.founders));
  }

pub served_to_none : (s : PlainScenario) → IsServedTo s [] (fresh_cells s)
served_to_none s = record {
  cells_are = fresh_are s;
  served = Each-all (ServedTo [] (histories (fresh_cells s))) (histories (fresh_cells s)) (fresh_served (histories (fresh_cells s)) s.founder s.nodes);
  sent = fresh_sent s.founder s.nodes;
  without = Each-all HasNoPasses (fresh_cells s) (fresh_without s.founder s.nodes);
}

-- ---- as the code goes on

mapped_take : (i : ℕ) (codes : List CodeStage) → take i (map shown codes) ≡ map shown (take i codes)
mapped_take zero codes = refl
mapped_take (suc i) [] = refl
mapped_take (suc i) (c ∷ codes) = ap (λ ss. shown c ∷ ss) (mapped_take i codes)

pub mapped_get : (codes : List CodeStage) (i : ℕ) (d : CodeStage) → i < length codes → get_or (map shown codes) i (shown d) ≡ shown (get_or codes i d)
mapped_get [] i d lt = absurd (omega arith)
mapped_get (c ∷ codes) zero d lt = refl
mapped_get (c ∷ codes) (suc i) d lt = mapped_get codes i d (omega arith)

-- the stage at this place of the scenario's
pub record IsStageAt (s : PlainScenario) (codes : List CodeStage) (i : ℕ) (code : CodeStage) : Type 0 where
  pub stages : map shown codes ≡ stages_of s
  pub within : i < length codes
  pub there : code ≡ get_or codes i code

pub next_stages : (s : PlainScenario) (codes : List CodeStage) (i : ℕ) (code : CodeStage) → KeepsRules s → IsStageAt s codes i code →
    AreStages (map shown (take i codes)) (shown code)
next_stages s codes i code rules h =
    let long : length (stages_of s) ≡ length codes = ap length (sym h.stages) ∙ length-map codes shown in
    let before : take i (stages_of s) ≡ map shown (take i codes) = ap (take i) (sym h.stages) ∙ mapped_take i codes in
    let here : get_or (stages_of s) i (shown code) ≡ shown code =
    ap (λ ss. get_or ss i (shown code)) (sym h.stages) ∙ mapped_get codes i code h.within ∙ ap shown (sym h.there) in
    subst (AreStages (map shown (take i codes))) here
    (subst (λ ss. AreStages ss (get_or (stages_of s) i (shown code))) before
    (are_stages s rules i (shown code) (let lt = h.within in omega arith)))

pub may_be_told_next : (s : PlainScenario) (codes : List CodeStage) (i : ℕ) (code : CodeStage) (cells : List Cell) → KeepsRules s → IsStageAt s codes i code →
    IsServedTo s (map shown (take i codes)) cells → MayBeTold cells code.actions.now
may_be_told_next s codes i code cells rules h k =
    may_be_told (map shown (take i codes)) (shown code) cells (next_stages s codes i code rules h)
    (Each-from_all (ServedTo (map shown (take i codes)) (histories cells)) (histories cells) k.served)

pub served_next : (s : PlainScenario) (codes : List CodeStage) (i : ℕ) (code : CodeStage) (olds news : List Cell) → KeepsRules s →
    IsStageAt s codes i code → IsServedTo s (map shown (take i codes)) olds → IsOneMore (shown code) olds news →
    IsServedTo s (map shown (take (i + 1) codes)) news
served_next s codes i code olds news rules h k m =
    subst (λ ss. IsServedTo s ss news) (sym more)
    (served_to_next s (map shown (take i codes)) (shown code) olds news rules (next_stages s codes i code rules h) k m) where
      more : map shown (take (i + 1) codes) ≡ map shown (take i codes) ++ shown code ∷ []
      more =
          map_more shown codes i code h.within
          ∙ ap (λ d. map shown (take i codes) ++ shown d ∷ []) (sym h.there)

pub all_served : (s : PlainScenario) (codes : List CodeStage) (i : ℕ) (cells : List Cell) → map shown codes ≡ stages_of s → length codes ≤ i →
    IsServedTo s (map shown (take i codes)) cells → IsServedTo s (stages_of s) cells
all_served s codes i cells e le k = subst (λ ss. IsServedTo s ss cells) (ap (map shown) (take_all i codes le) ∙ e) k

pub none_took : (s : PlainScenario) → AllTookOnce (histories (fresh_cells s))
none_took s = Each-all TookOnce (histories (fresh_cells s)) (fresh_once s.founder s.nodes)

-- a slice that was lent is written back
pub put_back : {A : Type 0} (items news : List A) (n : ℕ) → length news ≡ length items → n ≡ length items →
    take n (news ++ drop (length news) items) ≡ news
put_back items news n same e =
    ap (λ m. take m (news ++ drop (length news) items)) (e ∙ sym same) ∙ take-append_seam news (drop (length news) items)
