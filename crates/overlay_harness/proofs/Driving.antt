-- Cells of a run that were served the stages so far, and the passes of who drives them.
use Rattle.std.proofs.Common.{◌≡◌, ◌≢◌, ◌≤◌, ◌<◌, ◌⊎◌, inl, inr, ℕ, zero, suc, ◌+◌, ◌==◌, true, false, List, [], ◌∷◌, ◌++◌, map, set, get_or, length}
use Rattle.std.proofs.Common.{All, Contains, take, refl, sym, subst, ap, ◌∙◌, arith}
use Rattle.std.specs.Prelude.{IsSome}
use Rattle.std.specs.List.{AllZip, sum_by}
use Rattle.std.proofs.lemmas.Bool.{cases_eq, cases_Bool, cond-true, cond-false}
use Rattle.std.proofs.lemmas.Bool.Decides.{Decides-ltb}
use Rattle.std.proofs.lemmas.List.{length-map, map-append, map_more, get_or-set_same, get_or-set_other}
use Rattle.std.proofs.lemmas.List.Elements.{Contains-append_cases}
use Rattle.std.proofs.lemmas.List.Sums.{sum_by-cons}
use Rattle.ring_math.specs.Names.{Id}
use Rattle.wire_msg.specs.Words.{Envelope}
use Rattle.wire_codec.specs.Reading.{refusal}
use Rattle.wire_codec.specs.Spelling.{Spells}
use Rattle.wire_codec.proofs.Refusals.{never_refused}
use Rattle.overlay_rules.proofs.Each.{Each, Each-all, Each-from_all, Each-weaker}
use Rattle.scenario_reader.specs.declared.action.Action.{Action}
use Rattle.scenario_reader.specs.declared.action.What.{What}
use Rattle.scenario_reader.specs.declared.action.What.TheVariants as what
use Rattle.scenario_reader.specs.declared.node.NodeLine.{NodeLine}
use Rattle.scenario_reader.specs.declared.node.FileLine.{FileLine}
use Rattle.scenario_reader.specs.declared.tally.Tally.{Tally}
use Rattle.scenario_reader.specs.Plain.{PlainScenario}
use Rattle.scenario_reader.specs.Rules.{AreActions, KeepsRules, MayFollow}
use Rattle.scenario_reader.specs.Tallies.{start, tallied, tally_from}
use Rattle.weave_laws.specs.Cells.{CellEntry, CellInput}
use Rattle.node_mailbox.specs.Pass.{PassView, after_put, fresh_pass}
use Rattle.node_mailbox.specs.Post.{PostView, AreOf, pass_at}
use Rattle.node_cell.specs.Cell.{Cell}
use Rattle.node_cell.specs.Equipped.{parts_at}
use Rattle.node_cell.specs.Gathering.{PutNoiseAlone}
use Rattle.node_cell.proofs.Carrying.{changed-same}
use Rattle.weave.specs.Cells.{kept_history, nodes}
use Rattle.overlay_harness.specs.declared.worker.Worker.{Worker}
use Rattle.overlay_harness.specs.Along.{RanAlong}
use Rattle.overlay_harness.specs.Driven.{AreDriven, HasNoFrame, HaveRunSoFar, PutNoise, RanSoFar, cells_of, end_budget, frames_of}
use Rattle.overlay_harness.specs.Inputs.{frames_in, is_frame}
use Rattle.overlay_harness.specs.Ran.{inputs_in}
use Rattle.overlay_harness.specs.Rounds.{CameIn, IsAtWork, ServedIn}
use Rattle.overlay_harness.specs.declared.stage.Stage.{Stage as CodeStage}
use Rattle.overlay_harness.specs.Shown.{shown}
use Rattle.overlay_harness.specs.Stages.{Stage, actions_of, commands_to, copies_behind, followed_by, is_settle, last_budget, stages_from, with_first}
use Rattle.overlay_harness.specs.Whole.{AreCellsOf}
use Rattle.overlay_harness.specs.Work.{HasNumbersUpTo, IsNumberedUpTo, MayBeTold}
use Rattle.overlay_harness.proofs.Along.{all_frames, along_more, are_commands, budgets-push, frames-append, no_frames}
use Rattle.overlay_harness.proofs.Ending.{IsStageAt, mapped_get}
use Rattle.overlay_harness.proofs.Lasting.{last-more}
use Rattle.overlay_harness.proofs.Numbering.{rules_behind, rules_front}
use Rattle.overlay_harness.proofs.Serving.{AreStages, numbers_up_to}

-- ---- one node with a stage more

inputs_came : (xs : List CellInput) (old new : Cell) → CameIn xs old new → inputs_in (kept_history new) ≡ inputs_in (kept_history old) ++ xs
inputs_came xs old new h =
    ap (λ (es : List CellEntry). map (λ (e : CellEntry). e.input) es) h.history
    ∙ map-append (λ (e : CellEntry). e.input) old.history h.more
    ∙ ap (λ is. inputs_in (kept_history old) ++ is) h.inputs_are

pub end_budget-push : (stages : List Stage) (s : Stage) → end_budget (stages ++ s ∷ []) ≡ s.budget
end_budget-push [] s = refl
end_budget-push (t ∷ []) s = refl
end_budget-push (t ∷ u ∷ stages) s = end_budget-push (u ∷ stages) s

pub so_far_more : (post : PostView) (stages : List Stage) (s : Stage) (old new : Worker) → AreStages stages s → RanSoFar post stages old →
    ServedIn post s old new → RanSoFar post (stages ++ s ∷ []) new
so_far_more post stages s old new a r w = record {
  at_work = w.at_work;
  along = subst (λ x. RanAlong (stages ++ s ∷ []) x (inputs_in (kept_history new.cell))) (sym w.goes_on.node)
      (subst (RanAlong (stages ++ s ∷ []) old.cell.node) (sym inputs)
      (along_more a.nodes a.files a.tally stages s old.cell.node (inputs_in (kept_history old.cell)) w.frames a.rules r.along frames
      (let e = w.counted in omega arith)));
  within = (let e = w.counted in let f = r.along.few in let g = counted in let h = budgets-push stages s in omega arith);
  full = (let e = w.counted in let g = counted in let h = end_budget-push stages s in omega arith);
} where
  commands : List CellInput
  commands = commands_to old.cell.node s.actions

  frames : Each (λ (i : CellInput). is_frame i ≡ true) w.frames
  frames = Each-from_all (λ (i : CellInput). is_frame i ≡ true) w.frames w.are

  inputs : inputs_in (kept_history new.cell) ≡ inputs_in (kept_history old.cell) ++ (commands ++ w.frames)
  inputs = inputs_came (commands ++ w.frames) old.cell new.cell w.came

  counted : frames_of new.cell ≡ frames_of old.cell + length w.frames
  counted =
      let all : frames_of new.cell ≡ frames_in (inputs_in (kept_history old.cell) ++ (commands ++ w.frames)) = ap frames_in inputs in
      let one = frames-append (inputs_in (kept_history old.cell)) (commands ++ w.frames) in
      let two = frames-append commands w.frames in
      let none = no_frames commands (are_commands old.cell.node s.actions) in
      let own = all_frames w.frames frames in
      omega arith

-- ---- all nodes with a stage more

zip_more : (post : PostView) (stages : List Stage) (s : Stage) (olds news : List Worker) → AreStages stages s → Each (RanSoFar post stages) olds →
    AllZip (ServedIn post s) olds news → Each (RanSoFar post (stages ++ s ∷ [])) news
zip_more post stages s [] [] a h z = tt
zip_more post stages s [] (n ∷ news) a h z = absurd z
zip_more post stages s (o ∷ olds) [] a h z = absurd z
zip_more post stages s (o ∷ olds) (n ∷ news) a h z = (so_far_more post stages s o n a h.0 z.0, zip_more post stages s olds news a h.1 z.1)

same_nodes : (post : PostView) (s : Stage) (olds news : List Worker) → AllZip (ServedIn post s) olds news → nodes (cells_of news) ≡ nodes (cells_of olds)
same_nodes post s [] [] z = refl
same_nodes post s [] (n ∷ news) z = absurd z
same_nodes post s (o ∷ olds) [] z = absurd z
same_nodes post s (o ∷ olds) (n ∷ news) z =
    ap (λ x. x ∷ nodes (cells_of news)) z.0.goes_on.node ∙ ap (λ xs. o.cell.node ∷ xs) (same_nodes post s olds news z.1)

same_founders : (founder : Id) (post : PostView) (s : Stage) (olds news : List Worker) → AllZip (ServedIn post s) olds news →
    Each (λ (c : Cell). c.is_founder ≡ (c.node == founder)) (cells_of olds) → Each (λ (c : Cell). c.is_founder ≡ (c.node == founder)) (cells_of news)
same_founders founder post s [] [] z h = tt
same_founders founder post s [] (n ∷ news) z h = absurd z
same_founders founder post s (o ∷ olds) [] z h = absurd z
same_founders founder post s (o ∷ olds) (n ∷ news) z h = (
  z.0.goes_on.made ∙ h.0 ∙ ap (λ x. x == founder) (sym z.0.goes_on.node),
  same_founders founder post s olds news z.1 h.1,
)

same_parts : (place : ℕ) (post : PostView) (s : Stage) (olds news : List Worker) → AllZip (ServedIn post s) olds news →
    sum_by (parts_at place) (cells_of news) ≡ sum_by (parts_at place) (cells_of olds)
same_parts place post s [] [] z = refl
same_parts place post s [] (n ∷ news) z = absurd z
same_parts place post s (o ∷ olds) [] z = absurd z
same_parts place post s (o ∷ olds) (n ∷ news) z =
    let one = sum_by-cons (parts_at place) n.cell (cells_of news) in
    let two = sum_by-cons (parts_at place) o.cell (cells_of olds) in
    let here = z.0.goes_on.parts place in
    let rest = same_parts place post s olds news z.1 in
    omega arith

pub cells_are_more : (s : PlainScenario) (post : PostView) (stage : Stage) (olds news : List Worker) → AllZip (ServedIn post stage) olds news →
    AreCellsOf s (cells_of olds) → AreCellsOf s (cells_of news)
cells_are_more s post stage olds news z a = record {
  nodes_are = same_nodes post stage olds news z ∙ a.nodes_are;
  founders = Each-all (λ (c : Cell). c.is_founder ≡ (c.node == s.founder)) (cells_of news)
      (same_founders s.founder post stage olds news z
      (Each-from_all (λ (c : Cell). c.is_founder ≡ (c.node == s.founder)) (cells_of olds) a.founders));
}

pub noise_driven : (post : PostView) (old new : List PassView) (cells : List Cell) → AreOf new post → PutNoise old new → AreDriven post old cells →
    AreDriven post new cells
noise_driven post old new cells of p d = record {
  of = of;
  noise = p.alone d.noise;
  parts = record { parts = λ place lt. let same = p.parts place in let all = d.parts.parts place lt in omega arith };
}

driven_more : (post : PostView) (own : List PassView) (s : Stage) (olds news : List Worker) → AllZip (ServedIn post s) olds news →
    AreDriven post own (cells_of olds) → AreDriven post own (cells_of news)
driven_more post own s olds news z d = record {
  of = d.of;
  noise = d.noise;
  parts = record { parts = λ place lt. let same = same_parts place post s olds news z in let all = d.parts.parts place lt in omega arith };
}

-- noise was put, and then the stage was run
pub have_run_more : (s : PlainScenario) (post : PostView) (stages : List Stage) (stage : Stage) (old new : List PassView) (olds news : List Worker) →
    AreStages stages stage → AreOf new post → PutNoise old new → HaveRunSoFar s post stages old olds → AllZip (ServedIn post stage) olds news →
    HaveRunSoFar s post (stages ++ stage ∷ []) new news
have_run_more s post stages stage old new olds news a of p h z = record {
  nodes = h.nodes;
  cells_are = cells_are_more s post stage olds news z h.cells_are;
  each = Each-all (RanSoFar post (stages ++ stage ∷ [])) news (zip_more post stages stage olds news a (Each-from_all (RanSoFar post stages) olds h.each) z);
  driven = driven_more post new stage olds news z (noise_driven post old new (cells_of olds) of p h.driven);
}

-- ---- the commands of a stage may be told to each

numbers_of : (most : ℕ) (es : List CellEntry) → Each (IsNumberedUpTo most) (map (λ (e : CellEntry). e.input) es) →
    Each (λ (e : CellEntry). IsNumberedUpTo most e.input) es
numbers_of most [] k = tt
numbers_of most (e ∷ es) k = (k.0, numbers_of most es k.1)

told_one : (post : PostView) (stages : List Stage) (s : Stage) (w : Worker) → AreStages stages s → RanSoFar post stages w → MayBeTold (w.cell ∷ []) s.actions
told_one post stages s w a r = record {
  nodes = a.nodes;
  files = a.files;
  tally = tally_from a.tally (actions_of stages);
  rules = rules_behind a.nodes a.files a.tally (actions_of stages) s.actions a.rules;
  numbers = Each-all (HasNumbersUpTo most) (w.cell ∷ []) (
    Each-all (λ (e : CellEntry). IsNumberedUpTo most e.input) w.cell.history
        (numbers_of most w.cell.history
        (numbers_up_to a.nodes a.files a.tally stages w.cell.node (inputs_in (kept_history w.cell))
        (rules_front a.nodes a.files a.tally (actions_of stages) s.actions a.rules) r.along)),
    tt,
  );
} where
  most : ℕ
  most = (tally_from a.tally (actions_of stages)).commands

pub all_may_be_told : (post : PostView) (stages : List Stage) (s : Stage) (workers : List Worker) → AreStages stages s → All (RanSoFar post stages) workers →
    All (λ (w : Worker). MayBeTold (w.cell ∷ []) s.actions) workers
all_may_be_told post stages s workers a h =
    Each-all (λ (w : Worker). MayBeTold (w.cell ∷ []) s.actions) workers
    (Each-weaker (RanSoFar post stages) (λ (w : Worker). MayBeTold (w.cell ∷ []) s.actions) workers (λ w r. told_one post stages s w a r)
    (Each-from_all (RanSoFar post stages) workers h))

pub all_at_work : (post : PostView) (stages : List Stage) (workers : List Worker) → All (RanSoFar post stages) workers →
    All (λ (w : Worker). IsAtWork post w.cell) workers
all_at_work post stages workers h =
    Each-all (λ (w : Worker). IsAtWork post w.cell) workers
    (Each-weaker (RanSoFar post stages) (λ (w : Worker). IsAtWork post w.cell) workers (λ w r. r.at_work) (Each-from_all (RanSoFar post stages) workers h))

-- ---- what the rules say of a stage

pub record MayBePut (s : Stage) : Type 0 where
  pub some : 1 ≤ s.copies
  pub few : s.copies ≤ 4

first_put : (a : Action) (copies : ℕ) (stages : List Stage) → 1 ≤ copies → copies ≤ 4 → Each MayBePut stages → Each MayBePut (with_first a copies stages)
first_put a copies [] some few h = (record { some = some; few = few }, tt)
first_put a copies (s ∷ stages) some few h = (record { some = h.0.some; few = h.0.few }, h.1)

copies_may : (nodes : List NodeLine) (files : List FileLine) (tally : Tally) (w : What) (copies : ℕ) → MayFollow nodes files tally w → 1 ≤ copies → copies ≤ 4 →
    (1 ≤ copies_behind copies w) × (copies_behind copies w ≤ 4)
copies_may nodes files tally (what.Dup n) copies m some few = m.allowed
copies_may nodes files tally (what.Command number node command) copies m some few = (some, few)
copies_may nodes files tally (what.Settle n) copies m some few = (some, few)
copies_may nodes files tally (what.Deliver n) copies m some few = (some, few)
copies_may nodes files tally (what.Shuffle seed count) copies m some few = (some, few)
copies_may nodes files tally (what.Noise node bytes) copies m some few = (some, few)

pub may_be_put : (nodes : List NodeLine) (files : List FileLine) (tally : Tally) (copies : ℕ) (actions : List Action) → AreActions nodes files tally actions →
    1 ≤ copies → copies ≤ 4 → Each MayBePut (stages_from copies actions)
may_be_put nodes files tally copies [] rules some few = tt
may_be_put nodes files tally copies (a ∷ actions) rules some few =
    let both = copies_may nodes files tally a.what copies rules.0 some few in
    by (cases_Bool (is_settle a.what)) both
    (may_be_put nodes files (tallied tally a.what) (copies_behind copies a.what) actions rules.1 both.0 both.1) where
      now : ℕ
      now = copies_behind copies a.what

      by : (is_settle a.what ≡ true) ⊎ (is_settle a.what ≡ false) → (1 ≤ now) × (now ≤ 4) → Each MayBePut (stages_from now actions) →
          Each MayBePut (followed_by a now (stages_from now actions))
      by (inl t) c rest =
          subst (Each MayBePut) (sym (cond-true (is_settle a.what) _ _ t)) (record { some = c.0; few = c.1 }, rest)
      by (inr t) c rest =
          subst (Each MayBePut) (sym (cond-false (is_settle a.what) _ _ t)) (first_put a now (stages_from now actions) c.0 c.1 rest)

pub stage_may_be_put : (s : PlainScenario) (codes : List CodeStage) (i : ℕ) (code : CodeStage) → KeepsRules s → IsStageAt s codes i code → MayBePut (shown code)
stage_may_be_put s codes i code rules h =
    let all : Each MayBePut (map shown codes) =
    subst (Each MayBePut) (sym h.stages) (may_be_put s.nodes s.files start 1 s.actions rules.actions (omega arith) (omega arith)) in
    let long = length-map codes shown in
    let lt = h.within in
    subst MayBePut (mapped_get codes i code h.within ∙ ap shown (sym h.there)) (Each-all MayBePut (map shown codes) all i (shown code) (omega arith))

no_frame : (nodes : List NodeLine) (files : List FileLine) (tally : Tally) (w : What) → MayFollow nodes files tally w → HasNoFrame w
no_frame nodes files tally (what.Noise node bytes) m = m.allowed.1
no_frame nodes files tally (what.Dup n) m = tt
no_frame nodes files tally (what.Command number node command) m = tt
no_frame nodes files tally (what.Settle n) m = tt
no_frame nodes files tally (what.Deliver n) m = tt
no_frame nodes files tally (what.Shuffle seed count) m = tt

no_frames_in : (nodes : List NodeLine) (files : List FileLine) (tally : Tally) (actions : List Action) → AreActions nodes files tally actions →
    Each (λ (a : Action). HasNoFrame a.what) actions
no_frames_in nodes files tally [] rules = tt
no_frames_in nodes files tally (a ∷ actions) rules =
    (no_frame nodes files tally a.what rules.0, no_frames_in nodes files (tallied tally a.what) actions rules.1)

pub stage_has_no_frame : (stages : List Stage) (s : Stage) → AreStages stages s → All (λ (a : Action). HasNoFrame a.what) s.actions
stage_has_no_frame stages s a =
    Each-all (λ (d : Action). HasNoFrame d.what) s.actions
    (no_frames_in a.nodes a.files (tally_from a.tally (actions_of stages)) s.actions
    (rules_behind a.nodes a.files a.tally (actions_of stages) s.actions a.rules))

-- ---- noise that is put

pub put_none : (passes : List PassView) → PutNoise passes passes
put_none passes = record { parts = λ place. refl; alone = λ h. h }

pub put_then : (a b c : List PassView) → PutNoise a b → PutNoise b c → PutNoise a c
put_then a b c h k = record { parts = λ place. k.parts place ∙ h.parts place; alone = λ alone. k.alone (h.alone alone) }

is_no_spelling : (bytes : List ℕ) (v : Envelope) → IsSome (refusal bytes) → Spells bytes v → ⊥
is_no_spelling bytes v some spells = let none : false ≡ true = subst IsSome (never_refused bytes v spells) some in cc

only_last : (x y : List ℕ) → Contains (x ∷ []) y → y ≡ x
only_last x y (zero, lt, e) = sym e
only_last x y (suc k, lt, e) = absurd (omega arith)

pub put_one : (passes : List PassView) (place : ℕ) (frame : List ℕ) → place < length passes → IsSome (refusal frame) →
    PutNoise passes (set passes place (after_put (pass_at passes place) frame))
put_one passes place frame lt none = record {
  parts = λ y. changed-same (λ (p : PassView). p.parts) passes place y new lt refl;
  alone = λ h. record { noise = λ y f v has spells. by y f v h (cases_eq place y) has spells };
} where
  new : PassView
  new = after_put (pass_at passes place) frame

  by : (y : ℕ) (f : List ℕ) (v : Envelope) → PutNoiseAlone passes → (place ≡ y) ⊎ (place ≢ y) → Contains (pass_at (set passes place new) y).put f →
      Spells f v → ⊥
  by y f v h (inr other) has spells =
      h.noise y f v (subst (λ (p : PassView). Contains p.put f) (get_or-set_other passes place y new (fresh_pass (0, 0) 0) (λ e. other (sym e))) has) spells
  by y f v h (inl here) has spells =
      let there : Contains ((pass_at passes place).put ++ frame ∷ []) f =
      subst (λ (p : PassView). Contains p.put f) (get_or-set_same passes place new (fresh_pass (0, 0) 0) lt)
      (subst (λ k. Contains (pass_at (set passes place new) k).put f) (sym here) has) in
      elim (Contains-append_cases (pass_at passes place).put (frame ∷ []) f there) [
        | inl old ↦ h.noise place f v old spells
        | inr last ↦ is_no_spelling frame v none (subst (λ b. Spells b v) (only_last frame f last) spells)
      ]

-- ---- the last budget

-- where the last stage has a budget, that is the last budget
pub last_at_end : (codes : List CodeStage) (place : ℕ) (d : CodeStage) → place < length codes → 0 < (get_or codes place d).budget →
    last_budget (map shown (take (place + 1) codes)) ≤ end_budget (map shown (take (place + 1) codes))
last_at_end codes place d lt some =
    let so_far : List Stage = map shown (take place codes) in
    let s : Stage = shown (get_or codes place d) in
    let more : map shown (take (place + 1) codes) ≡ so_far ++ s ∷ [] = map_more shown codes place d lt in
    let last : last_budget (map shown (take (place + 1) codes)) ≡ s.budget = ap last_budget more ∙ last-more so_far s ((Decides-ltb 0 s.budget).1 some) in
    let end : end_budget (map shown (take (place + 1) codes)) ≡ s.budget = ap end_budget more ∙ end_budget-push so_far s in
    omega arith
