-- The cells of a scenario: their nodes differ, and before its stages nothing came to them.
use Rattle.std.proofs.Common.{◌≡◌, ◌≢◌, ◌⊎◌, inl, inr, ◌<◌, ℕ, suc, Bool, true, false, not, ◌==◌, List, [], ◌∷◌, ◌++◌, map, take, drop, get_or, length}
use Rattle.std.proofs.Common.{slice_index_or, AllPairs, Contains, refl, sym, subst, ap, ◌∙◌, append_assoc, arith}
use Rattle.std.proofs.lemmas.Bool.{cases_Bool, and_from, cond-true, cond-false}
use Rattle.std.proofs.lemmas.List.{take-append-drop}
use Rattle.std.proofs.Math.Seq.{drop-cons}
use Rattle.ring_math.specs.Names.{Id}
use Rattle.ring_math.specs.Sides.{is_in}
use Rattle.ring_math.proofs.Membership.{Contains-is_in}
use Rattle.overlay_rules.specs.Record.{all_differ}
use Rattle.overlay_rules.proofs.Each.{Each, Each-all, Each-contains}
use Rattle.scenario_reader.specs.declared.action.Action.{Action}
use Rattle.scenario_reader.specs.declared.node.NodeLine.{NodeLine}
use Rattle.scenario_reader.specs.Plain.{PlainScenario, ids}
use Rattle.scenario_reader.specs.Rules.{AreActions, KeepsRules}
use Rattle.scenario_reader.specs.Tallies.{start, tally_from}
use Rattle.weave_laws.specs.Answered.{AllSent}
use Rattle.weave_laws.specs.Cells.{CellEntry, History}
use Rattle.node_cell.specs.Cell.{Cell, empty_cell}
use Rattle.weave.specs.Cells.{histories, kept_history, nodes}
use Rattle.overlay_harness.specs.Once.{TookOnce}
use Rattle.overlay_harness.specs.Served.{ServedTo}
use Rattle.overlay_harness.specs.Ran.{inputs_in}
use Rattle.overlay_harness.specs.Stages.{Stage, actions_of, copies_behind, followed_by, is_settle, stages_from, stages_of, with_first}
use Rattle.overlay_harness.specs.Whole.{AreCellsOf}
use Rattle.overlay_harness.specs.Work.{HasNumbersUpTo, IsNumberedUpTo, MayBeTold, fresh_cells}
use Rattle.overlay_harness.proofs.Numbering.{rules_behind, rules_front}
use Rattle.overlay_harness.proofs.Serving.{AreStages, numbers_up_to}

not_in : (xs : List ℕ) (x : ℕ) → ((j d : ℕ) → j < length xs → x ≢ slice_index_or xs j d) → is_in xs x ≡ false
not_in xs x h = elim (cases_Bool (is_in xs x)) [ inl e ↦ (let c = Contains-is_in xs x e in absurd (h c.0 x c.1 (sym c.2))) | inr e ↦ e ]

differ : (xs : List ℕ) → AllPairs ◌≢◌ xs → all_differ xs ≡ true
differ [] h = refl
differ (x ∷ xs) h =
    and_from (not (is_in xs x)) (all_differ xs)
    (ap not (not_in xs x (λ j d lt. h 0 (suc j) d (omega arith) (omega arith))))
    (differ xs (λ i j d lt inside. h (suc i) (suc j) d (omega arith) (omega arith)))

-- the nodes of a scenario's cells differ
pub own_nodes : (s : PlainScenario) (cells : List Cell) → KeepsRules s → AreCellsOf s cells → all_differ (nodes cells) ≡ true
own_nodes s cells rules a = ap all_differ a.nodes_are ∙ differ (ids s.nodes) rules.nodes.ids_differ

-- ---- new cells

abbrev pub fresh : ℕ → List NodeLine → List Cell
fresh founder lines = map (λ (n : NodeLine). empty_cell n.id (n.id == founder)) lines

fresh_nodes : (founder : ℕ) (lines : List NodeLine) → nodes (fresh founder lines) ≡ ids lines
fresh_nodes founder [] = refl
fresh_nodes founder (n ∷ lines) = ap (λ xs. n.id ∷ xs) (fresh_nodes founder lines)

fresh_founders : (founder : ℕ) (lines : List NodeLine) → Each (λ (c : Cell). c.is_founder ≡ (c.node == founder)) (fresh founder lines)
fresh_founders founder [] = tt
fresh_founders founder (n ∷ lines) = (refl, fresh_founders founder lines)

pub fresh_are : (s : PlainScenario) → AreCellsOf s (fresh_cells s)
fresh_are s = record {
  nodes_are = fresh_nodes s.founder s.nodes;
  founders = Each-all (λ (c : Cell). c.is_founder ≡ (c.node == s.founder)) (fresh_cells s) (fresh_founders s.founder s.nodes);
}

fresh_one : (hs : List History) (x : Id) (founder : Bool) → ServedTo [] hs (kept_history (empty_cell x founder))
fresh_one hs x founder = record { along = record { commands = refl; within = tt; few = omega arith }; served = inl (omega arith) }

-- no stage was run
pub fresh_served : (hs : List History) (founder : ℕ) (lines : List NodeLine) → Each (ServedTo [] hs) (histories (fresh founder lines))
fresh_served hs founder [] = tt
fresh_served hs founder (n ∷ lines) = (fresh_one hs n.id (n.id == founder), fresh_served hs founder lines)

-- and none took anything
pub fresh_once : (founder : ℕ) (lines : List NodeLine) → Each TookOnce (histories (fresh founder lines))
fresh_once founder [] = tt
fresh_once founder (n ∷ lines) = (record { once = λ i j d lt inside. absurd (omega arith); no_noise = refl }, fresh_once founder lines)

pub fresh_sent : (founder : ℕ) (lines : List NodeLine) → AllSent (histories (fresh founder lines))
fresh_sent founder lines = record {
  sent = λ h e v among there is.
      absurd (subst (λ (es : List CellEntry). Contains es e → ⊥)
      (sym (Each-contains (λ (k : History). k.entries ≡ []) (histories (fresh founder lines)) h (none lines) among))
      (λ c. omega (arith, c.1)) there);
} where
  none : (ns : List NodeLine) → Each (λ (k : History). k.entries ≡ []) (histories (fresh founder ns))
  none [] = tt
  none (n ∷ ns) = (refl, none ns)

-- ---- the stages hold all actions, in order

actions-first : (a : Action) (copies : ℕ) (stages : List Stage) → actions_of (with_first a copies stages) ≡ a ∷ actions_of stages
actions-first a copies [] = refl
actions-first a copies (s ∷ stages) = refl

pub actions_staged : (copies : ℕ) (actions : List Action) → actions_of (stages_from copies actions) ≡ actions
actions_staged copies [] = refl
actions_staged copies (a ∷ actions) = by (cases_Bool (is_settle a.what)) (actions_staged now actions) where
  now : ℕ
  now = copies_behind copies a.what

  rest : List Stage
  rest = stages_from now actions

  by : (is_settle a.what ≡ true) ⊎ (is_settle a.what ≡ false) → actions_of rest ≡ actions → actions_of (followed_by a now rest) ≡ a ∷ actions
  by (inl t) e = ap actions_of (cond-true (is_settle a.what) _ _ t) ∙ ap (λ ds. a ∷ ds) e
  by (inr t) e = ap actions_of (cond-false (is_settle a.what) _ _ t) ∙ actions-first a now rest ∙ ap (λ ds. a ∷ ds) e

actions-append : (xs ys : List Stage) → actions_of (xs ++ ys) ≡ actions_of xs ++ actions_of ys
actions-append [] ys = refl
actions-append (s ∷ xs) ys = ap (λ ds. s.actions ++ ds) (actions-append xs ys) ∙ sym (append_assoc s.actions (actions_of xs) (actions_of ys))

-- the rules hold of the stages so far and the next one
pub are_stages : (s : PlainScenario) → KeepsRules s → (i : ℕ) (d : Stage) → i < length (stages_of s) →
    AreStages (take i (stages_of s)) (get_or (stages_of s) i d)
are_stages s rules i d lt = record {
  nodes = s.nodes;
  files = s.files;
  tally = start;
  rules = rules_front s.nodes s.files start (actions_of done ++ next.actions) (actions_of behind) (subst
      (AreActions s.nodes s.files start) whole rules.actions);
} where
  done : List Stage
  done = take i (stages_of s)

  next : Stage
  next = get_or (stages_of s) i d

  behind : List Stage
  behind = drop (suc i) (stages_of s)

  split : stages_of s ≡ done ++ next ∷ behind
  split = sym (take-append-drop i (stages_of s)) ∙ ap (λ ss. done ++ ss) (drop-cons (stages_of s) i d lt)

  whole : s.actions ≡ (actions_of done ++ next.actions) ++ actions_of behind
  whole =
      sym (actions_staged 1 s.actions)
      ∙ ap actions_of split
      ∙ actions-append done (next ∷ behind)
      ∙ sym (append_assoc (actions_of done) next.actions (actions_of behind))

-- so its commands may be told
pub may_be_told : (stages : List Stage) (s : Stage) (cells : List Cell) → AreStages stages s → Each (ServedTo stages (histories cells)) (histories cells) →
    MayBeTold cells s.actions
may_be_told stages s cells a h = record {
  nodes = a.nodes;
  files = a.files;
  tally = tally_from a.tally (actions_of stages);
  rules = rules_behind a.nodes a.files a.tally (actions_of stages) s.actions a.rules;
  numbers = Each-all (HasNumbersUpTo most) cells (each cells h);
} where
  most : ℕ
  most = (tally_from a.tally (actions_of stages)).commands

  entries : (es : List CellEntry) → Each (IsNumberedUpTo most) (map (λ (e : CellEntry). e.input) es) → Each (λ (e : CellEntry). IsNumberedUpTo most e.input) es
  entries [] k = tt
  entries (e ∷ es) k = (k.0, entries es k.1)

  each : (cs : List Cell) → Each (ServedTo stages (histories cells)) (histories cs) → Each (HasNumbersUpTo most) cs
  each [] k = tt
  each (c ∷ cs) k = (
    Each-all (λ (e : CellEntry). IsNumberedUpTo most e.input) c.history
        (entries c.history
        (numbers_up_to a.nodes a.files a.tally stages c.node (inputs_in (kept_history c))
        (rules_front a.nodes a.files a.tally (actions_of stages) s.actions a.rules) k.0.along)),
    each cs k.1,
  )
