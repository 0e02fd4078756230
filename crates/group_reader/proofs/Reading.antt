-- What the steps of the reader rest on.
use Rattle.std.proofs.Common.{◌≡◌, ◌≢◌, ◌<◌, ◌≤◌, ◌+◌, ℕ, zero, suc, cond, Bool, true, false, Some, List, [], ◌∷◌, ◌++◌, length, map}
use Rattle.std.proofs.Common.{get_or, Contains}
use Rattle.std.proofs.Common.{refl, sym, ap, subst, ◌∙◌, arith}
use Rattle.std.specs.Prelude.{AllPairs, bytes_eq}
use Rattle.std.proofs.lemmas.Bool.{false_from_ne_true}
use Rattle.std.proofs.lemmas.List.{get_or-map, length-map, length_push}
use Rattle.std.proofs.lemmas.Slice.Eq.{bytes_eq-Decides}
use Rattle.scenario_reader.specs.declared.limits.TheConstants.{MOST_DELIVERIES}
use Rattle.scenario_reader.specs.declared.node.NodeLine.{NodeLine}
use Rattle.scenario_reader.specs.declared.words.Word.{Word}
use Rattle.scenario_reader.specs.Plain.{ids, node_named, node_names}
use Rattle.scenario_reader.specs.Words.{plain_word}
use Rattle.scribe_core.specs.declared.action.GroupAction.{GroupAction}
use Rattle.scribe_core.specs.Actions.{AreActionsFrom, MayFollow, counted}
use Rattle.group_reader.specs.Plain.{Draft}
use Rattle.group_reader.specs.Rules.{KeepsRules, commands_in}

-- a node that was found is one of the nodes
pub id_of_named : (nodes : List NodeLine) (name : List ℕ) (node : NodeLine) → node_named nodes name ≡ Some node → Contains (ids nodes) node.id
id_of_named [] name node found = cc
id_of_named (first ∷ nodes) name node found = by_test (bytes_eq first.name name) (λ later. id_of_named nodes name node later) found where
  by_test : (t : Bool) → (node_named nodes name ≡ Some node → Contains (ids nodes) node.id) → cond t (Some first) (node_named nodes name) ≡ Some node →
      Contains (ids (first ∷ nodes)) node.id
  by_test true later is = let here : first ≡ node = cc in (0, omega arith, ap (λ (n : NodeLine). n.id) here)
  by_test false later is = let has = later is in (suc has.0, omega (arith, has.1), has.2)

-- where names differ, a node with this name is the one that is found
pub named_at : (nodes : List NodeLine) (name : List ℕ) (place : ℕ) (node : NodeLine) → AllPairs ◌≢◌ (node_names nodes) → place < length nodes →
    node ≡ get_or nodes place node → bytes_eq node.name name ≡ true → node_named nodes name ≡ Some node
named_at [] name place node differ within at has = absurd (omega arith)
named_at (first ∷ nodes) name zero node differ within at has = rw (← at, has) refl
named_at (first ∷ nodes) name (suc place) node differ within at has =
    rw other (named_at nodes name place node (λ i j d before end. differ (suc i) (suc j) d (omega arith) (omega arith)) (omega arith) at has)
  where
    below : suc place < length (node_names (first ∷ nodes))
    below = let long = length-map (first ∷ nodes) (λ (n : NodeLine). n.name) in omega arith

    there : get_or (node_names nodes) place first.name ≡ name
    there = get_or-map (λ (n : NodeLine). n.name) nodes place node first.name (omega arith) ∙ ap (λ (n : NodeLine). n.name) (sym at)
        ∙ (bytes_eq-Decides node.name name).0 has

    other : bytes_eq first.name name ≡ false
    other = false_from_ne_true _ (λ same. differ 0 (suc place) first.name (omega arith) below ((bytes_eq-Decides first.name name).0 same ∙ sym there))

-- ---- actions

pub actions_push : (nodes : List ℕ) (n : ℕ) (actions : List GroupAction) (a : GroupAction) → AreActionsFrom nodes n actions →
    MayFollow nodes (commands_in n actions) a.what → AreActionsFrom nodes n (actions ++ a ∷ [])
actions_push nodes n [] a h may = (may, tt)
actions_push nodes n (first ∷ actions) a h may = (h.0, actions_push nodes (counted n first.what) actions a h.1 may)

pub commands_push : (n : ℕ) (actions : List GroupAction) (a : GroupAction) → commands_in n (actions ++ a ∷ []) ≡ counted (commands_in n actions) a.what
commands_push n [] a = refl
commands_push n (first ∷ actions) a = commands_push (counted n first.what) actions a

-- one action more keeps the rules
pub keeps_push : (d : Draft) (a : GroupAction) (commands deliveries : ℕ) → KeepsRules d → MayFollow (ids d.scenario.nodes) d.commands a.what →
    commands ≡ counted d.commands a.what → commands ≤ d.commands + 1 → deliveries ≤ MOST_DELIVERIES →
    KeepsRules (record { scenario = d.scenario; actions = d.actions ++ a ∷ []; commands = commands; deliveries = deliveries })
keeps_push d a commands deliveries h may is few most = record {
  actions = actions_push (ids d.scenario.nodes) 0 d.actions a h.actions (subst (λ k. MayFollow (ids d.scenario.nodes) k a.what) h.commands may);
  commands = is ∙ ap (λ k. counted k a.what) h.commands ∙ sym (commands_push 0 d.actions a);
  few = let long = length_push d.actions a in let was = h.few in omega arith;
  deliveries = most;
}

-- ---- words

pub words_one : (words : List Word) (d : Word) → 1 ≤ length words → length words < 2 → map plain_word words ≡ plain_word (get_or words 0 d) ∷ []
words_one [] d some few = absurd (omega arith)
words_one (word ∷ []) d some few = refl
words_one (word ∷ next ∷ words) d some few = absurd (omega arith)

pub words_two : (words : List Word) (d : Word) → 2 ≤ length words → length words < 3 →
    map plain_word words ≡ plain_word (get_or words 0 d) ∷ plain_word (get_or words 1 d) ∷ []
words_two [] d some few = absurd (omega arith)
words_two (word ∷ []) d some few = absurd (omega arith)
words_two (word ∷ next ∷ []) d some few = refl
words_two (word ∷ next ∷ last ∷ words) d some few = absurd (omega arith)
