-- A draft keeps the rules when a node, a file or an action is added.
use Rattle.std.proofs.Common.{◌≡◌, ◌≢◌, ℕ, zero, suc, ◌+◌, ◌^◌, ◌<◌, ◌≤◌, List, [], ◌∷◌, ◌++◌, length, map, arith}
use Rattle.std.specs.Prelude.{All, AllPairs, Any, Contains, Option, Some, None, IfSome}
use Rattle.std.proofs.lemmas.List.{map-append, length_push}
use Rattle.std.proofs.lemmas.List.Elements.{All-append, Contains-append_left}
use Rattle.std.proofs.lemmas.List.Sums.{fold-append}
use Rattle.std.proofs.lemmas.List.Quantifiers.{all_pairs_push}
use Rattle.wire_msg.specs.declared.command.Command.{Command}
use Rattle.wire_msg.specs.declared.command.Command.TheVariants as command
use Rattle.scenario_reader.specs.declared.node.NodeLine.{NodeLine}
use Rattle.scenario_reader.specs.declared.node.FileLine.{FileLine}
use Rattle.scenario_reader.specs.declared.action.Action.{Action}
use Rattle.scenario_reader.specs.declared.action.What.{What}
use Rattle.scenario_reader.specs.declared.action.What.TheVariants as what
use Rattle.scenario_reader.specs.declared.tally.Tally.{Tally}
use Rattle.scenario_reader.specs.Plain.{Draft, ids, node_names, file_names}
use Rattle.scenario_reader.specs.Rules.{AreNodes, AreFiles, IsCommand, IsWhat, MayFollow, AreActions, DraftKeepsRules, MayDeclareNode, MayDeclareFile, MayAct}
use Rattle.scenario_reader.specs.Effects.{with_node, with_file, with_action}
use Rattle.scenario_reader.specs.Tallies.{start, tallied, tally_from, tally_of}

-- one more, apart from all others
all_pairs_more : {X Y : Type 0} (f : X → Y) (xs : List X) (x : X) → AllPairs ◌≢◌ (map f xs) → All (λ y. y ≢ f x) (map f xs) →
    AllPairs ◌≢◌ (map f (xs ++ x ∷ []))
all_pairs_more f xs x apart new =
    rw (map-append f xs (x ∷ [])) (all_pairs_push ◌≢◌ (map f xs) (f x) apart (λ k d within. new k d within))

all_one : {X : Type 0} (P : X → Type 0) (x : X) → P x → All P (x ∷ [])
all_one P x holds zero d within = holds
all_one P x holds (suc k) d within = absurd (omega arith)

AreNodes-more : (nodes : List NodeLine) (node : NodeLine) → AreNodes nodes → length nodes < 256 → All (λ other. other ≢ node.name) (node_names nodes) →
    All (λ other. other ≢ node.id) (ids nodes) → node.id < 2 ^ 128 → AreNodes (nodes ++ node ∷ [])
AreNodes-more nodes node are few new_name new_id range = record {
  few = omega (arith, length_push nodes node);
  names_differ = all_pairs_more (λ (n : NodeLine). n.name) nodes node are.names_differ new_name;
  ids_differ = all_pairs_more (λ (n : NodeLine). n.id) nodes node are.ids_differ new_id;
  range = rw (map-append (λ (n : NodeLine). n.id) nodes (node ∷ []))
      (All-append (λ id. id < 2 ^ 128) (ids nodes) (node.id ∷ []) are.range (all_one (λ id. id < 2 ^ 128) node.id range));
}

AreFiles-more : (files : List FileLine) (file : FileLine) → AreFiles files → length files < 256 → All (λ other. other ≢ file.name) (file_names files) →
    AreFiles (files ++ file ∷ [])
AreFiles-more files file are few new_name = record {
  few = omega (arith, length_push files file);
  names_differ = all_pairs_more (λ (f : FileLine). f.name) files file are.names_differ new_name;
}

-- what was declared stays so
Contains-ids-more : (nodes : List NodeLine) (node : NodeLine) (id : ℕ) → Contains (ids nodes) id → Contains (ids (nodes ++ node ∷ [])) id
Contains-ids-more nodes node id has =
    rw (map-append (λ (n : NodeLine). n.id) nodes (node ∷ [])) (Contains-append_left (ids nodes) (node.id ∷ []) id has)

Any-more : {X : Type 0} (P : X → Type 0) (xs : List X) (x : X) → Any P xs → Any P (xs ++ x ∷ [])
Any-more P xs x has =
    let there = Contains-append_left xs (x ∷ []) has.1 (has.0, has.2, has.3) in (there.0, has.1, there.1, there.2, has.4)

IsFounder-more : (nodes : List NodeLine) (node : NodeLine) (founder : Option ℕ) → IfSome founder (λ id. Contains (ids nodes) id) →
    IfSome founder (λ id. Contains (ids (nodes ++ node ∷ [])) id)
IsFounder-more nodes node None is = is
IsFounder-more nodes node (Some id) is = Contains-ids-more nodes node id is

IsCommand-node : (nodes : List NodeLine) (node : NodeLine) (files : List FileLine) (c : Command) → IsCommand nodes files c →
    IsCommand (nodes ++ node ∷ []) files c
IsCommand-node nodes node files (command.Join via) is = Contains-ids-more nodes node via is
IsCommand-node nodes node files (command.Lookup key) is = is
IsCommand-node nodes node files (command.Insert file copies bytes) is = is
IsCommand-node nodes node files (command.Fetch file) is = is
IsCommand-node nodes node files command.GiveUp is = is
IsCommand-node nodes node files (command.Reclaim file) is = is

IsCommand-file : (nodes : List NodeLine) (files : List FileLine) (line : FileLine) (c : Command) → IsCommand nodes files c →
    IsCommand nodes (files ++ line ∷ []) c
IsCommand-file nodes files line (command.Join via) is = is
IsCommand-file nodes files line (command.Lookup key) is = is
IsCommand-file nodes files line (command.Insert file copies bytes) is = (is.0, is.1, Any-more _ files line is.2)
IsCommand-file nodes files line (command.Fetch file) is = Any-more _ files line is
IsCommand-file nodes files line command.GiveUp is = is
IsCommand-file nodes files line (command.Reclaim file) is = Any-more _ files line is

IsWhat-node : (nodes : List NodeLine) (node : NodeLine) (files : List FileLine) (tally : Tally) (w : What) → IsWhat nodes files tally w →
    IsWhat (nodes ++ node ∷ []) files tally w
IsWhat-node nodes node files tally (what.Command number at c) is =
    (is.0, Contains-ids-more nodes node at is.1, IsCommand-node nodes node files c is.2)
IsWhat-node nodes node files tally (what.Settle n) is = is
IsWhat-node nodes node files tally (what.Deliver n) is = is
IsWhat-node nodes node files tally (what.Shuffle seed count) is = is
IsWhat-node nodes node files tally (what.Dup n) is = is
IsWhat-node nodes node files tally (what.Noise at bytes) is = (Contains-ids-more nodes node at is.0, is.1)

IsWhat-file : (nodes : List NodeLine) (files : List FileLine) (line : FileLine) (tally : Tally) (w : What) → IsWhat nodes files tally w →
    IsWhat nodes (files ++ line ∷ []) tally w
IsWhat-file nodes files line tally (what.Command number at c) is = (is.0, is.1, IsCommand-file nodes files line c is.2)
IsWhat-file nodes files line tally (what.Settle n) is = is
IsWhat-file nodes files line tally (what.Deliver n) is = is
IsWhat-file nodes files line tally (what.Shuffle seed count) is = is
IsWhat-file nodes files line tally (what.Dup n) is = is
IsWhat-file nodes files line tally (what.Noise at bytes) is = is

AreActions-node : (nodes : List NodeLine) (node : NodeLine) (files : List FileLine) (tally : Tally) (actions : List Action) →
    AreActions nodes files tally actions → AreActions (nodes ++ node ∷ []) files tally actions
AreActions-node nodes node files tally [] are = tt
AreActions-node nodes node files tally (action ∷ actions) are = (
  record { allowed = IsWhat-node nodes node files tally action.what are.0.allowed; deliveries = are.0.deliveries },
  AreActions-node nodes node files (tallied tally action.what) actions are.1,
)

AreActions-file : (nodes : List NodeLine) (files : List FileLine) (line : FileLine) (tally : Tally) (actions : List Action) →
    AreActions nodes files tally actions → AreActions nodes (files ++ line ∷ []) tally actions
AreActions-file nodes files line tally [] are = tt
AreActions-file nodes files line tally (action ∷ actions) are = (
  record { allowed = IsWhat-file nodes files line tally action.what are.0.allowed; deliveries = are.0.deliveries },
  AreActions-file nodes files line (tallied tally action.what) actions are.1,
)

AreActions-more : (nodes : List NodeLine) (files : List FileLine) (tally : Tally) (actions : List Action) (action : Action) →
    AreActions nodes files tally actions → MayFollow nodes files (tally_from tally actions) action.what → AreActions nodes files tally (actions ++ action ∷ [])
AreActions-more nodes files tally [] action are follows = (follows, tt)
AreActions-more nodes files tally (first ∷ actions) action are follows =
    (are.0, AreActions-more nodes files (tallied tally first.what) actions action are.1 follows)

pub DraftKeepsRules-node : (draft : Draft) (node : NodeLine) → DraftKeepsRules draft → MayDeclareNode draft node.name node.id → node.id < 2 ^ 128 →
    DraftKeepsRules (with_node draft node)
DraftKeepsRules-node draft node keeps may range = record {
  nodes = AreNodes-more draft.nodes node keeps.nodes may.few may.new_name may.new_id range;
  founder = IsFounder-more draft.nodes node draft.founder keeps.founder;
  files = keeps.files;
  actions = AreActions-node draft.nodes node draft.files start draft.actions keeps.actions;
}

pub DraftKeepsRules-file : (draft : Draft) (file : FileLine) → DraftKeepsRules draft → MayDeclareFile draft file.name → DraftKeepsRules (with_file draft file)
DraftKeepsRules-file draft file keeps may = record {
  nodes = keeps.nodes;
  founder = keeps.founder;
  files = AreFiles-more draft.files file keeps.files may.few may.new_name;
  actions = AreActions-file draft.nodes draft.files file start draft.actions keeps.actions;
}

pub DraftKeepsRules-action : (draft : Draft) (action : Action) → DraftKeepsRules draft → MayAct draft action.what → DraftKeepsRules (with_action draft action)
DraftKeepsRules-action draft action keeps may = record {
  nodes = keeps.nodes;
  founder = keeps.founder;
  files = keeps.files;
  actions = AreActions-more draft.nodes draft.files start draft.actions action keeps.actions may.follows;
}

-- one action more in the tally
pub tally_of-more : (actions : List Action) (action : Action) → tally_of (actions ++ action ∷ []) ≡ tallied (tally_of actions) action.what
tally_of-more actions action = fold-append (λ (t : Tally) (a : Action). tallied t a.what) start actions (action ∷ [])

tallied-commands : (tally : Tally) (w : What) → (tallied tally w).commands ≤ tally.commands + 1
tallied-commands tally (what.Command number at c) = omega arith
tallied-commands tally (what.Settle n) = omega arith
tallied-commands tally (what.Deliver n) = omega arith
tallied-commands tally (what.Shuffle seed count) = omega arith
tallied-commands tally (what.Dup n) = omega arith
tallied-commands tally (what.Noise at bytes) = omega arith

-- no more commands than actions
tally_from-commands : (tally : Tally) (actions : List Action) → (tally_from tally actions).commands ≤ tally.commands + length actions
tally_from-commands tally [] = omega arith
tally_from-commands tally (action ∷ actions) =
    omega (arith, tallied-commands tally action.what, tally_from-commands (tallied tally action.what) actions)

pub tally_of-commands : (actions : List Action) → (tally_of actions).commands ≤ length actions
tally_of-commands actions = omega (arith, tally_from-commands start actions)

-- what may follow keeps the deliveries within their limit
tally_from-deliveries : (nodes : List NodeLine) (files : List FileLine) (tally : Tally) (actions : List Action) → AreActions nodes files tally actions →
    tally.deliveries ≤ 1000000 → (tally_from tally actions).deliveries ≤ 1000000
tally_from-deliveries nodes files tally [] are within = within
tally_from-deliveries nodes files tally (action ∷ actions) are within =
    tally_from-deliveries nodes files (tallied tally action.what) actions are.1 are.0.deliveries

pub tally_of-deliveries : (draft : Draft) → DraftKeepsRules draft → (tally_of draft.actions).deliveries ≤ 1000000
tally_of-deliveries draft keeps =
    tally_from-deliveries draft.nodes draft.files start draft.actions keeps.actions (omega arith)
