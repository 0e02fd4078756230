-- What every scenario keeps, and what may be added to a draft of one.
use Rattle.std.specs.Prelude.{◌≡◌, ◌≢◌, ℕ, ◌+◌, ◌^◌, ◌<◌, ◌≤◌, List, [], ◌∷◌, length, All, AllPairs, Any, Contains, IfSome, IsNone, IsSome, IsTrue}
use Rattle.wire_codec.specs.Reading.{refusal}
use Rattle.wire_msg.specs.declared.command.Command.{Command}
use Rattle.wire_msg.specs.declared.command.Command.TheVariants as command
use Rattle.wire_msg.specs.declared.limits.TheConstants.{MOST_COPIES}
use Rattle.scenario_reader.specs.declared.limits.TheConstants.{MOST_NODES, MOST_FILES, MOST_DELIVERIES}
use Rattle.scenario_reader.specs.declared.node.NodeLine.{NodeLine}
use Rattle.scenario_reader.specs.declared.node.FileLine.{FileLine}
use Rattle.scenario_reader.specs.declared.action.Action.{Action}
use Rattle.scenario_reader.specs.declared.action.What.{What}
use Rattle.scenario_reader.specs.declared.action.What.TheVariants as what
use Rattle.scenario_reader.specs.declared.tally.Tally.{Tally}
use Rattle.scenario_reader.specs.Plain.{PlainScenario, Draft, ids, node_names, file_names}
use Rattle.scenario_reader.specs.Spelling.{is_name}
use Rattle.scenario_reader.specs.Tallies.{start, tallied, tally_of}

-- nodes within their limit, of names and identifiers that differ
pub record AreNodes (nodes : List NodeLine) : Type 0 where
  pub few : length nodes ≤ MOST_NODES
  pub names_differ : AllPairs ◌≢◌ (node_names nodes)
  pub ids_differ : AllPairs ◌≢◌ (ids nodes)
  pub range : All (λ id. id < 2 ^ 128) (ids nodes)

-- files within their limit, of names that differ
pub record AreFiles (files : List FileLine) : Type 0 where
  pub few : length files ≤ MOST_FILES
  pub names_differ : AllPairs ◌≢◌ (file_names files)

-- some line declares this file; some line declares it with these bytes
abbrev pub IsFile : List FileLine → List ℕ → Type 0
IsFile files file = Any (λ (line : FileLine). line.file ≡ file) files

abbrev pub IsFileOf : List FileLine → List ℕ → List ℕ → Type 0
IsFileOf files file bytes = Any (λ (line : FileLine). (line.file ≡ file) × (line.bytes ≡ bytes)) files

-- a command names nodes and files that are declared
abbrev pub IsCommand : List NodeLine → List FileLine → Command → Type 0
IsCommand nodes files (command.Join via) = Contains (ids nodes) via
IsCommand nodes files (command.Lookup key) = key < 2 ^ 128
IsCommand nodes files (command.Insert file copies bytes) = (1 ≤ copies) × (copies ≤ MOST_COPIES) × IsFileOf files file bytes
IsCommand nodes files (command.Fetch file) = IsFile files file
IsCommand nodes files command.GiveUp = Unit {0}
IsCommand nodes files (command.Reclaim file) = IsFile files file

-- A command is at a declared node and has the next number. A settle, a shuffle and a dup are within their limits. A noise is
-- at a declared node and is no frame.
abbrev pub IsWhat : List NodeLine → List FileLine → Tally → What → Type 0
IsWhat nodes files tally (what.Command number node command) =
    (number ≡ tally.commands + 1) × Contains (ids nodes) node × IsCommand nodes files command
IsWhat nodes files tally (what.Settle n) = n ≤ MOST_DELIVERIES
IsWhat nodes files tally (what.Deliver n) = n < 2 ^ 64
IsWhat nodes files tally (what.Shuffle seed count) = (seed < 2 ^ 64) × (count ≤ MOST_DELIVERIES)
IsWhat nodes files tally (what.Dup n) = (1 ≤ n) × (n ≤ 4)
IsWhat nodes files tally (what.Noise node bytes) = Contains (ids nodes) node × IsSome (refusal bytes)

-- An action may follow actions of this tally: the deliveries of all come to at most 1,000,000.
pub record MayFollow (nodes : List NodeLine) (files : List FileLine) (tally : Tally) (what : What) : Type 0 where
  pub allowed : IsWhat nodes files tally what
  pub deliveries : (tallied tally what).deliveries ≤ MOST_DELIVERIES

-- each action may follow those before it
abbrev pub AreActions : List NodeLine → List FileLine → Tally → List Action → Type 0
AreActions nodes files tally [] = Unit {0}
AreActions nodes files tally (action ∷ actions) =
    MayFollow nodes files tally action.what × AreActions nodes files (tallied tally action.what) actions

pub record KeepsRules (scenario : PlainScenario) : Type 0 where
  pub nodes : AreNodes scenario.nodes
  pub founder : Contains (ids scenario.nodes) scenario.founder
  pub files : AreFiles scenario.files
  pub actions : AreActions scenario.nodes scenario.files start scenario.actions

-- what stands so far keeps the rules
pub record DraftKeepsRules (draft : Draft) : Type 0 where
  pub nodes : AreNodes draft.nodes
  pub founder : IfSome draft.founder (λ id. Contains (ids draft.nodes) id)
  pub files : AreFiles draft.files
  pub actions : AreActions draft.nodes draft.files start draft.actions

-- A node may be declared: there is room for it, its name is spelled as one, and name and identifier are no other node's.
pub record MayDeclareNode (draft : Draft) (name : List ℕ) (id : ℕ) : Type 0 where
  pub few : length draft.nodes < MOST_NODES
  pub spelled : IsTrue (is_name name)
  pub new_name : All (λ other. other ≢ name) (node_names draft.nodes)
  pub new_id : All (λ other. other ≢ id) (ids draft.nodes)

-- A file may be declared: there is room for it, its name is spelled as one and is no other file's.
pub record MayDeclareFile (draft : Draft) (name : List ℕ) : Type 0 where
  pub few : length draft.files < MOST_FILES
  pub spelled : IsTrue (is_name name)
  pub new_name : All (λ other. other ≢ name) (file_names draft.files)

-- an action may be added: there is a founder, and it may follow
pub record MayAct (draft : Draft) (what : What) : Type 0 where
  pub founded : IsSome draft.founder
  pub follows : MayFollow draft.nodes draft.files (tally_of draft.actions) what

-- a node may become the founder: it is declared, and there is none yet
pub record MayFound (draft : Draft) (id : ℕ) : Type 0 where
  pub first : IsNone draft.founder
  pub declared : Contains (ids draft.nodes) id
