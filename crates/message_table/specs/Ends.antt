-- The beginning and the end of the table: what names stand for, and how the nodes are left.
use Rattle.std.specs.Prelude.{ℕ, Bool, List, ◌++◌, Option, Some, None, is_some, filter, flat_map, map, codes}
use Rattle.hex.specs.Hex.{encode_lower}
use Rattle.ring_math.specs.Names.{Id}
use Rattle.ring_math.specs.Files.{slot_of}
use Rattle.ring_math.specs.Texts.{text_of}
use Rattle.ring_math.specs.declared.file.Held.{Held}
use Rattle.coverage.specs.declared.Reach.{Reach}
use Rattle.file_store.specs.Answers.{bytes_in}
use Rattle.overlay_rules.specs.State.{State}
use Rattle.node_parts.specs.Views.{reach_of}
use Rattle.scenario_reader.specs.declared.node.NodeLine.{NodeLine}
use Rattle.scenario_reader.specs.declared.node.FileLine.{FileLine}
use Rattle.scenario_reader.specs.Plain.{PlainScenario}
use Rattle.delivery_report.specs.Answers.{name_of}
use Rattle.message_table.specs.Labels.{both_text, spaced_or_dash}

abbrev pub node_head : NodeLine → List ℕ
node_head node = codes "node " ++ node.name ++ codes " " ++ text_of node.id ++ codes "\n"

abbrev pub file_head : FileLine → List ℕ
file_head file = codes "file " ++ file.name ++ codes " " ++ encode_lower file.file ++ codes "\n"

-- what names stand for, and who is ready from the start
abbrev pub heads_text : PlainScenario → List ℕ
heads_text s = flat_map node_head s.nodes ++ flat_map file_head s.files ++ codes "first " ++ name_of s.nodes s.founder ++ codes "\n"

-- whether the bytes of a file are among these
abbrev pub is_held : List Held → FileLine → Bool
is_held held file = is_some (bytes_in (slot_of held file.file))

-- the names of the files of which bytes are held
abbrev pub held_names : List FileLine → List Held → List (List ℕ)
held_names files held = map (λ (file : FileLine). file.name) (filter (is_held held) files)

abbrev pub links_text : List NodeLine → Option Reach → List ℕ
links_text nodes None = codes " not ready"
links_text nodes (Some r) = codes " ready between " ++ both_text nodes r.left r.right

-- how a node is left
abbrev pub node_end : PlainScenario → (Id → State) → NodeLine → List ℕ
node_end s states node =
    codes "node " ++ node.name ++ links_text s.nodes (reach_of (states node.id)) ++ codes " holds"
    ++ spaced_or_dash (held_names s.files (states node.id).files) ++ codes "\n"

abbrev pub ends_text : PlainScenario → (Id → State) → List ℕ
ends_text s states = flat_map (node_end s states) s.nodes
