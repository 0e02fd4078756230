-- What words mean beside what was declared before.
use Rattle.std.specs.Prelude.{ℕ, if◌then◌else◌, List, [], Option, Some, None, option_map, unwrap_or}
use Rattle.ring_math.specs.Keys.{key_of, id_of}
use Rattle.scenario_reader.specs.declared.node.NodeLine.{NodeLine}
use Rattle.scenario_reader.specs.declared.node.FileLine.{FileLine}
use Rattle.scenario_reader.specs.Plain.{Draft, node_named, file_named}
use Rattle.scenario_reader.specs.Spelling.{number_of, bytes_of, salt_of, identifier_of, behind_at, is_dash}

-- what words spell; 0 and no bytes where they spell nothing
abbrev pub amount : List ℕ → ℕ
amount text = unwrap_or (number_of text) 0

abbrev pub bytes_in : List ℕ → List ℕ
bytes_in text = unwrap_or (bytes_of text) []

abbrev pub salt_in : List ℕ → List ℕ
salt_in text = unwrap_or (salt_of text) []

-- the identifier of a declared node
abbrev pub node_id : Draft → List ℕ → Option ℕ
node_id draft text = option_map (λ (node : NodeLine). node.id) (node_named draft.nodes text)

-- the key of a declared file
abbrev pub file_key : Draft → List ℕ → Option ℕ
file_key draft name = option_map (λ (file : FileLine). key_of file.file) (file_named draft.files name)

-- a key: `@FILE` is the key of that file
abbrev pub key_from : Draft → List ℕ → Option (List ℕ) → Option ℕ
key_from draft text None = identifier_of text
key_from draft text (Some name) = file_key draft name

abbrev pub key_in : Draft → List ℕ → Option ℕ
key_in draft text = key_from draft text (behind_at text)

-- the identifier of a node of this name: `-` is that of the name
abbrev pub identifier_in : Draft → List ℕ → List ℕ → Option ℕ
identifier_in draft name text = if is_dash text then Some (id_of name) else key_in draft text
