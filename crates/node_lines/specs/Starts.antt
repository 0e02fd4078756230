-- The line that names the node.
use Rattle.std.specs.Prelude.{ℕ, ◌+◌, Bool, true, false, if◌then◌else◌, List, [], ◌∷◌, length, codes, bytes_eq, Option, Some, None, Ok, Err}
use Rattle.scenario_reader.specs.Words.{Word}
use Rattle.node_lines.specs.declared.refusal.Refusal.TheVariants as refusal
use Rattle.node_lines.specs.declared.start.Start.{Start}
use Rattle.node_lines.specs.Commands.{Reading, ◌>>=◌, id_in}
use Rattle.node_lines.specs.Lines.{text_words}

-- whether a node that is named so is the founder
abbrev pub founder_by : List ℕ → Option Bool
founder_by text = if bytes_eq text (codes "node") then Some false else if bytes_eq text (codes "founder") then Some true else None

abbrev pub start_with : ℕ → Option Bool → List Word → Reading Start
start_with place None words = Err (refusal.Word place)
start_with place (Some founder) (id ∷ []) = id_in id >>= λ x. Ok (record { me = x; founder = founder })
start_with place (Some founder) words = Err (refusal.Count (length words + 1))

abbrev pub start_of : List Word → Reading Start
start_of [] = Err (refusal.Word 0)
start_of (first ∷ words) = start_with first.place (founder_by first.text) words

-- the node that a line names, or why it names none
abbrev pub started_by : List ℕ → Reading Start
started_by line = text_words line >>= start_of
