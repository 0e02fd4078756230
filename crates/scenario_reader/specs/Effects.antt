-- What a line adds, where no check fails.
use Rattle.std.specs.Prelude.{ℕ, ◌+◌, List, [], ◌∷◌, ◌++◌, Some, unwrap_or}
use Rattle.ring_math.specs.Keys.{file_of}
use Rattle.wire_msg.specs.declared.command.Command.{Command}
use Rattle.wire_msg.specs.declared.command.Command.TheVariants as command
use Rattle.scenario_reader.specs.declared.form.Form.{Form}
use Rattle.scenario_reader.specs.declared.form.Form.TheVariants as form
use Rattle.scenario_reader.specs.declared.node.NodeLine.{NodeLine}
use Rattle.scenario_reader.specs.declared.node.FileLine.{FileLine}
use Rattle.scenario_reader.specs.declared.action.Action.{Action}
use Rattle.scenario_reader.specs.declared.action.What.{What}
use Rattle.scenario_reader.specs.declared.action.What.TheVariants as what
use Rattle.scenario_reader.specs.Plain.{Draft, file_named}
use Rattle.scenario_reader.specs.Tallies.{tally_of}
use Rattle.scenario_reader.specs.Meanings.{amount, bytes_in, salt_in, node_id, key_in, identifier_in}
use Rattle.scenario_reader.specs.Words.{Word}

-- with one more node, file or action at the end of its list
abbrev pub with_node : Draft → NodeLine → Draft
with_node draft node = record draft { nodes = draft.nodes ++ node ∷ [] }

abbrev pub with_file : Draft → FileLine → Draft
with_file draft file = record draft { files = draft.files ++ file ∷ [] }

abbrev pub with_action : Draft → Action → Draft
with_action draft action = record draft { actions = draft.actions ++ action ∷ [] }

-- with one more action of line n
abbrev pub with_what : Draft → ℕ → What → Draft
with_what draft n what = with_action draft (record { line = n; what = what })

-- the node that a word names
abbrev pub node_at : Draft → Word → ℕ
node_at draft word = unwrap_or (node_id draft word.text) 0

-- the file that a word names
abbrev pub no_file : FileLine
no_file = record { name = []; file = []; bytes = []; line = 0 }

abbrev pub file_at : Draft → Word → FileLine
file_at draft word = unwrap_or (file_named draft.files word.text) no_file

-- with one more command to the node that a word names; it has the next number
abbrev pub with_command : Draft → ℕ → Word → Command → Draft
with_command draft n name command =
    with_what draft n (what.Command ((tally_of draft.actions).commands + 1) (node_at draft name) command)

-- the node of `node NAME ID`
abbrev pub new_node : Draft → ℕ → Word → Word → NodeLine
new_node draft n name id =
    record { name = name.text; id = unwrap_or (identifier_in draft name.text id.text) 0; line = n }

-- the file of `file FILE NAME OWNER SALT BYTES`
abbrev pub new_file : ℕ → Word → Word → Word → Word → Word → FileLine
new_file n file name owner salt content = record {
  name = file.text;
  file = file_of (bytes_in name.text) (bytes_in owner.text) (salt_in salt.text);
  bytes = bytes_in content.text;
  line = n;
}

-- after line n, of this form and with these words behind the first
abbrev pub after_form : Draft → ℕ → Form → List Word → Draft
after_form draft n form.Node (name ∷ id ∷ []) = with_node draft (new_node draft n name id)
after_form draft n form.File (file ∷ name ∷ owner ∷ salt ∷ content ∷ []) =
    with_file draft (new_file n file name owner salt content)
after_form draft n form.First (name ∷ []) = record draft { founder = Some (node_at draft name) }
after_form draft n form.Join (name ∷ via ∷ []) = with_command draft n name (command.Join (node_at draft via))
after_form draft n form.Lookup (name ∷ key ∷ []) =
    with_command draft n name (command.Lookup (unwrap_or (key_in draft key.text) 0))
after_form draft n form.Insert (name ∷ file ∷ copies ∷ []) =
    with_command draft n name (command.Insert (file_at draft file).file (amount copies.text) (file_at draft file).bytes)
after_form draft n form.Fetch (name ∷ file ∷ []) = with_command draft n name (command.Fetch (file_at draft file).file)
after_form draft n form.Reclaim (name ∷ file ∷ []) =
    with_command draft n name (command.Reclaim (file_at draft file).file)
after_form draft n form.GiveUp (name ∷ []) = with_command draft n name command.GiveUp
after_form draft n form.Settle (count ∷ []) = with_what draft n (what.Settle (amount count.text))
after_form draft n form.Deliver (number ∷ []) = with_what draft n (what.Deliver (amount number.text))
after_form draft n form.Shuffle (seed ∷ count ∷ []) =
    with_what draft n (what.Shuffle (amount seed.text) (amount count.text))
after_form draft n form.Dup (copies ∷ []) = with_what draft n (what.Dup (amount copies.text))
after_form draft n form.Noise (name ∷ content ∷ []) =
    with_what draft n (what.Noise (node_at draft name) (bytes_in content.text))
after_form draft n form words = draft
