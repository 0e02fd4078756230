-- The checks of a line, by their numbers. Each gives the fault of line n, or None.
use Rattle.std.specs.Prelude.{ℕ, ◌+◌, ◌*◌, ◌==◌, ◌&&◌, ◌||◌, not, nat_le, nat_lt, Bool, true, false, if◌then◌else◌, List, [], ◌∷◌, length, position, Option}
use Rattle.std.specs.Prelude.{Some, None, option_map, is_none}
use Rattle.std.specs.List.{list_any}
use Rattle.std.specs.Option.{is_some}
use Rattle.ring_math.specs.declared.limits.TheConstants.{MOST_BYTES}
use Rattle.wire_msg.specs.declared.limits.TheConstants.{MOST_COPIES}
use Rattle.wire_codec.specs.Reading.{refusal}
use Rattle.scenario_reader.specs.declared.limits.TheConstants.{MOST_NODES, MOST_FILES, MOST_NAME_BYTES, MOST_LINE_BYTES, MOST_REPEATS, MOST_DELIVERIES}
use Rattle.scenario_reader.specs.declared.fault.LineFault.{LineFault}
use Rattle.scenario_reader.specs.declared.fault.LineFault.TheVariants as fault
use Rattle.scenario_reader.specs.declared.form.Form.{Form}
use Rattle.scenario_reader.specs.declared.form.Form.TheVariants.{First}
use Rattle.scenario_reader.specs.declared.node.NodeLine.{NodeLine}
use Rattle.scenario_reader.specs.Plain.{Draft, node_named, file_named}
use Rattle.scenario_reader.specs.Tallies.{tally_of}
use Rattle.scenario_reader.specs.Spelling.{is_name, number_of, bytes_of, salt_of, is_key, is_identifier, behind_at}
use Rattle.scenario_reader.specs.Meanings.{amount, bytes_in, identifier_in}
use Rattle.scenario_reader.specs.Words.{Word}
use Rattle.scenario_reader.specs.declared.form.Part.{Part}
use Rattle.scenario_reader.specs.declared.form.Part.TheVariants.{NewNode, NewIdentifier, NewFile, NameBytes, OwnerBytes, Salt, Content, OldNode, OldFile, Key}
use Rattle.scenario_reader.specs.declared.form.Part.TheVariants.{CopyCount, SettleCount, ShuffleCount, MessageNumber, Seed, DupCount, NoiseBytes}
use Rattle.scenario_reader.specs.Forms.{parts_of, is_action}

abbrev pub fault_if : Bool → LineFault → Option LineFault
fault_if holds fault = if holds then Some fault else None

-- the place of the leftmost word that fails a check, of the words that stand for these parts
abbrev pub leftmost : (Part → List ℕ → Bool) → List Part → List Word → Option ℕ
leftmost fails [] words = None
leftmost fails (part ∷ parts) [] = None
leftmost fails (part ∷ parts) (word ∷ words) =
    if fails part word.text then Some word.place else leftmost fails parts words

-- 1. more bytes than a line has at most
abbrev pub too_long : ℕ → List ℕ → Option LineFault
too_long n line = fault_if (nat_lt MOST_LINE_BYTES (length line)) (fault.TooLong n)

-- 2. the first byte outside 20 to 7e
abbrev pub is_text_byte : ℕ → Bool
is_text_byte byte = nat_le 32 byte && nat_le byte 126

abbrev pub not_text : ℕ → List ℕ → Option LineFault
not_text n line = option_map (λ place. fault.NotText n place) (position (λ byte. not (is_text_byte byte)) line)

-- 3 is in Grammar: the first word is none of the table's

-- 4. the number of words, the first included, is not the table's
abbrev pub wrong_count : ℕ → Form → List Word → Option LineFault
wrong_count n form words =
    fault_if (not (length words == length (parts_of form))) (fault.Count n (length words + 1))

-- 5. no number
abbrev pub is_no_number : Part → List ℕ → Bool
is_no_number CopyCount text = is_none (number_of text)
is_no_number SettleCount text = is_none (number_of text)
is_no_number ShuffleCount text = is_none (number_of text)
is_no_number MessageNumber text = is_none (number_of text)
is_no_number Seed text = is_none (number_of text)
is_no_number DupCount text = is_none (number_of text)
is_no_number part text = false

abbrev pub no_number : ℕ → Form → List Word → Option LineFault
no_number n form words = option_map (λ place. fault.Number n place) (leftmost is_no_number (parts_of form) words)

-- 6. no hexadecimal digits, or not so many as are wanted
abbrev pub is_no_hex : Part → List ℕ → Bool
is_no_hex NewIdentifier text = not (is_identifier text)
is_no_hex Key text = not (is_key text)
is_no_hex NameBytes text = is_none (bytes_of text)
is_no_hex OwnerBytes text = is_none (bytes_of text)
is_no_hex Salt text = is_none (salt_of text)
is_no_hex Content text = is_none (bytes_of text)
is_no_hex NoiseBytes text = is_none (bytes_of text)
is_no_hex part text = false

abbrev pub no_hex : ℕ → Form → List Word → Option LineFault
no_hex n form words = option_map (λ place. fault.Hex n place) (leftmost is_no_hex (parts_of form) words)

-- 7. a name that is not spelled as one, or is used and was not declared before
abbrev pub is_undeclared : Draft → Option (List ℕ) → Bool
is_undeclared draft None = false
is_undeclared draft (Some name) = is_none (file_named draft.files name)

abbrev pub is_no_name : Draft → Part → List ℕ → Bool
is_no_name draft NewNode text = not (is_name text)
is_no_name draft NewFile text = not (is_name text)
is_no_name draft OldNode text = is_none (node_named draft.nodes text)
is_no_name draft OldFile text = is_none (file_named draft.files text)
is_no_name draft NewIdentifier text = is_undeclared draft (behind_at text)
is_no_name draft Key text = is_undeclared draft (behind_at text)
is_no_name draft part text = false

abbrev pub no_name : Draft → ℕ → Form → List Word → Option LineFault
no_name draft n form words =
    option_map (λ place. fault.Name n place) (leftmost (is_no_name draft) (parts_of form) words)

-- 8. a name that was declared before in its kind, or an identifier that is another node's
abbrev pub has_id : List NodeLine → Option ℕ → Bool
has_id nodes None = false
has_id nodes (Some id) = list_any (λ (node : NodeLine). node.id == id) nodes

-- what stands behind the first word of the line
abbrev pub name_of : List Word → List ℕ
name_of [] = []
name_of (name ∷ words) = name.text

abbrev pub is_twice : Draft → List ℕ → Part → List ℕ → Bool
is_twice draft name NewNode text = is_some (node_named draft.nodes text)
is_twice draft name NewFile text = is_some (file_named draft.files text)
is_twice draft name NewIdentifier text = has_id draft.nodes (identifier_in draft name text)
is_twice draft name part text = false

abbrev pub twice : Draft → ℕ → Form → List Word → Option LineFault
twice draft n form words =
    option_map (λ place. fault.Twice n place) (leftmost (is_twice draft (name_of words)) (parts_of form) words)

-- 9. an action, and no founder before it
abbrev pub no_founder : Draft → ℕ → Form → Option LineFault
no_founder draft n form = fault_if (is_action form && is_none draft.founder) (fault.NoFounder n)

-- 10. a second founder
abbrev pub is_first : Form → Bool
is_first First = true
is_first form = false

abbrev pub second_founder : Draft → ℕ → Form → Option LineFault
second_founder draft n form = fault_if (is_first form && is_some draft.founder) (fault.SecondFounder n)

-- 11. a limit: of nodes and files, of the bytes of a name, an owner and a file, of copies, of a dup, and of deliveries, both of one
-- settle or shuffle and of all
abbrev pub is_outside : ℕ → ℕ → ℕ → Bool
is_outside lowest highest n = nat_lt n lowest || nat_lt highest n

abbrev pub passes_deliveries : Draft → ℕ → Bool
passes_deliveries draft count = nat_lt MOST_DELIVERIES ((tally_of draft.actions).deliveries + count)

abbrev pub settle_passes : Draft → ℕ → Bool
settle_passes draft count =
    nat_lt MOST_DELIVERIES count || passes_deliveries draft (count * (tally_of draft.actions).copies)

abbrev pub shuffle_passes : Draft → ℕ → Bool
shuffle_passes draft count = nat_lt MOST_DELIVERIES count || passes_deliveries draft count

abbrev pub passes : Draft → Part → List ℕ → Bool
passes draft NewNode text = nat_le MOST_NODES (length draft.nodes)
passes draft NewFile text = nat_le MOST_FILES (length draft.files)
passes draft NameBytes text = nat_lt MOST_NAME_BYTES (length (bytes_in text))
passes draft OwnerBytes text = nat_lt MOST_NAME_BYTES (length (bytes_in text))
passes draft Content text = nat_lt MOST_BYTES (length (bytes_in text))
passes draft CopyCount text = is_outside 1 MOST_COPIES (amount text)
passes draft SettleCount text = settle_passes draft (amount text)
passes draft ShuffleCount text = shuffle_passes draft (amount text)
passes draft MessageNumber text = passes_deliveries draft 1
passes draft DupCount text = is_outside 1 MOST_REPEATS (amount text)
passes draft part text = false

abbrev pub over_limit : Draft → ℕ → Form → List Word → Option LineFault
over_limit draft n form words =
    option_map (λ place. fault.Limit n place) (leftmost (passes draft) (parts_of form) words)

-- 12. the bytes of a noise are a frame, of either version
abbrev pub is_frame : List ℕ → Bool
is_frame bytes = is_none (refusal bytes)

abbrev pub is_frame_noise : Part → List ℕ → Bool
is_frame_noise NoiseBytes text = is_frame (bytes_in text)
is_frame_noise part text = false

abbrev pub frame : ℕ → Form → List Word → Option LineFault
frame n form words = option_map (λ place. fault.Frame n place) (leftmost is_frame_noise (parts_of form) words)
