-- The checks of a line of part two. Each gives the fault of line n, or None.
use Rattle.std.specs.Prelude.{ℕ, ◌+◌, nat_lt, not, length, Option, is_none}
use Rattle.ring_math.specs.declared.limits.TheConstants.{MOST_BYTES}
use Rattle.scenario_reader.specs.declared.fault.LineFault.{LineFault}
use Rattle.scenario_reader.specs.declared.fault.LineFault.TheVariants as fault
use Rattle.scenario_reader.specs.declared.limits.TheConstants.{MOST_DELIVERIES}
use Rattle.scenario_reader.specs.Checks.{fault_if}
use Rattle.scenario_reader.specs.Meanings.{bytes_in}
use Rattle.scenario_reader.specs.Plain.{node_named}
use Rattle.scenario_reader.specs.Spelling.{bytes_of, is_name, number_of}
use Rattle.scenario_reader.specs.Words.{Word}
use Rattle.group_reader.specs.Plain.{Draft}

-- a word in the place of a number is none
abbrev pub no_number : ℕ → Word → Option LineFault
no_number n word = fault_if (is_none (number_of word.text)) (fault.Number n word.place)

-- a word in the place of bytes is no pairs of hexadecimal digits, nor `-`
abbrev pub no_bytes : ℕ → Word → Option LineFault
no_bytes n word = fault_if (is_none (bytes_of word.text)) (fault.Hex n word.place)

-- a node that was not declared; a group that is not spelled as a name
abbrev pub no_node : Draft → ℕ → Word → Option LineFault
no_node d n word = fault_if (is_none (node_named d.scenario.nodes word.text)) (fault.Name n word.place)

abbrev pub no_group : ℕ → Word → Option LineFault
no_group n word = fault_if (not (is_name word.text)) (fault.Name n word.place)

-- more bytes than are published
abbrev pub too_many_bytes : ℕ → Word → Option LineFault
too_many_bytes n word = fault_if (nat_lt MOST_BYTES (length (bytes_in word.text))) (fault.Limit n word.place)

-- with so many more there are more deliveries than a script asks for
abbrev pub too_many_deliveries : Draft → ℕ → Word → ℕ → Option LineFault
too_many_deliveries d n word count = fault_if (nat_lt MOST_DELIVERIES (d.deliveries + count)) (fault.Limit n word.place)
