-- The one history that a cell of a node has for given inputs.
use Rattle.std.specs.Prelude.{Bool, List, [], ◌∷◌, map}
use Rattle.ring_math.specs.Names.{Id, Stamp}
use Rattle.overlay_rules.specs.State.{State, start}
use Rattle.overlay_rules.specs.Record.{enveloped}
use Rattle.overlay_rules.specs.Step.{step}
use Rattle.weave_laws.specs.Cells.{CellInput, CellEntry, input_of, stamp_after}

-- the entry of an input with this stamp
abbrev pub entry_stamped : Id → State → CellInput → Stamp → CellEntry
entry_stamped x s i stamp = record {
  stamp = stamp;
  input = i;
  sent = map (enveloped stamp x) (step s (input_of i)).sends;
  notes = (step s (input_of i)).notes;
}

-- the entry that comes next, after this stamp and in this state
abbrev pub next_entry : Id → Stamp → State → CellInput → CellEntry
next_entry x last s i = entry_stamped x s i (stamp_after last i)

abbrev pub history_from : Id → Stamp → State → List CellInput → List CellEntry
history_from x last s [] = []
history_from x last s (i ∷ inputs) =
    next_entry x last s i ∷ history_from x (stamp_after last i) (step s (input_of i)).state inputs

abbrev pub history_of : Id → Bool → List CellInput → List CellEntry
history_of x founder inputs = history_from x 0 (start x founder) inputs
