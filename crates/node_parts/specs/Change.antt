-- What a change makes of a state, part by part.
use Rattle.std.specs.Prelude.{not, ◌||◌, if◌then◌else◌, Option, Some, None, List, [], ◌∷◌, ◌++◌, filter, ◌==◌}
use Rattle.ring_math.specs.Names.{Id, Number, FileId}
use Rattle.ring_math.specs.Sides.{learn, learn_all}
use Rattle.ring_math.specs.declared.file.Held.{Held}
use Rattle.ring_math.specs.Files.{Slot, with_slot, has_entry, has_room, buried_all}
use Rattle.overlay_rules.specs.declared.request.Pending.{Pending}
use Rattle.overlay_rules.specs.State.{State, Lease, Phase, Ready}
use Rattle.overlay_rules.specs.Roots.{with_ask, is_of}
use Rattle.overlay_rules.specs.Gatekeeper.{is_left_to}
use Rattle.past_core.specs.Waits.{taken_out, heard_at}
use Rattle.node_parts.specs.declared.change.Change.{Change}
use Rattle.node_parts.specs.declared.change.Parts.{Parts}
use Rattle.node_parts.specs.declared.change.Rest.{Rest}
use Rattle.node_parts.specs.declared.change.Rest.TheVariants as rest
use Rattle.node_parts.specs.declared.change.SeatChange.{SeatChange}
use Rattle.node_parts.specs.declared.change.SeatChange.TheVariants as seat
use Rattle.node_parts.specs.declared.change.GateChange.{GateChange}
use Rattle.node_parts.specs.declared.change.GateChange.TheVariants as gate
use Rattle.node_parts.specs.declared.change.Learn.{Learn}
use Rattle.node_parts.specs.declared.change.Learn.TheVariants as learns
use Rattle.node_parts.specs.declared.change.StoreChange.{StoreChange}
use Rattle.node_parts.specs.declared.change.StoreChange.TheVariants as store
use Rattle.node_parts.specs.declared.change.PastChange.{PastChange}
use Rattle.node_parts.specs.declared.change.PastChange.TheVariants as past
use Rattle.node_parts.specs.declared.change.Wait.{Wait}
use Rattle.node_parts.specs.declared.change.Wait.TheVariants as wait
use Rattle.node_parts.specs.Seats.{phase_to, heard_phase, granted_phase}

abbrev pub phase_after : SeatChange → Phase → Phase
phase_after seat.Keep p = p
phase_after (seat.To joiner) p = phase_to joiner.value p
phase_after (seat.Granted given) p = granted_phase given.value p
phase_after (seat.Ready a l r) p = Ready a l r

abbrev pub gate_after : GateChange → Option Lease → Option Lease
gate_after gate.Keep g = g
gate_after gate.Clear g = None
gate_after (gate.Set new) g = Some new.value

abbrev pub known_after : Id → Learn → List Id → List Id
known_after me learns.Nothing known = known
known_after me (learns.One y) known = learn me known y
known_after me (learns.Two y z) known = learn me (learn me known y) z
known_after me (learns.All ids) known = learn_all me known ids

-- the slot is set, unless there is neither an entry for the file nor room for one
abbrev pub set_in : List Held → FileId → Slot → List Held
set_in files file slot = if has_entry files file || has_room files then with_slot files file slot else files

abbrev pub files_after : StoreChange → List Held → List Held
files_after store.Keep files = files
files_after (store.Set file slot) files = set_in files file slot
files_after (store.Bury tombs) files = buried_all files tombs

abbrev pub pending_after : PastChange → List Pending → List Pending
pending_after past.Keep ps = ps
pending_after (past.Add p) ps = with_ask ps p.value
pending_after (past.TakeOut place) ps = taken_out ps place
pending_after (past.Hear place awaited) ps = heard_at ps place awaited
pending_after (past.Leave reach joiner) ps = filter (λ p. not (is_left_to reach.value joiner p)) ps
pending_after (past.End file) ps = filter (λ p. not (is_of file p)) ps

abbrev pub waiting_after : Wait → List Number → List Number
waiting_after wait.Keep ns = ns
waiting_after (wait.Add n) ns = ns ++ n ∷ []
waiting_after (wait.Take n) ns = filter (λ m. not (m == n)) ns

-- the command's number waits, or what waits stays
abbrev pub waited : Wait → State → State
waited w s = record s { waiting = waiting_after w s.waiting }

abbrev pub parts_changed : Parts → State → State
parts_changed r s =
    record s {
      phase = phase_after r.seat s.phase;
      left_gate = gate_after r.left_gate s.left_gate;
      right_gate = gate_after r.right_gate s.right_gate;
      known = known_after s.me r.learn s.known;
      files = files_after r.store s.files;
      pending = pending_after r.past s.pending;
    }

-- all but what waits
abbrev pub rest_after : Rest → State → State
rest_after rest.Keep s = s
rest_after (rest.Learnt y) s = record s { known = learn s.me s.known y }
rest_after (rest.Answered from) s = record s { phase = heard_phase from s.phase }
rest_after (rest.Heard from ys) s = record s { phase = heard_phase from s.phase; known = learn_all s.me s.known ys }
rest_after (rest.Parts r) s = parts_changed r.value s

abbrev pub changed : Change → State → State
changed c s = waited c.waiting (rest_after c.rest s)
