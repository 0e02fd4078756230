-- The fifth invariant of every legal record: the number of a phase is that of a Join command at its node.
use Rattle.std.proofs.Common.{◌≡◌, ℕ, ◌==◌, Bool, true, false, List, [], ◌∷◌, ◌++◌, refl, sym, subst, ◌∙◌}
use Rattle.std.proofs.lemmas.List.Elements.{Contains-append_left, Contains-push}
use Rattle.ring_math.specs.Names.{Id, Number}
use Rattle.wire_msg.specs.declared.command.Command.{Command as NodeCommand}
use Rattle.wire_msg.specs.declared.command.Command.TheVariants as command
use Rattle.overlay_rules.specs.declared.entry.Event.{Event}
use Rattle.overlay_rules.specs.declared.entry.Event.TheVariants as event
use Rattle.overlay_rules.specs.declared.entry.Entry.{Entry}
use Rattle.overlay_rules.specs.State.{State, Phase, Waiting, Asking, Probing, Leasing, Ready, start}
use Rattle.overlay_rules.specs.Outcome.{Outcome, Input, Command, Comes, Noise}
use Rattle.overlay_rules.specs.Step.{step}
use Rattle.overlay_rules.specs.Record.{Setting, World, IsRecord, world_at_start, world_after}
use Rattle.overlay_rules.specs.Rightly.{WasCommanded, WasJoin}
use Rattle.overlay_rules.proofs.Histories.{state_at-each}
use Rattle.overlay_rules.proofs.Seat.{Seat}
use Rattle.overlay_rules.proofs.Seat as rule
use Rattle.overlay_rules.proofs.SeatStep.{step_seat}
use Rattle.step_facts.proofs.Always.{Arrives, commanded, delivered, noised, Takes, after_step, always}

abbrev pub PhaseJoins : (Number → Type 0) → Phase → Type 0
PhaseJoins P (Asking a n) = P n
PhaseJoins P (Probing a n probed) = P n
PhaseJoins P (Leasing a n l r from_left from_right) = P n
PhaseJoins P (Waiting a) = Unit {0}
PhaseJoins P (Ready a l r) = Unit {0}

abbrev InputJoins : (Number → Type 0) → Input → Type 0
InputJoins P (Command n (command.Join via)) = P n
InputJoins P (Command n (command.Lookup key)) = Unit {0}
InputJoins P (Command n (command.Insert file copies bytes)) = Unit {0}
InputJoins P (Command n (command.Fetch file)) = Unit {0}
InputJoins P (Command n (command.Reclaim file)) = Unit {0}
InputJoins P (Command n command.GiveUp) = Unit {0}
InputJoins P (Comes from m) = Unit {0}
InputJoins P Noise = Unit {0}

phase_joins : (P : Number → Type 0) (p q : Phase) → PhaseJoins P p → p ≡ q → PhaseJoins P q
phase_joins P p q h e = subst (PhaseJoins P) e h

seat_joins : (P : Number → Type 0) (s : State) (i : Input) (o : Outcome) → Seat s i o → InputJoins P i → PhaseJoins P s.phase → PhaseJoins P o.state.phase
seat_joins P _ _ _ (rule.serves s i o e f g q) c h = phase_joins P s.phase o.state.phase h (sym e.phase)
seat_joins P _ _ _ (rule.begins s n via a e f) c h = c
seat_joins P _ _ _ (rule.stops_asking s n a m e) c h = tt
seat_joins P _ _ _ (rule.stops_probing s n a m probed e) c h = tt
seat_joins P _ _ _ (rule.stops_leasing s n a m l r fl fr e) c h = tt
seat_joins P _ _ _ (rule.refused s from a m w e) c h = tt
seat_joins P _ _ _ (rule.probes s from a m heard known y ys e f g) c h = phase_joins P s.phase _ h e
seat_joins P _ _ _ (rule.probes_on s from a m heard known old probed new e f g k) c h = phase_joins P s.phase _ h e
seat_joins P _ _ _ (rule.leases s from a m heard known old e f) c h = phase_joins P s.phase _ h e
seat_joins P _ _ _ (rule.denied s from a m l r fl fr w e) c h = tt
seat_joins P _ _ _ (rule.grant_kept s from a m l r fl fr manifest tombs e w) c h = phase_joins P s.phase _ h e
seat_joins P _ _ _ (rule.grant_readies s t from a m l r fl fr left right manifest tombs e f g k i) c h = tt
seat_joins P _ _ _ (rule.file_readies s from a m l r left right file bytes e f g k) c h = tt
seat_joins P _ _ _ (rule.confirms s from a b x y e f) c h = tt
seat_joins P s _ _ m c h = h

pub record JoinsCommanded (w : World) : Type 0 where
  pub phase : (y : Id) → PhaseJoins (WasJoin w y) (w.states y).phase

joins_weaker : (P Q : Number → Type 0) (p : Phase) → ((n : Number) → P n → Q n) → PhaseJoins P p → PhaseJoins Q p
joins_weaker P Q (Asking a n) f h = f n h
joins_weaker P Q (Probing a n probed) f h = f n h
joins_weaker P Q (Leasing a n l r fl fr) f h = f n h
joins_weaker P Q (Waiting a) f h = tt
joins_weaker P Q (Ready a l r) f h = tt

-- ---- one step keeps it

-- what was commanded before an entry was commanded after it
pub was_commanded_later : (w : World) (e : Entry) (s : Id → State) (y : Id) (n : Number) (c : NodeCommand) → WasCommanded w y n c →
    WasCommanded (record { states = s; past = w.past ++ e ∷ [] }) y n c
was_commanded_later w e s y n c h = (h.0, Contains-append_left w.past (e ∷ []) h.0 h.1, h.2)

pub was_join_later : (w : World) (e : Entry) (s : Id → State) (y : Id) (n : Number) → WasJoin w y n →
    WasJoin (record { states = s; past = w.past ++ e ∷ [] }) y n
was_join_later w e s y n h = (h.0, was_commanded_later w e s y n (command.Join h.0) h.1)

command_joins : (v : World) (x : Id) (n : Number) (c : NodeCommand) → WasCommanded v x n c → InputJoins (WasJoin v x) (Command n c)
command_joins v x n (command.Join via) h = (via, h)
command_joins v x n (command.Lookup key) h = tt
command_joins v x n (command.Insert file copies bytes) h = tt
command_joins v x n (command.Fetch file) h = tt
command_joins v x n (command.Reclaim file) h = tt
command_joins v x n command.GiveUp h = tt

-- the command that is an entry's event was given
pub was_commanded : (g : Setting) (w : World) (e : Entry) (x : Id) (i : Input) → Takes g w e x i → (n : Number) (c : NodeCommand) → i ≡ Command n c →
    e.event ≡ event.Command x n c
was_commanded g w e x i t n c is = by e.event refl x i t.arrives is where
  by : (f : Event) → e.event ≡ f → (y : Id) (j : Input) → Arrives w f y j → j ≡ Command n c → e.event ≡ event.Command y n c
  by _ at _ _ (commanded y m d fresh) k = let p = parts m d k in at ∙ (λ z. event.Command y (p.0 z) (p.1 z)) where
    parts : (m : Number) (d : NodeCommand) → Command m d ≡ Command n c → (m ≡ n) × (d ≡ c)
    parts m d e = (cc, cc)
  by _ at _ _ (noised y) k = cc
  by _ at _ _ (delivered m u f) k = cc

input_joins : (g : Setting) (w : World) (e : Entry) (x : Id) (i : Input) → Takes g w e x i → (s : Id → State) →
    InputJoins (WasJoin (record { states = s; past = w.past ++ e ∷ [] }) x) i
input_joins g w e x i t s = by i refl where
  by : (j : Input) → i ≡ j → InputJoins (WasJoin (record { states = s; past = w.past ++ e ∷ [] }) x) j
  by (Command n c) is = command_joins (record { states = s; past = w.past ++ e ∷ [] }) x n c (e, Contains-push w.past e, was_commanded g w e x i t n c is)
  by (Comes from m) is = tt
  by Noise is = tt

pub joins_keep_numbers : (g : Setting) (w : World) (e : Entry) (x : Id) (i : Input) → JoinsCommanded w → Takes g w e x i → JoinsCommanded (after_step w e x i)
joins_keep_numbers g w e x i k t = record {
  phase = λ y. state_at-each (λ z s. PhaseJoins (WasJoin v z) s.phase) w.states x (step (w.states x) i).state y
      (seat_joins (WasJoin v x) (w.states x) i (step (w.states x) i) (step_seat (w.states x) i) (input_joins g w e x i t v.states)
      (joins_weaker (WasJoin w x) (WasJoin v x) (w.states x).phase (was_join_later w e v.states x) (k.phase x)))
      (joins_weaker (WasJoin w y) (WasJoin v y) (w.states y).phase (was_join_later w e v.states y) (k.phase y));
} where
  v : World
  v = after_step w e x i

start_joins : (P : Number → Type 0) (y : Id) (b : Bool) → PhaseJoins P (start y b).phase
start_joins P y true = tt
start_joins P y false = tt

pub joins_at_the_start : (g : Setting) → JoinsCommanded (world_at_start g)
joins_at_the_start g = record { phase = λ y. start_joins (WasJoin (world_at_start g) y) y (y == g.founder) }

pub join_numbers : (g : Setting) (es : List Entry) → IsRecord g es → (i : ℕ) → JoinsCommanded (world_after g es i)
join_numbers g es r i = always g JoinsCommanded (joins_at_the_start g) (record { keeps = joins_keep_numbers g }) es r i
